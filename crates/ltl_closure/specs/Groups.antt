-- The entries of a group, and their numbers.
use Rattle.std.specs.Prelude.{ℕ, suc, Bool, true, false, List, [], ◌∷◌, if◌then◌else◌}
use Rattle.ltl_closure.specs.Norm.{Norm}
use Rattle.ltl_closure.specs.Closure.{is_next, is_yesterday, is_eventuality}
use Rattle.ltl_closure.specs.declared.entry.Entry.{Entry}
use Rattle.ltl_closure.specs.declared.entry.Entry.TheVariants as Is
use Rattle.ltl_closure.specs.declared.group.Group.{Group}
use Rattle.ltl_closure.specs.declared.group.Group.TheVariants as groups

-- whether the normal form is of the group
abbrev pub is_of : Group → Norm → Bool
is_of groups.Nexts e = is_next e
is_of groups.Yesterdays e = is_yesterday e
is_of groups.Eventualities e = is_eventuality e

-- whether the entry is of the group
abbrev pub in_group : Group → Entry → Bool
in_group groups.Nexts (Is.Next a w) = true
in_group groups.Yesterdays (Is.Yesterday a w) = true
in_group groups.Eventualities (Is.Until a b r) = true
in_group g x = false

-- the numbers of the group's entries, where the first entry has this number
abbrev pub group_numbers : Group → ℕ → List Entry → List ℕ
group_numbers g n [] = []
group_numbers g n (x ∷ xs) = if in_group g x then n ∷ group_numbers g (suc n) xs else group_numbers g (suc n) xs
