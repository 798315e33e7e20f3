-- What matters of the members of a conflict, as it is shown.
use Rattle.std.specs.Prelude.{ℕ, ◌==◌, nat_lt, not, Bool, true, false, if◌then◌else◌, List, [], ◌∷◌, ◌++◌, length, slice_get, Option, Some, None}
use Rattle.std.specs.Global.{Box}
use Rattle.ltl_syntax.specs.Print.{text_of as printed}
use Rattle.ltl_syntax.specs.Table.{Table, tree_at}
use Rattle.requirement_questions.specs.declared.parting.Core.{Core}

-- a number between braces, which a fresh letter is printed as, becomes `…`: whether the next byte stands between braces
abbrev pub is_inside : Bool → ℕ → Bool
is_inside false b = b == 123
is_inside true b = not (b == 125)

-- what stands for a byte
abbrev pub elided_byte : Bool → ℕ → List ℕ
elided_byte false b = if b == 123 then (226 ∷ 128 ∷ 166 ∷ []) else (b ∷ [])
elided_byte true b = []

-- what stands for a text, which begins between braces or not
abbrev pub elided_from : Bool → List ℕ → List ℕ
elided_from inside [] = []
elided_from inside (b ∷ bs) = elided_byte inside b ++ elided_from (is_inside inside b) bs

abbrev pub elided : List ℕ → List ℕ
elided text = elided_from false text

-- ---- the part of a member, where there is a core that has one

abbrev pub part_at : Table → ℕ → Option (List ℕ)
part_at t root = if nat_lt root (length t.nodes) then Some (elided (printed (tree_at t root))) else None

abbrev pub part_under : Table → Option ℕ → Option (List ℕ)
part_under t None = None
part_under t (Some root) = part_at t root

-- members are counted from 0
abbrev pub part_of : Option Core → ℕ → Option (List ℕ)
part_of None k = None
part_of (Some core) k = part_under core.table (slice_get core.parts.items k)

-- ---- the core of a conflict, where it is known

abbrev pub core_in : Option (Option (Box Core)) → Option Core
core_in None = None
core_in (Some None) = None
core_in (Some (Some core)) = Some core.value

-- conflicts are counted from 0
abbrev pub core_at : List (Option (Box Core)) → ℕ → Option Core
core_at cores k = core_in (slice_get cores k)
