-- The numbers of a group's entries are those of the closure's members of the group.
use Rattle.std.proofs.Common.{◌≡◌, ℕ, suc, ◌+◌, ◌<◌, Bool, true, false, refl, sym, ◌∙◌, ap, ap₂, arith, List, [], ◌∷◌, ◌++◌, length, map, filter, get_or, take}
use Rattle.std.proofs.Common.{length-take, if◌then◌else◌}
use Rattle.std.proofs.Math.Seq.{take-suc}
use Rattle.std.proofs.lemmas.List.{append-nil}
use Rattle.ltl_syntax.specs.Formula.{Formula, Name, Fresh}
use Rattle.ltl_closure.specs.Norm.{Norm, NConst, NLetter}
use Rattle.ltl_closure.specs.Closure.{closure}
use Rattle.ltl_closure.specs.Entries.{place_in, StandsAmong, AreEntries, numbers_of}
use Rattle.ltl_closure.specs.Groups.{is_of, in_group, group_numbers}
use Rattle.ltl_closure.specs.declared.entry.Entry.{Entry}
use Rattle.ltl_closure.specs.declared.entry.Entry.TheVariants as Is
use Rattle.ltl_closure.specs.declared.group.Group.{Group}
use Rattle.ltl_closure.specs.declared.group.Group.TheVariants as groups
use Rattle.ltl_closure.proofs.Places.{closure_placed}

-- one entry more
pub numbers_push : (g : Group) (n : ℕ) (xs : List Entry) (x : Entry)
    → group_numbers g n (xs ++ x ∷ []) ≡ group_numbers g n xs ++ (if in_group g x then (n + length xs) ∷ [] else [])
numbers_push g n [] x = let e : n + 0 ≡ n = omega arith in rw e (by (in_group g x))
  where
    by : (b : Bool) → (if b then n ∷ [] else []) ≡ (if b then n ∷ [] else [])
    by b = refl
numbers_push g n (y ∷ ys) x =
    let e : suc n + length ys ≡ n + suc (length ys) = omega arith in
    let ih = numbers_push g (suc n) ys x in
    by (in_group g y) (rw e at ih)
  where
    by : (b : Bool) → group_numbers g (suc n) (ys ++ x ∷ []) ≡ group_numbers g (suc n) ys ++ (if in_group g x then (n + suc (length ys)) ∷ [] else [])
        → (if b then n ∷ group_numbers g (suc n) (ys ++ x ∷ []) else group_numbers g (suc n) (ys ++ x ∷ []))
        ≡ (if b then n ∷ group_numbers g (suc n) ys else group_numbers g (suc n) ys) ++ (if in_group g x then (n + suc (length ys)) ∷ [] else [])
    by true ih = ap (λ l. n ∷ l) ih
    by false ih = ih

-- an entry is of the groups of what it stands for
same_group : (names : List (List ℕ)) (kept : List Norm) (g : Group) (e : Norm) (x : Entry) → StandsAmong names kept e x → in_group g x ≡ is_of g e
same_group names kept groups.Nexts (NConst true) x is = ap (in_group groups.Nexts) is
same_group names kept groups.Nexts (NConst false) x is = ap (in_group groups.Nexts) is
same_group names kept groups.Nexts (NLetter (Name bytes)) x is = ap (in_group groups.Nexts) is.1
same_group names kept groups.Nexts (NLetter (Fresh n)) x is = ap (in_group groups.Nexts) is
same_group names kept groups.Nexts e x is = ap (in_group groups.Nexts) is
same_group names kept groups.Yesterdays (NConst true) x is = ap (in_group groups.Yesterdays) is
same_group names kept groups.Yesterdays (NConst false) x is = ap (in_group groups.Yesterdays) is
same_group names kept groups.Yesterdays (NLetter (Name bytes)) x is = ap (in_group groups.Yesterdays) is.1
same_group names kept groups.Yesterdays (NLetter (Fresh n)) x is = ap (in_group groups.Yesterdays) is
same_group names kept groups.Yesterdays e x is = ap (in_group groups.Yesterdays) is
same_group names kept groups.Eventualities (NConst true) x is = ap (in_group groups.Eventualities) is
same_group names kept groups.Eventualities (NConst false) x is = ap (in_group groups.Eventualities) is
same_group names kept groups.Eventualities (NLetter (Name bytes)) x is = ap (in_group groups.Eventualities) is.1
same_group names kept groups.Eventualities (NLetter (Fresh n)) x is = ap (in_group groups.Eventualities) is
same_group names kept groups.Eventualities e x is = ap (in_group groups.Eventualities) is

-- entries that stand one by one for members with their places
numbers_along : (names : List (List ℕ)) (kept : List Norm) (g : Group) (n : ℕ) (es : List Norm) (xs : List Entry) → length xs ≡ length es
    → ((k : ℕ) → k < length es → StandsAmong names kept (get_or es k (NConst false)) (get_or xs k Is.True))
    → ((k : ℕ) → k < length es → place_in kept (get_or es k (NConst false)) ≡ n + k)
    → group_numbers g n xs ≡ map (place_in kept) (filter (is_of g) es)
numbers_along names kept g n [] [] long each placed = refl
numbers_along names kept g n [] (x ∷ xs) long each placed = absurd (omega arith)
numbers_along names kept g n (e ∷ es) [] long each placed = absurd (omega arith)
numbers_along names kept g n (e ∷ es) (x ∷ xs) long each placed =
    let first : place_in kept e ≡ n = placed 0 (omega arith) ∙ omega arith in
    let rest = numbers_along names kept g (suc n) es xs (omega arith) (λ k lt. each (suc k) (omega arith))
    (λ k lt. let p = placed (suc k) (omega arith) in p ∙ omega arith) in
    by (in_group g x) (is_of g e) (same_group names kept g e x (each 0 (omega arith))) first rest
  where
    by : (a b : Bool) → a ≡ b → place_in kept e ≡ n → group_numbers g (suc n) xs ≡ map (place_in kept) (filter (is_of g) es)
        → (if a then n ∷ group_numbers g (suc n) xs else group_numbers g (suc n) xs) ≡ map (place_in kept)
        (if b then e ∷ filter (is_of g) es else filter (is_of g) es)
    by true true same first rest = ap₂ ◌∷◌ (sym first) rest
    by false false same first rest = rest
    by true false same first rest = absurd (cc)
    by false true same first rest = absurd (cc)

pub group_is : (names : List (List ℕ)) (f : Formula) (g : Group) (xs : List Entry) → AreEntries names f xs
    → group_numbers g 1 xs ≡ numbers_of f (filter (is_of g) (closure f))
group_is names f g xs are =
    numbers_along names (closure f) g 1 (closure f) xs are.long are.each (λ k lt. closure_placed f k (NConst false) lt ∙ omega arith)

module _ (g : Group) (xs : List Entry) (i : ℕ) (d : Entry) (lt : i < length xs) where
  numbers_next : group_numbers g 1 (take (i + 1) xs) ≡ group_numbers g 1 (take i xs) ++ (if in_group g (get_or xs i d) then (i + 1) ∷ [] else [])
  numbers_next =
      let e : i + 1 ≡ suc i = omega arith in
      let l : 1 + length (take i xs) ≡ i + 1 = omega (arith, length-take i xs) in
      ap (λ n. group_numbers g 1 (take n xs)) e ∙ ap (group_numbers g 1) (take-suc xs i d lt) ∙ numbers_push g 1 (take i xs) (get_or xs i d)
      ∙ ap (λ n. group_numbers g 1 (take i xs) ++ (if in_group g (get_or xs i d) then n ∷ [] else [])) l

  pub numbers_without : in_group g (get_or xs i d) ≡ false → group_numbers g 1 (take i xs) ≡ group_numbers g 1 (take (i + 1) xs)
  numbers_without e =
      sym (numbers_next ∙ ap (λ b. group_numbers g 1 (take i xs) ++ (if b then (i + 1) ∷ [] else [])) e ∙ append-nil (group_numbers g 1 (take i xs)))

  pub numbers_with : in_group g (get_or xs i d) ≡ true → group_numbers g 1 (take i xs) ++ (i + 1) ∷ [] ≡ group_numbers g 1 (take (i + 1) xs)
  numbers_with e = sym (numbers_next ∙ ap (λ b. group_numbers g 1 (take i xs) ++ (if b then (i + 1) ∷ [] else [])) e)
