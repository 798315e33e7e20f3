-- The letters of a closure: each stands once, so its place among them is its number.
use Rattle.std.proofs.Common.{◌≡◌, ℕ, zero, suc, ◌-◌, ◌<◌, Bool, true, false, cond, List, [], ◌∷◌, length, get_or, filter, Contains, refl, ◌∙◌, ap, subst}
use Rattle.std.proofs.Common.{arith, if◌then◌else◌}
use Rattle.std.proofs.lemmas.Bool.{cond-true, cond-false}
use Rattle.std.proofs.lemmas.List.Elements.{Contains-get_or}
use Rattle.ltl_syntax.specs.Formula.{Formula}
use Rattle.ltl_closure.specs.Norm.{Norm}
use Rattle.ltl_closure.specs.Closure.{closure, same}
use Rattle.ltl_closure.specs.Entries.{place_in}
use Rattle.ltl_closure.proofs.Lists.{Contains-from_filter}
use Rattle.ltl_closure.proofs.Again.{same_self}
use Rattle.ltl_closure.proofs.Places.{entry_place, place_within, place_from_one, closure_placed}
use Rattle.ltl_run.specs.States.{is_letter, letters}

-- no two members are the same
abbrev AreApart : List Norm → Type 0
AreApart [] = Unit {0}
AreApart (x ∷ xs) = ((e : Norm) → Contains xs e → same x e ≡ false) × AreApart xs

not_first : (b : Bool) (n k : ℕ) → (if b then 1 else suc n) ≡ suc (suc k) → (b ≡ false) × (n ≡ suc k)
not_first true n k e = absurd (omega arith)
not_first false n k e = (refl, omega arith)

apart_of_placed : (xs : List Norm) → ((k : ℕ) (d : Norm) → k < length xs → place_in xs (get_or xs k d) ≡ suc k) → AreApart xs
apart_of_placed [] p = tt
apart_of_placed (x ∷ xs) p = (
  λ e c.
      let lt : place_in xs e - 1 < length xs = omega (arith, place_within xs e c, place_from_one xs e) in
      subst (λ z. same x z ≡ false) (entry_place xs e x c)
      (not_first (same x (get_or xs (place_in xs e - 1) x)) _ (place_in xs e - 1) (p (suc (place_in xs e - 1)) x (omega arith))).0,
  apart_of_placed xs (λ k d lt. (not_first (same x (get_or xs k d)) _ k (p (suc k) d (omega arith))).1),
)

apart_cond : (x : Norm) (rest : List Norm) (b : Bool) → ((e : Norm) → Contains rest e → same x e ≡ false) → AreApart rest → AreApart (cond b (x ∷ rest) rest)
apart_cond x rest true h a = (h, a)
apart_cond x rest false h a = a

apart_filter : (p : Norm → Bool) (xs : List Norm) → AreApart xs → AreApart (filter p xs)
apart_filter p [] a = tt
apart_filter p (x ∷ xs) a = apart_cond x (filter p xs) (p x) (λ e c. a.0 e (Contains-from_filter p xs e c).0) (apart_filter p xs a.1)

placed_of_apart : (xs : List Norm) → AreApart xs → (k : ℕ) (d : Norm) → k < length xs → place_in xs (get_or xs k d) ≡ suc k
placed_of_apart [] a k d lt = absurd (omega arith)
placed_of_apart (x ∷ xs) a zero d lt = cond-true _ _ _ (same_self x x refl)
placed_of_apart (x ∷ xs) a (suc k) d lt =
    cond-false _ _ _ (a.0 (get_or xs k d) (Contains-get_or xs k d (omega arith))) ∙ ap suc (placed_of_apart xs a.1 k d (omega arith))

-- the letter at a place has it as its number
pub letters_placed : (f : Formula) (k : ℕ) (d : Norm) → k < length (letters f) → place_in (letters f) (get_or (letters f) k d) ≡ suc k
letters_placed f = placed_of_apart (letters f) (apart_filter is_letter (closure f) (apart_of_placed (closure f) (closure_placed f)))
