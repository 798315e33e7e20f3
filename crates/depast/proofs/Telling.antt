-- The new names differ from the letters of the formula and from each other.
use Rattle.std.proofs.Common.{◌≡◌, ℕ, zero, suc, ◌<◌, ◌≤◌, ◌^◌, inl, inr, refl, ◌∙◌, ap, arith, Bool, true, false, List, ◌∷◌, ◌++◌}
use Rattle.std.specs.Fmt.{decimal}
use Rattle.std.specs.Bool.{Decides}
use Rattle.std.specs.Str.{bytes_eq}
use Rattle.std.proofs.lemmas.Slice.Eq.{bytes_eq-Decides}
use Rattle.std.proofs.lemmas.Fmt.{decimal_injective}
use Rattle.std.proofs.lemmas.List.{append_cancel_left}
use Rattle.ltl_syntax.specs.Formula.{Atom, Formula, Const, Letter, Unary, Binary}
use Rattle.ltl_word.specs.Holds.{name_of}
use Rattle.ltl_word.specs.Propositional.{HasLetter}
use Rattle.ltl_word.proofs.Search.{first_or_none}
use Rattle.depast.specs.Names.{leading, most_leading, underscores, new_name}
use Rattle.depast.specs.Depast.{taken}
use Rattle.depast.specs.Lifting.{IsOld}

leading_underscores : (n : ℕ) (rest : List ℕ) → leading (underscores n ++ 112 ∷ rest) ≡ n
leading_underscores zero rest = refl
leading_underscores (suc n) rest = ap suc (leading_underscores n rest)

letter_leads : (f : Formula) (p : Atom) → HasLetter f p → leading (name_of p) ≤ most_leading f
letter_leads (Const b) p h = absurd h
letter_leads (Letter q) p h = let e : leading (name_of q) ≡ leading (name_of p) = ap (λ x. leading (name_of x)) h in omega arith
letter_leads (Unary op a) p h = letter_leads a p h
letter_leads (Binary op a b) p (inl h) = let r = letter_leads a p h in omega arith
letter_leads (Binary op a b) p (inr h) = let r = letter_leads b p h in omega arith

-- a letter of the formula is no new name
pub letter_old : (f : Formula) (p : Atom) → HasLetter f p → IsOld f (name_of p)
letter_old f p h k lt e =
    let small = letter_leads f p h in
    let more : leading (name_of p) ≡ suc (most_leading f) = ap leading e ∙ leading_underscores (suc (most_leading f)) (decimal k) in
    omega arith

tail_of : (x : ℕ) (xs ys : List ℕ) → x ∷ xs ≡ x ∷ ys → xs ≡ ys
tail_of x xs ys e = cc

-- two new names with different numbers differ
pub one_number : (q j k : ℕ) → j < 2 ^ 64 → k < 2 ^ 64 → new_name q j ≡ new_name q k → j ≡ k
one_number q j k lj lk e =
    decimal_injective j k lj lk (tail_of 112 (decimal j) (decimal k) (append_cancel_left (underscores (suc q)) (112 ∷ decimal j) (112 ∷ decimal k) e))

pub text_decided : (xs ys : List ℕ) → Dec (xs ≡ ys)
text_decided xs ys = turn (bytes_eq xs ys) (bytes_eq-Decides xs ys) where
  turn : (b : Bool) → Decides b (xs ≡ ys) → Dec (xs ≡ ys)
  turn true d = yes (d.0 refl)
  turn false d = no (λ e. let f : false ≡ true = d.1 e in cc)

pub old_decided : (f : Formula) (name : List ℕ) → Dec (IsOld f name)
old_decided f name = elim (first_or_none (λ k. name ≡ new_name (most_leading f) k) (λ k. text_decided name (new_name (most_leading f) k)) (taken f)) [
  | inl w ↦ no (λ old. old w.0 w.1 w.2)
  | inr none ↦ yes none
]
