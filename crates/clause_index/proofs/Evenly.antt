-- Literals evenly apart, by their places.
use Rattle.std.proofs.Common.{◌≡◌, ℕ, zero, suc, ◌+◌, ◌-◌, ◌*◌, ◌<◌, ◌≤◌, arith, sym, ◌∙◌, ap, refl, inl, inr, List, [], ◌∷◌, ◌++◌, length, get_or}
use Rattle.std.proofs.Common.{get_or-append-add}
use Rattle.std.specs.Prelude.{slice_get, Some}
use Rattle.std.proofs.lemmas.Bool.{cases_lt}
use Rattle.std.proofs.lemmas.Nat.{mul-le}
use Rattle.std.proofs.lemmas.List.{get_or_append_left}
use Rattle.std.proofs.lemmas.Option.{slice_get-get_or}
use Rattle.cnf_base.specs.declared.literal.Literal.{Literal as Signed}
use Rattle.enc_layout.proofs.Numbers.{length-below}
use Rattle.clause_index.specs.Runs.{plain, evenly}

pub evenly_long : (first apart count : ℕ) → length (evenly first apart count) ≡ count
evenly_long first apart count = let e = length-below 1 count (λ k. plain (first + k * apart) ∷ []) (λ k. refl) in omega arith

-- the letters are no greater than the last
pub evenly_letter : (first apart count k : ℕ) → k < count → first + (count - 1) * apart ≤ 16777216 → first + k * apart ≤ 16777216
evenly_letter first apart count k lt last = let m = mul-le k apart (count - 1) apart (omega arith) (omega arith) in omega arith

pub evenly_place : (first apart count : ℕ) (now : List Signed) (k : ℕ) → evenly first apart count ≡ now → k < length now → k < count
evenly_place first apart count now k is lt = let e = evenly_long first apart count in let s = ap length is in omega arith

evenly_get : (first apart count k : ℕ) (d : Signed) → k < count → get_or (evenly first apart count) k d ≡ plain (first + k * apart)
evenly_get first apart zero k d lt = absurd (omega arith)
evenly_get first apart (suc n) k d lt = elim (cases_lt k n) [
  | inl before ↦ get_or_append_left (evenly first apart n) (plain (first + n * apart) ∷ []) d k (omega (arith, evenly_long first apart n))
      ∙ evenly_get first apart n k d before
  | inr here ↦
      let e : k ≡ n = omega arith in
      let l : k ≡ length (evenly first apart n) + 0 = omega (arith, evenly_long first apart n) in
      ap (λ i. get_or (evenly first apart n ++ plain (first + n * apart) ∷ []) i d) l
      ∙ (get_or-append-add (evenly first apart n) (plain (first + n * apart) ∷ []) 0 d ∙ ap (λ i. plain (first + i * apart)) (sym e))
]

pub evenly_at : (first apart count k : ℕ) → k < count → slice_get (evenly first apart count) k ≡ Some (plain (first + k * apart))
evenly_at first apart count k lt =
    slice_get-get_or (evenly first apart count) k (plain 0) (omega (arith, evenly_long first apart count))
    ∙ ap Some (evenly_get first apart count k (plain 0) lt)
