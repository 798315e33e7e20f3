-- Each formula within the limit on sizes has a limit in force, and the formulas that replacement makes of it are within the limit as well.
use Rattle.std.proofs.Common.{◌≡◌, ℕ, zero, suc, ◌+◌, ◌≤◌, inl, inr, subst, arith, length, Bool, true, false, cond}
use Rattle.std.proofs.lemmas.Bool.{cases_lt}
use native.Mathlib.Decide.{dec_le}
use Rattle.ltl_syntax.specs.declared.node.Kind.{Kind}
use Rattle.ltl_syntax.specs.Formula.{Fresh, Formula, Const, Letter, Unary, Binary, nodes_in}
use Rattle.ltl_syntax.specs.Size.{formula_size}
use Rattle.ltl_syntax.specs.Replacement.{Places, replaced_from, rep_from, rep}
use Rattle.enc_layout.specs.Letters.{Fits, letters_through}
use Rattle.enc_layout.specs.Clauses.{counts}
use Rattle.enc_layout.specs.Limit.{layout, IsInForce}
use Rattle.enc_layout.proofs.Counting.{counts_few}
use Rattle.enc_layout.proofs.Fitting.{first_fits}
use Rattle.core_extract.proofs.Tabled.{small_closure}

-- ---- the limit in force

module _ (f : Formula) (kind : Kind) (first : Fits (layout f kind) 0) where
  greatest : (n : ℕ) → (d : ℕ) × IsInForce f kind n d
  greatest zero = (zero, record { below = omega arith; fits = first; greatest = λ e le fits. le })
  greatest (suc n) = elim (dec_le (letters_through kind (counts f) (suc n)) 16777216) [
    | yes fits ↦ (suc n, record { below = omega arith; fits = fits; greatest = λ e le fits'. le })
    | no none ↦
        let w = greatest n in
        let low = w.1.below in (
          w.0,
          record {
            below = omega arith;
            fits = w.1.fits;
            greatest = λ e le fits. elim (cases_lt e (suc n)) [
              | inl lt ↦ w.1.greatest e (omega arith) fits
              | inr ge ↦ let same : e ≡ suc n = omega arith in absurd (none (subst (Fits (layout f kind)) same fits))
            ];
          },
        )
  ]

pub limit_there : (f : Formula) (kind : Kind) (asked : ℕ) → formula_size f ≤ 16384 → (d : ℕ) × IsInForce f kind asked d
limit_there f kind asked small = greatest f kind (first_fits (layout f kind) (counts_few f (small_closure f small))) asked

-- ---- the size of a formula with occurrences replaced

some_size : (f : Formula) → 1 ≤ formula_size f
some_size (Unary op a) = omega (arith, some_size a)
some_size other = omega arith

one_or : (b : Bool) (next : ℕ) (g : Formula) (n : ℕ) → 1 ≤ n → formula_size g ≤ n → formula_size (cond b (Letter (Fresh next)) g) ≤ n
one_or true next g n one le = one
one_or false next g n one le = le

replaced_size : (P : Places) (at next : ℕ) (f : Formula) → formula_size (rep_from P at next f) ≤ formula_size f
replaced_size P at next (Const b) = one_or (P at) next (Const b) 1 (omega arith) (omega arith)
replaced_size P at next (Letter p) = one_or (P at) next (Letter p) 1 (omega arith) (omega arith)
replaced_size P at next (Unary op a) =
    let less = replaced_size P (suc at) next a in
    one_or (P at) next (Unary op (rep_from P (suc at) next a)) (formula_size (Unary op a)) (some_size (Unary op a)) (omega arith)
replaced_size P at next (Binary op a b) =
    let left = replaced_size P (suc at) next a in
    let right = replaced_size P (suc at + nodes_in a) (next + length (replaced_from P (suc at) a)) b in
    one_or (P at) next (Binary op (rep_from P (suc at) next a) (rep_from P (suc at + nodes_in a) (next + length (replaced_from P (suc at) a)) b))
    (formula_size (Binary op a b)) (some_size (Binary op a b)) (omega arith)

pub rep_small : (f : Formula) (P : Places) (n : ℕ) → formula_size f ≤ n → formula_size (rep f P) ≤ n
rep_small f P n small = let less = replaced_size P 0 0 f in omega arith
