-- A target that names a line.
use Rattle.std.proofs.Common.{◌≡◌, ◌↔◌, ◌⊎◌, ℕ, zero, suc, ◌+◌, ◌-◌, ◌<◌, ◌≤◌, Bool, IsTrue, List, [], ◌∷◌, length, get_or, Some, None, slice_get, All}
use Rattle.std.proofs.Common.{Contains, refl, sym, ap, subst, ◌∙◌, arith}
use Rattle.cnf_base.specs.declared.literal.Literal.{Literal}
use Rattle.cnf_base.specs.Step.{numbered, clause_at}
use Rattle.enc_layout.specs.Targets.{IsTarget}

there : (lines : List (List Literal)) (m : ℕ) → m < length lines → slice_get lines m ≡ Some (get_or lines m [])
there [] m lt = absurd (omega arith)
there (line ∷ lines) zero lt = refl
there (line ∷ lines) (suc m) lt = there lines m (omega arith)

pub named : (lines : List (List Literal)) (n : ℕ) → 1 ≤ n → n ≤ length lines → numbered lines n ≡ Some (clause_at lines n)
named lines zero one most = absurd (omega arith)
named lines (suc m) one most = let e : m ≡ suc m - 1 = omega arith in there lines m (omega arith) ∙ ap (λ k. Some (get_or lines k [])) e

pub not_named : (lines : List (List Literal)) (n : ℕ) → (n < 1) ⊎ (length lines < n) → numbered lines n ≡ None
not_named lines zero out = refl
not_named lines (suc m) out = none lines m (omega (arith, out))
  where
    none : (ls : List (List Literal)) (k : ℕ) → length ls ≤ k → slice_get ls k ≡ None
    none [] k most = refl
    none (l ∷ ls) zero most = absurd (omega arith)
    none (l ∷ ls) (suc k) most = none ls k (omega arith)

pub names_target : (lines : List (List Literal)) (targets : List ℕ) (i : ℕ) (literals : List Literal) (b : Bool) → 1 ≤ get_or targets i 0
    → get_or targets i 0 ≤ length lines
    → (IsTrue b ↔ All (Contains literals) (clause_at lines (get_or targets i 0))) → IsTrue b ↔ IsTarget lines targets i literals
names_target lines targets i literals b one most are =
    let is = named lines (get_or targets i 0) one most in
    (λ h. (clause_at lines (get_or targets i 0), is, are.0 h), λ w. are.1 (same w.0 (sym is ∙ w.1) w.2))
  where
    same : (line : List Literal) → Some (clause_at lines (get_or targets i 0)) ≡ Some line → All (Contains literals) line
        → All (Contains literals) (clause_at lines (get_or targets i 0))
    same line e all = let is : clause_at lines (get_or targets i 0) ≡ line = cc in subst (All (Contains literals)) (sym is) all

-- the clause of number n + 1 is the one at place n
pub own : (claims : List (List Literal)) (n : ℕ) (claim : List Literal) → claim ≡ clause_at claims (n + 1) → claim ≡ get_or claims n []
own claims n claim is = let e : n + 1 - 1 ≡ n = omega arith in is ∙ ap (λ k. get_or claims k []) e
