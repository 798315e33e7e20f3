-- The core is one, it is Closed where the formula is, and each further replacement of a kept occurrence is Open.
use Rattle.std.proofs.Common.{◌≡◌, ℕ, zero, suc, inl, inr, subst, arith, sym, refl, ◌∙◌}
use Rattle.ltl_syntax.specs.declared.node.Kind.{Kind}
use Rattle.ltl_syntax.specs.Formula.{Formula, nodes_in}
use Rattle.ltl_closure.specs.Run.{IsVerdict, Sat, Unsat, Undecided}
use Rattle.ltl_run.proofs.Unique.{verdict_is_one}
use Rattle.ltl_run.proofs.Least.{unsat_has_no_trace}
use Rattle.ltl_run.specs.Laws.{HasNoTrace}
use Rattle.ltl_syntax.specs.Replacement.{Places, nowhere, AreSame, IsKept, AreApart, added, rep}
use Rattle.core_extract.specs.Core.{Test, IsExclusive, IsPass, AreChanging, IsReached, IsCore, IsRefuted, tableau}
use Rattle.enc_layout.specs.Limit.{IsInForce}
use Rattle.ltl_syntax.proofs.Places.{one_set, same_rep, nothing_replaced}
use Rattle.core_extract.proofs.Walks.{walk_one, walk_same, walk_closed, walk_apart, walk_falls}

-- a formula has one limit in force
one_limit : (g : Formula) (kind : Kind) (asked d e : ℕ) → IsInForce g kind asked d → IsInForce g kind asked e → d ≡ e
one_limit g kind asked d e h i =
    let a = i.greatest d h.below h.fits in
    let b = h.greatest e i.below i.fits in omega arith

-- and one verdict there
pub tableau_exclusive : (kind : Kind) (asked : ℕ) → IsExclusive (tableau kind asked)
tableau_exclusive kind asked g (d, k, force, closed) (e, m, force', open') =
    let same = one_limit g kind asked d e force force' in
    let closed' : IsVerdict g kind e (Unsat k) = subst (λ l. IsVerdict g kind l (Unsat k)) same closed in
    elim open' [
      | inl sat ↦ let x = verdict_is_one g kind e (Unsat k) (Sat m) closed' sat in cc
      | inr other ↦ let x = verdict_is_one g kind e (Unsat k) (Undecided m) closed' other in cc
    ]

module _ (T : Test) (f : Formula) where
  abbrev Pass : Places → Places → Type 0
  Pass P Q = IsPass T f P Q

  abbrev Passes : ℕ → Places → Places → Type 0
  Passes m P Q = AreChanging T f m P Q

  pass_moved : (P Q : Places) → AreSame P Q → Pass Q Q → Pass P P
  pass_moved P Q same w = subst (λ X. Pass X X) (sym (one_set P Q same)) w

  -- one changing pass more
  pub passes_more : (m : ℕ) (S P R : Places) → Passes m S P → Pass P R → (AreSame P R → ⊥) → Passes (suc m) S R
  passes_more zero S P R v w changed = let e = sym (one_set S P v) in (R, subst (λ X. Pass X R) e w, subst (λ X. AreSame X R → ⊥) e changed, λ n. refl)
  passes_more (suc m) S P R v w changed = (v.0, v.1, v.2, passes_more m v.0 P R v.3 w changed)

  pub passes_closed : (m : ℕ) (P Q : Places) → Passes m P Q → T.Closed (rep f P) → T.Closed (rep f Q)
  passes_closed zero P Q w c = subst (λ X. T.Closed (rep f X)) (one_set P Q w) c
  passes_closed (suc m) P Q w c = passes_closed m w.0 Q w.3 (walk_closed T f (nodes_in f) 0 P w.0 w.1 c)

  pub passes_apart : (m : ℕ) (P Q : Places) → Passes m P Q → AreApart f P → AreApart f Q
  passes_apart zero P Q w h = subst (AreApart f) (one_set P Q w) h
  passes_apart (suc m) P Q w h = passes_apart m w.0 Q w.3 (walk_apart T f (nodes_in f) 0 P w.0 w.1 h)

  -- a pass that changes nothing takes nothing
  pub pass_idle : (P : Places) → Pass P P → (n : ℕ) → IsKept f P n → T.Open (rep f (added f P n))
  pass_idle P w n kept = elim (walk_falls T f (nodes_in f) 0 P P w) [
    | inl x ↦ let t = kept.there in x.1 n (omega arith) (omega arith) kept
    | inr lt ↦ absurd (omega arith)
  ]

  pub settled : (P Q : Places) → Pass P Q → AreSame P Q → Pass P P
  settled P Q w same = walk_same T f (nodes_in f) 0 P Q P w (λ n. sym (same n))

  module _ (exclusive : IsExclusive T) where
    pass_one : (P Q R : Places) → Pass P Q → Pass P R → AreSame Q R
    pass_one P Q R v w = walk_one T f exclusive (nodes_in f) 0 P Q R v w

    -- passes lead to one set
    pub passes_one : (m n : ℕ) (P Q R : Places) → Passes m P Q → Pass Q Q → Passes n P R → Pass R R → AreSame Q R
    passes_one zero zero P Q R v last w last' = λ n. sym (v n) ∙ w n
    passes_one zero (suc n) P Q R v last w last' = absurd (w.2 (pass_one P P w.0 (pass_moved P Q v last) w.1))
    passes_one (suc m) zero P Q R v last w last' = absurd (v.2 (pass_one P P v.0 (pass_moved P R w last') v.1))
    passes_one (suc m) (suc n) P Q R v last w last' =
        let same = pass_one P v.0 w.0 v.1 w.1 in
        passes_one m n w.0 Q R (subst (λ X. Passes m X Q) (one_set v.0 w.0 same) v.3) last w.3 last'

    -- the places are one set, and the core is one
    pub reached_one : (Q R : Places) → IsReached T f Q → IsReached T f R → AreSame Q R
    reached_one Q R v w = passes_one v.0 w.0 nowhere Q R v.1 v.2 w.1 w.2

    pub core_one : (g h : Formula) → IsCore T f g → IsCore T f h → g ≡ h
    core_one g h v w = v.2 ∙ (same_rep f v.0 w.0 (reached_one v.0 w.0 v.1 w.1) ∙ sym w.2)

  -- it is Closed where the formula is
  pub core_closed : (g : Formula) → T.Closed f → IsCore T f g → T.Closed g
  core_closed g c w = subst T.Closed (sym w.2) (passes_closed w.1.0 nowhere w.0 w.1.1 (subst T.Closed (sym (nothing_replaced f)) c))

  -- with one kept occurrence more replaced it is Open
  pub core_least : (Q : Places) → IsReached T f Q → (n : ℕ) → IsKept f Q n → T.Open (rep f (added f Q n))
  core_least Q w = pass_idle Q w.2

  -- no replaced occurrence is under another
  pub reached_apart : (Q : Places) → IsReached T f Q → AreApart f Q
  reached_apart Q w = passes_apart w.0 nowhere Q w.1 (record { there = λ n e. cc; apart = λ n m e d u. cc })

-- ---- the core of a refuted formula

module _ (kind : Kind) (asked : ℕ) (f g : Formula) (closed : IsRefuted kind asked f) (core : IsCore (tableau kind asked) f g) where
  pub core_refuted : IsRefuted kind asked g
  core_refuted = core_closed (tableau kind asked) f g closed core

  pub core_no_trace : HasNoTrace kind g
  core_no_trace t good of_kind h =
      let v = core_refuted in
      unsat_has_no_trace g kind v.0 v.1 t v.3 good of_kind h
