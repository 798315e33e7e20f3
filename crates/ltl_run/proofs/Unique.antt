-- A formula has one verdict at a limit.
use Rattle.std.proofs.Common.{◌≡◌, ℕ, ◌<◌, ◌≤◌, inl, inr, ap, subst, refl}
use Rattle.std.proofs.lemmas.Bool.{cases_order}
use Rattle.ltl_syntax.specs.declared.node.Kind.{Kind}
use Rattle.ltl_syntax.specs.Formula.{Formula}
use Rattle.ltl_closure.specs.Run.{HasAccepted, IsOpen, IsVerdict, no_run, accepted, all_pruned, undecided, Verdict, Sat, Unsat, Undecided}

module _ (f : Formula) (kind : Kind) where
  -- nothing closes before k, and something at k
  pub record ClosesAt (k : ℕ) : Type 0 where
    pub before : (j : ℕ) → j < k → IsOpen f kind j
    pub here : IsOpen f kind k → ⊥

  pub one_place : (k m : ℕ) → ClosesAt k → ClosesAt m → k ≡ m
  one_place k m a b = elim (cases_order k m) [
    | inl e ↦ e
    | inr w ↦ elim w [ inl lt ↦ absurd (a.here (b.before k lt)) | inr gt ↦ absurd (b.here (a.before m gt)) ]
  ]

  module _ (limit : ℕ) where
    abbrev Says : Verdict → Type 0
    Says (Sat k) = (k ≤ limit) × (ClosesAt k × HasAccepted f kind k)
    Says (Unsat k) = (k ≤ limit) × (ClosesAt k × (HasAccepted f kind k → ⊥))
    Says (Undecided k) = (k ≡ limit) × ((j : ℕ) → j ≤ limit → IsOpen f kind j)

    says : (v : Verdict) → IsVerdict f kind limit v → Says v
    says (Unsat k) (no_run le before none) = (le, (record { before = before; here = λ o. none o.run }, λ a. none (a.0, a.1)))
    says (Unsat k) (all_pruned le before rejected none) = (le, (record { before = before; here = λ o. none o.unpruned }, rejected))
    says (Sat k) (accepted le before acc) = (le, (record { before = before; here = λ o. o.rejected acc }, acc))
    says (Undecided k) (undecided all) = (refl, all)

    one_verdict : (v w : Verdict) → Says v → Says w → v ≡ w
    one_verdict (Sat k) (Sat m) a b = ap Sat (one_place k m a.1.0 b.1.0)
    one_verdict (Sat k) (Unsat m) a b = absurd (b.1.1 (subst (HasAccepted f kind) (one_place k m a.1.0 b.1.0) a.1.1))
    one_verdict (Sat k) (Undecided m) a b = absurd (a.1.0.here (b.1 k a.0))
    one_verdict (Unsat k) (Sat m) a b = absurd (a.1.1 (subst (HasAccepted f kind) (one_place m k b.1.0 a.1.0) b.1.1))
    one_verdict (Unsat k) (Unsat m) a b = ap Unsat (one_place k m a.1.0 b.1.0)
    one_verdict (Unsat k) (Undecided m) a b = absurd (a.1.0.here (b.1 k a.0))
    one_verdict (Undecided k) (Sat m) a b = absurd (b.1.0.here (a.1 m b.0))
    one_verdict (Undecided k) (Unsat m) a b = absurd (b.1.0.here (a.1 m b.0))
    one_verdict (Undecided k) (Undecided m) a b = let e = a.0 in let d = b.0 in cc

    pub verdict_is_one : (v w : Verdict) → IsVerdict f kind limit v → IsVerdict f kind limit w → v ≡ w
    verdict_is_one v w a b = one_verdict v w (says v a) (says w b)
