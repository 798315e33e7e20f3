-- A decision at the limit in force tells whether the formula is refuted there.
use Rattle.std.proofs.Common.{◌≡◌, ℕ, inl, inr, subst}
use Rattle.ltl_syntax.specs.declared.node.Kind.{Kind}
use Rattle.ltl_syntax.specs.Formula.{Formula}
use Rattle.ltl_closure.specs.Run.{IsVerdict, Sat, Unsat, Undecided}
use Rattle.enc_layout.specs.Limit.{IsInForce}
use Rattle.core_extract.specs.Core.{IsRefuted, IsUnrefuted}

module _ (f g : Formula) (kind other : Kind) (asked d k : ℕ) (same : g ≡ f) (of_kind : other ≡ kind) (force : IsInForce g other asked d) where
  pub refuted_by : IsVerdict g other d (Unsat k) → IsRefuted kind asked f
  refuted_by v = subst (λ x. IsRefuted x asked f) of_kind (subst (IsRefuted other asked) same (d, k, force, v))

  pub satisfied_by : IsVerdict g other d (Sat k) → IsUnrefuted kind asked f
  satisfied_by v = subst (λ x. IsUnrefuted x asked f) of_kind (subst (IsUnrefuted other asked) same (d, k, force, inl v))

  pub undecided_by : IsVerdict g other d (Undecided k) → IsUnrefuted kind asked f
  undecided_by v = subst (λ x. IsUnrefuted x asked f) of_kind (subst (IsUnrefuted other asked) same (d, k, force, inr v))
