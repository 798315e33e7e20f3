-- A certificate has one verdict.
use Rattle.std.proofs.Common.{◌≡◌, ℕ, suc, ◌<◌, inl, inr, List, [], ◌++◌, length, All, Some, refl, ap, ◌∙◌, subst, arith}
use Rattle.std.proofs.lemmas.Bool.{cases_order}
use Rattle.std.proofs.lemmas.List.Elements.{All-get_or}
use Rattle.ltl_syntax.specs.declared.node.Kind.{Kind}
use Rattle.ltl_syntax.specs.Formula.{Formula}
use Rattle.cnf_base.specs.declared.literal.Literal.{Literal as Signed}
use Rattle.cnf_base.specs.Known.{IsKnown, AreKnown}
use Rattle.log_checker.proofs.Ranges.{one_first}
use Rattle.claims.specs.Between.{width, greatest}
use Rattle.claims.specs.Certificate.{Layer, Certificate, layer_at, clauses_of, next_claims}
use Rattle.claims.specs.Lawful.{AreLawfulLayers, clauses_before, lines_before}
use Rattle.claim_check.specs.Data.{IsGoodStep}
use Rattle.claim_check.specs.Bases.{IsFirst, IsBased}
use Rattle.claim_check.specs.Laws.{VerdictIsOne}
use Rattle.claim_check.specs.Reasons.{IsOfEntries, IsKept, IsFault, IsFirstFault, IsGoodClose, IsReason}
use Rattle.claim_check.specs.declared.reason.LayerFault.{LayerFault}
use Rattle.claim_check.specs.declared.reason.LayerFault.TheVariants.{Eventuality, Claim, BaseLine, BaseTarget, StepLine, StepTarget}
use Rattle.claim_check.specs.declared.reason.CertificateFault.{CertificateFault}
use Rattle.claim_check.specs.declared.reason.CertificateFault.TheVariants as Reasons
use Rattle.claim_check.specs.declared.reason.ClaimVerdict.TheVariants.{Verified, Refused}
use Rattle.claim_check.proofs.Finding.{not_all}
use Rattle.claim_check.proofs.Layered.{base_each}
use Rattle.claim_check.proofs.Faults.{fault_refuses, reason_refuses}

-- the first that is not good has one number
one_number : (Good : ℕ → Type 0) (count m n : ℕ) → IsFirst Good count m → IsFirst Good count n → m ≡ n
one_number Good count m n (k, e, is) (i, d, it) = let same : Some k ≡ Some i = one_first Good 0 count (Some k) (Some i) is it in let at : k ≡ i = cc in
    omega (arith, e, d, at)

-- how many kinds of faults come before
abbrev stage : LayerFault → ℕ
stage Eventuality = 0
stage (Claim n) = 1
stage (BaseLine n) = 2
stage (BaseTarget n) = 3
stage (StepLine n) = 4
stage (StepTarget n) = 5

last_stage : (fault : LayerFault) → stage fault < 6
last_stage Eventuality = omega arith
last_stage other = omega arith

module _ (f : Formula) (kind : Kind) (clauses lines : List (List Signed)) (layer : Layer) where
  foreign : (n : ℕ) → IsFirst (IsOfEntries f layer) (length layer.claims) n → ¬ AreKnown (width f) layer.claims
  foreign n is known = not_all (IsOfEntries f layer) (length layer.claims) n is (λ q lt. All-get_or (λ c. All (IsKnown (width f)) c) layer.claims q [] lt known)

  clash : (a b : LayerFault) → stage a < stage b → IsFault f kind clauses lines layer a → IsFault f kind clauses lines layer b → ⊥
  clash Eventuality (Claim n) lt x y = x y.0
  clash Eventuality (BaseLine n) lt x y = x y.0.base
  clash Eventuality (BaseTarget n) lt x y = x y.0.begun.base
  clash Eventuality (StepLine n) lt x y = x y.0.read.begun.base
  clash Eventuality (StepTarget n) lt x y = x y.0.based.read.begun.base
  clash (Claim m) (BaseLine n) lt x y = foreign m x.1 y.0.claims
  clash (Claim m) (BaseTarget n) lt x y = foreign m x.1 y.0.begun.claims
  clash (Claim m) (StepLine n) lt x y = foreign m x.1 y.0.read.begun.claims
  clash (Claim m) (StepTarget n) lt x y = foreign m x.1 y.0.based.read.begun.claims
  clash (BaseLine m) (BaseTarget n) lt x y = not_all (IsGoodStep clauses lines (greatest f) layer.base_lines) (length layer.base_lines) m x.1 y.0.steps
  clash (BaseLine m) (StepLine n) lt x y = not_all (IsGoodStep clauses lines (greatest f) layer.base_lines) (length layer.base_lines) m x.1 y.0.read.steps
  clash (BaseLine m) (StepTarget n) lt x y =
      not_all (IsGoodStep clauses lines (greatest f) layer.base_lines) (length layer.base_lines) m x.1 y.0.based.read.steps
  clash (BaseTarget m) (StepLine n) lt x y =
      let all = lines ++ clauses_of layer.base_lines in
      not_all (IsBased f kind all layer layer.eventuality) (length layer.claims) m x.1 (base_each f kind layer.eventuality all layer y.0.base)
  clash (BaseTarget m) (StepTarget n) lt x y =
      let all = lines ++ clauses_of layer.base_lines in
      not_all (IsBased f kind all layer layer.eventuality) (length layer.claims) m x.1 (base_each f kind layer.eventuality all layer y.0.based.base)
  clash (StepLine m) (StepTarget n) lt x y =
      not_all (IsGoodStep (clauses ++ next_claims (width f) layer) (lines ++ clauses_of layer.base_lines) (greatest f) layer.step_lines)
      (length layer.step_lines) m x.1 y.0.steps
  clash (StepTarget m) b lt x y = absurd (omega (arith, lt, last_stage b))
  clash a b lt x y = absurd (omega (arith, lt))

  fault_one : (a b : LayerFault) → IsFault f kind clauses lines layer a → IsFault f kind clauses lines layer b → a ≡ b
  fault_one Eventuality Eventuality x y = refl
  fault_one (Claim m) (Claim n) x y = ap Claim (one_number (IsOfEntries f layer) (length layer.claims) m n x.1 y.1)
  fault_one (BaseLine m) (BaseLine n) x y =
      ap BaseLine (one_number (IsGoodStep clauses lines (greatest f) layer.base_lines) (length layer.base_lines) m n x.1 y.1)
  fault_one (BaseTarget m) (BaseTarget n) x y =
      ap BaseTarget (one_number (IsBased f kind (lines ++ clauses_of layer.base_lines) layer layer.eventuality) (length layer.claims) m n x.1 y.1)
  fault_one (StepLine m) (StepLine n) x y =
      ap StepLine (one_number (IsGoodStep (clauses ++ next_claims (width f) layer) (lines ++ clauses_of layer.base_lines) (greatest f) layer.step_lines)
      (length layer.step_lines) m n x.1 y.1)
  fault_one (StepTarget m) (StepTarget n) x y =
      ap StepTarget (one_number (IsKept f (lines ++ clauses_of layer.base_lines ++ clauses_of layer.step_lines) layer) (length layer.claims) m n x.1 y.1)
  fault_one a b x y = elim (cases_order (stage a) (stage b)) [
    | inl same ↦ absurd (omega (arith, same))
    | inr (inl less) ↦ absurd (clash a b less x y)
    | inr (inr more) ↦ absurd (clash b a more y x)
  ]

module _ (f : Formula) (kind : Kind) (c : Certificate) where
  refuses : (j : ℕ) (fault : LayerFault) → IsFirstFault f kind c j fault → ¬ AreLawfulLayers f kind c
  refuses j fault is all = fault_refuses f kind (clauses_before f c j) (lines_before c j) (layer_at c j) fault is.here (all j is.within)

  layers_one : (m n i j : ℕ) (a b : LayerFault) → m ≡ suc i → n ≡ suc j → IsFirstFault f kind c i a → IsFirstFault f kind c j b
      → Reasons.Layer m a ≡ Reasons.Layer n b
  layers_one m n i j a b e d x y = elim (cases_order i j) [
    | inl same ↦
        let number : m ≡ n = omega (arith, e, d, same) in
        let fault : a ≡ b =
        fault_one f kind (clauses_before f c j) (lines_before c j) (layer_at c j) a b
        (subst (λ k. IsFault f kind (clauses_before f c k) (lines_before c k) (layer_at c k) a) same x.here) y.here in
        ap (λ k. Reasons.Layer k a) number ∙ ap (Reasons.Layer n) fault
    | inr (inl less) ↦ absurd (fault_refuses f kind (clauses_before f c i) (lines_before c i) (layer_at c i) a x.here (y.before i less))
    | inr (inr more) ↦ absurd (fault_refuses f kind (clauses_before f c j) (lines_before c j) (layer_at c j) b y.here (x.before j more))
  ]

  reason_one : (a b : CertificateFault) → IsReason f kind c a → IsReason f kind c b → a ≡ b
  reason_one Reasons.Kind Reasons.Kind x y = refl
  reason_one Reasons.Kind (Reasons.Layer n b) x y = absurd (x y.2.same_kind)
  reason_one Reasons.Kind (Reasons.Line n) x y = absurd (x y.0.same_kind)
  reason_one Reasons.Kind Reasons.Target x y = absurd (x y.0.same_kind)
  reason_one (Reasons.Layer m a) Reasons.Kind x y = absurd (y x.2.same_kind)
  reason_one (Reasons.Layer m a) (Reasons.Layer n b) x y = layers_one m n x.0 y.0 a b x.1 y.1 x.2 y.2
  reason_one (Reasons.Layer m a) (Reasons.Line n) x y = absurd (refuses x.0 a x.2 y.0.layers)
  reason_one (Reasons.Layer m a) Reasons.Target x y = absurd (refuses x.0 a x.2 y.0.layers)
  reason_one (Reasons.Line m) Reasons.Kind x y = absurd (y x.0.same_kind)
  reason_one (Reasons.Line m) (Reasons.Layer n b) x y = absurd (refuses y.0 b y.2 x.0.layers)
  reason_one (Reasons.Line m) (Reasons.Line n) x y = ap Reasons.Line (one_number (IsGoodClose f kind c) (length c.lines) m n x.1 y.1)
  reason_one (Reasons.Line m) Reasons.Target x y = absurd (not_all (IsGoodClose f kind c) (length c.lines) m x.1 y.1)
  reason_one Reasons.Target Reasons.Kind x y = absurd (y x.0.same_kind)
  reason_one Reasons.Target (Reasons.Layer n b) x y = absurd (refuses y.0 b y.2 x.0.layers)
  reason_one Reasons.Target (Reasons.Line n) x y = absurd (not_all (IsGoodClose f kind c) (length c.lines) n y.1 x.1)
  reason_one Reasons.Target Reasons.Target x y = refl

pub verdict_one : VerdictIsOne
verdict_one f kind c Verified Verified x y = refl
verdict_one f kind c Verified (Refused b) x y = absurd (reason_refuses f kind c b y x)
verdict_one f kind c (Refused a) Verified x y = absurd (reason_refuses f kind c a x y)
verdict_one f kind c (Refused a) (Refused b) x y = ap Refused (reason_one f kind c a b x y)
