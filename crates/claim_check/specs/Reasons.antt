-- Why a certificate is not lawful: the first reason in the order in which it is gone through.
use Rattle.std.specs.Prelude.{◌≡◌, ℕ, suc, ◌<◌, List, [], ◌∷◌, ◌++◌, length, All, Option, Some, None}
use Rattle.ltl_syntax.specs.declared.node.Kind.{Kind}
use Rattle.ltl_syntax.specs.Formula.{Formula}
use Rattle.cnf_base.specs.declared.literal.Literal.{Literal as Signed}
use Rattle.cnf_base.specs.Known.{IsKnown, AreKnown}
use Rattle.enc_layout.specs.Targets.{IsTarget}
use Rattle.claims.specs.Between.{width, greatest}
use Rattle.claims.specs.Certificate.{Layer, Certificate, layer_at, claim_at, clauses_of, next_claims}
use Rattle.claims.specs.Lawful.{AreHintedSteps, IsBase, IsLawfulLayer, AreLawfulLayers, IsLawful, clauses_before, lines_before, not_after, not_first}
use Rattle.claim_check.specs.Data.{IsGoodStep}
use Rattle.claim_check.specs.Bases.{IsFirst, HasBase, IsBased}
use Rattle.claim_check.specs.declared.reason.LayerFault.{LayerFault}
use Rattle.claim_check.specs.declared.reason.LayerFault.TheVariants.{Eventuality, Claim, BaseLine, BaseTarget, StepLine, StepTarget}
use Rattle.claim_check.specs.declared.reason.CertificateFault.{CertificateFault}
use Rattle.claim_check.specs.declared.reason.CertificateFault.TheVariants as Reasons
use Rattle.claim_check.specs.declared.reason.ClaimVerdict.{ClaimVerdict}
use Rattle.claim_check.specs.declared.reason.ClaimVerdict.TheVariants.{Verified, Refused}

-- claim q + 1 has only letters of entries
abbrev pub IsOfEntries : Formula → Layer → ℕ → Type 0
IsOfEntries f layer q = All (IsKnown (width f)) (claim_at layer q)

-- claim q + 1 holds before a state that has the claims
abbrev pub IsKept : Formula → List (List Signed) → Layer → ℕ → Type 0
IsKept f lines layer q = IsTarget lines layer.step_targets q (claim_at layer q ++ not_after f ∷ [])

-- how far a layer is in order, where these clauses and these lines may be named before it
module _ (f : Formula) (kind : Kind) (clauses lines : List (List Signed)) (layer : Layer) where
  -- its eventuality is one of the formula's, and its claims have letters of entries
  pub record IsBegun : Type 0 where
    pub base : HasBase f kind layer.eventuality
    pub claims : AreKnown (width f) layer.claims

  -- and the lines of its base are hinted steps
  pub record IsReadToBase : Type 0 where
    pub begun : IsBegun
    pub steps : AreHintedSteps clauses lines (greatest f) layer.base_lines

  -- and its claims hold at the base
  pub record IsBasedWhole : Type 0 where
    pub read : IsReadToBase
    pub base : IsBase f kind (lines ++ clauses_of layer.base_lines) layer layer.eventuality

  -- and the lines of its step are hinted steps
  pub record IsReadToStep : Type 0 where
    pub based : IsBasedWhole
    pub steps : AreHintedSteps (clauses ++ next_claims (width f) layer) (lines ++ clauses_of layer.base_lines) (greatest f) layer.step_lines

  -- the first fault of the layer: what is before it in this order is in order
  abbrev pub IsFault : LayerFault → Type 0
  IsFault Eventuality = ¬ HasBase f kind layer.eventuality
  IsFault (Claim n) = HasBase f kind layer.eventuality × IsFirst (IsOfEntries f layer) (length layer.claims) n
  IsFault (BaseLine n) = IsBegun × IsFirst (IsGoodStep clauses lines (greatest f) layer.base_lines) (length layer.base_lines) n
  IsFault (BaseTarget n) = IsReadToBase × IsFirst (IsBased f kind (lines ++ clauses_of layer.base_lines) layer layer.eventuality) (length layer.claims) n
  IsFault (StepLine n) =
      IsBasedWhole × IsFirst (IsGoodStep (clauses ++ next_claims (width f) layer) (lines ++ clauses_of layer.base_lines) (greatest f) layer.step_lines)
      (length layer.step_lines) n
  IsFault (StepTarget n) = IsReadToStep × IsFirst (IsKept f (lines ++ clauses_of layer.base_lines ++ clauses_of layer.step_lines) layer) (length layer.claims) n

  -- the same up to the base
  abbrev pub IsBaseAnswer : Option LayerFault → Type 0
  IsBaseAnswer None = IsBasedWhole
  IsBaseAnswer (Some fault) = IsFault fault

  -- the first fault; none where the layer is lawful
  abbrev pub IsLayerAnswer : Option LayerFault → Type 0
  IsLayerAnswer None = IsLawfulLayer f kind clauses lines layer
  IsLayerAnswer (Some fault) = IsFault fault

-- the first fault of the step alone, where these lines may be named before it
abbrev pub IsStepAnswer : Formula → List (List Signed) → List (List Signed) → Layer → Option LayerFault → Type 0
IsStepAnswer f clauses lines layer None =
    AreHintedSteps (clauses ++ next_claims (width f) layer) lines (greatest f) layer.step_lines
    × ((q : ℕ) → q < length layer.claims → IsKept f (lines ++ clauses_of layer.step_lines) layer q)
IsStepAnswer f clauses lines layer (Some (StepLine n)) =
    IsFirst (IsGoodStep (clauses ++ next_claims (width f) layer) lines (greatest f) layer.step_lines) (length layer.step_lines) n
IsStepAnswer f clauses lines layer (Some (StepTarget n)) =
    AreHintedSteps (clauses ++ next_claims (width f) layer) lines (greatest f) layer.step_lines
    × IsFirst (IsKept f (lines ++ clauses_of layer.step_lines) layer) (length layer.claims) n
IsStepAnswer f clauses lines layer (Some fault) = ⊥

module _ (f : Formula) (kind : Kind) (c : Certificate) where
  -- the certificate is of the kind, and its layers are lawful
  pub record IsReadToClose : Type 0 where
    pub same_kind : c.kind ≡ kind
    pub layers : AreLawfulLayers f kind c

  -- layer j + 1 has this fault, and the layers before it are lawful
  pub record IsFirstFault (j : ℕ) (fault : LayerFault) : Type 0 where
    pub same_kind : c.kind ≡ kind
    pub within : j < length c.layers
    pub before : (i : ℕ) → i < j → IsLawfulLayer f kind (clauses_before f c i) (lines_before c i) (layer_at c i)
    pub here : IsFault f kind (clauses_before f c j) (lines_before c j) (layer_at c j) fault

  -- lines of the close are hinted steps
  abbrev pub IsGoodClose : ℕ → Type 0
  IsGoodClose k = IsGoodStep (clauses_before f c (length c.layers)) (lines_before c (length c.layers)) (greatest f) c.lines k

  abbrev pub IsClosed : Type 0
  IsClosed = IsTarget (lines_before c (length c.layers) ++ clauses_of c.lines) (c.target ∷ []) 0 (not_first f ∷ [])

  -- the first reason
  abbrev pub IsReason : CertificateFault → Type 0
  IsReason Reasons.Kind = ¬ (c.kind ≡ kind)
  IsReason (Reasons.Layer n fault) = (j : ℕ) × (n ≡ suc j) × IsFirstFault j fault
  IsReason (Reasons.Line n) = IsReadToClose × IsFirst IsGoodClose (length c.lines) n
  IsReason Reasons.Target = IsReadToClose × ((k : ℕ) → k < length c.lines → IsGoodClose k) × ¬ IsClosed

  -- verified where the certificate is lawful, else refused for the first reason
  abbrev pub IsVerdict : ClaimVerdict → Type 0
  IsVerdict Verified = IsLawful f kind c
  IsVerdict (Refused reason) = IsReason reason
