-- The first fault of a layer by its parts, and why a certificate with a reason is not lawful.
use Rattle.std.proofs.Common.{◌≡◌, ◌↔◌, ℕ, List, [], ◌++◌, length, get_or, All, Option, Some, None, Result, Ok, Err, IfOk, refl, subst}
use Rattle.std.proofs.lemmas.List.Elements.{All-get_or}
use Rattle.std.specs.declared.alloc.AllocError.{AllocError}
use Rattle.ltl_syntax.specs.declared.node.Kind.{Kind}
use Rattle.ltl_syntax.specs.Formula.{Formula}
use Rattle.cnf_base.specs.declared.literal.Literal.{Literal as Signed}
use Rattle.cnf_base.specs.Known.{IsKnown}
use Rattle.claims.specs.Between.{width, greatest}
use Rattle.claims.specs.Certificate.{Layer, Certificate, layer_at, clauses_of, next_claims}
use Rattle.claims.specs.Lawful.{IsLawfulLayer, IsLawful, clauses_before, lines_before}
use Rattle.claim_check.specs.Data.{IsGoodStep}
use Rattle.claim_check.specs.Bases.{IsFound, IsBaseOf, IsBased}
use Rattle.claim_check.specs.declared.base.Base.{Base}
use Rattle.claim_check.specs.Reasons.{IsOfEntries, IsKept, IsBegun, IsBasedWhole, IsFault, IsStepAnswer, IsLayerAnswer, IsGoodClose, IsReason, IsVerdict}
use Rattle.claim_check.specs.declared.reason.LayerFault.{LayerFault}
use Rattle.claim_check.specs.declared.reason.LayerFault.TheVariants.{Eventuality, Claim, BaseLine, BaseTarget, StepLine, StepTarget}
use Rattle.claim_check.specs.declared.reason.CertificateFault.{CertificateFault}
use Rattle.claim_check.specs.declared.reason.CertificateFault.TheVariants as Reasons
use Rattle.claim_check.specs.declared.reason.ClaimVerdict.{ClaimVerdict}
use Rattle.claim_check.specs.declared.reason.ClaimVerdict.TheVariants.{Verified, Refused}
use Rattle.claim_check.proofs.Finding.{found_none, not_all}
use Rattle.claim_check.proofs.Layered.{has_base, of_entries, all_known, base_each, base_has}

-- the eventuality is one, and the claims are of entries
pub begun : (f : Formula) (kind : Kind) (clauses lines : List (List Signed)) (layer : Layer) (b : Base) (w : ℕ) (r : Option ℕ)
    → IsBaseOf f kind layer.eventuality b → w ≡ width f → r ≡ None
    → IsFound (λ q. All (IsKnown w) (get_or layer.claims q [])) (length layer.claims) r → IsBegun f kind clauses lines layer
begun f kind clauses lines layer b w r is we e found = record {
  base = has_base f kind layer.eventuality b is;
  claims = all_known (width f) layer.claims (found_none (IsOfEntries f layer) (length layer.claims) r e (of_entries f layer.claims w r we found));
}

-- behind the base, the step's answer is the layer's
pub joined : (f : Formula) (kind : Kind) (clauses lines final : List (List Signed)) (layer : Layer) (answer : Option LayerFault)
    → final ≡ lines ++ clauses_of layer.base_lines
    → IsBasedWhole f kind clauses lines layer → IsStepAnswer f clauses final layer answer → IsLayerAnswer f kind clauses lines layer answer
joined f kind clauses lines final layer answer e based is = go answer (subst (λ x. IsStepAnswer f clauses x layer answer) e is)
  where
    go : (a : Option LayerFault) → IsStepAnswer f clauses (lines ++ clauses_of layer.base_lines) layer a → IsLayerAnswer f kind clauses lines layer a
    go None s = record { claims = based.read.begun.claims; base_lines = based.read.steps; base = based.base; step_lines = s.0; step = s.1 }
    go (Some (StepLine n)) s = (based, s)
    go (Some (StepTarget n)) s = (record { based = based; steps = s.0 }, s.1)
    go (Some Eventuality) s = absurd s
    go (Some (Claim n)) s = absurd s
    go (Some (BaseLine n)) s = absurd s
    go (Some (BaseTarget n)) s = absurd s

pub joined_ok : (f : Formula) (kind : Kind) (clauses lines final : List (List Signed)) (layer : Layer) (r : Result (Option LayerFault) AllocError)
    → final ≡ lines ++ clauses_of layer.base_lines
    → IsBasedWhole f kind clauses lines layer → IfOk r (IsStepAnswer f clauses final layer) → IfOk r (IsLayerAnswer f kind clauses lines layer)
joined_ok f kind clauses lines final layer (Ok answer) e based is = joined f kind clauses lines final layer answer e based is
joined_ok f kind clauses lines final layer (Err refused) e based is = is

-- a layer with a fault is not lawful
pub fault_refuses : (f : Formula) (kind : Kind) (clauses lines : List (List Signed)) (layer : Layer) (fault : LayerFault)
    → IsFault f kind clauses lines layer fault
    → ¬ IsLawfulLayer f kind clauses lines layer
fault_refuses f kind clauses lines layer Eventuality is law = is (base_has f kind layer.eventuality (lines ++ clauses_of layer.base_lines) layer law.base)
fault_refuses f kind clauses lines layer (Claim n) is law =
    not_all (IsOfEntries f layer) (length layer.claims) n is.1 (λ q lt. All-get_or (λ c. All (IsKnown (width f)) c) layer.claims q [] lt law.claims)
fault_refuses f kind clauses lines layer (BaseLine n) is law =
    not_all (IsGoodStep clauses lines (greatest f) layer.base_lines) (length layer.base_lines) n is.1 law.base_lines
fault_refuses f kind clauses lines layer (BaseTarget n) is law =
    not_all (IsBased f kind (lines ++ clauses_of layer.base_lines) layer layer.eventuality) (length layer.claims) n is.1
    (base_each f kind layer.eventuality (lines ++ clauses_of layer.base_lines) layer law.base)
fault_refuses f kind clauses lines layer (StepLine n) is law =
    not_all (IsGoodStep (clauses ++ next_claims (width f) layer) (lines ++ clauses_of layer.base_lines) (greatest f) layer.step_lines) (length layer.step_lines)
    n is.1 law.step_lines
fault_refuses f kind clauses lines layer (StepTarget n) is law =
    not_all (IsKept f (lines ++ clauses_of layer.base_lines ++ clauses_of layer.step_lines) layer) (length layer.claims) n is.1 law.step

-- a certificate with a reason is not lawful
pub reason_refuses : (f : Formula) (kind : Kind) (c : Certificate) (reason : CertificateFault) → IsReason f kind c reason → ¬ IsLawful f kind c
reason_refuses f kind c Reasons.Kind is law = is law.same_kind
reason_refuses f kind c (Reasons.Layer n fault) (j, e, is) law =
    fault_refuses f kind (clauses_before f c j) (lines_before c j) (layer_at c j) fault is.here (law.layers j is.within)
reason_refuses f kind c (Reasons.Line n) is law = not_all (IsGoodClose f kind c) (length c.lines) n is.1 law.lines
reason_refuses f kind c Reasons.Target is law = is.2 law.close

pub verified_lawful : (f : Formula) (kind : Kind) (c : Certificate) (v : ClaimVerdict) → IsVerdict f kind c v → (v ≡ Verified) ↔ IsLawful f kind c
verified_lawful f kind c Verified is = (λ e. is, λ law. refl)
verified_lawful f kind c (Refused reason) is = (λ e. absurd (cc), λ law. absurd (reason_refuses f kind c reason is law))
