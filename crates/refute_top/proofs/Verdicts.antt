-- The text of a refused layer, piece by piece.
use Rattle.std.proofs.Common.{◌≡◌, ◌∙◌, ◌++◌, ℕ, List, decimal, codes, append_assoc, ap, ap₂, sym}
use Rattle.claim_check.specs.declared.reason.LayerFault.{LayerFault}
use Rattle.claim_check.specs.declared.reason.CertificateFault.{CertificateFault}
use Rattle.claim_check.specs.declared.reason.CertificateFault.TheVariants as reasons
use Rattle.refute_top.specs.Texts.{fault_text, reason_text}

pub layer_added : (old first second last digits : List ℕ) (reason : CertificateFault) (number : ℕ) (fault : LayerFault) → reason ≡ reasons.Layer number fault
    → first ≡ old ++ codes "REJECTED layer " → second ≡ first ++ digits → digits ≡ decimal number → last ≡ second ++ fault_text fault
    → last ≡ old ++ reason_text reason
layer_added old first second last digits reason number fault is begun more number_is ended =
    let front : List ℕ = codes "REJECTED layer " in
    let both : second ≡ old ++ (front ++ decimal number) = more ∙ ap₂ ◌++◌ begun number_is ∙ append_assoc old front (decimal number) in
    ended ∙ ap (λ x. x ++ fault_text fault) both ∙ append_assoc old (front ++ decimal number) (fault_text fault) ∙ ap (λ r. old ++ reason_text r) (sym is)
