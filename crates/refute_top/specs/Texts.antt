-- The text of each answer that is this program's own, line by line. The lines of refusals are those of `report`.
use Rattle.std.specs.Prelude.{ℕ, List, ◌++◌, codes}
use Rattle.std.specs.Fmt.{decimal}
use Rattle.ltl_word.specs.declared.trace.Trace.{Trace}
use Rattle.ltl_word.specs.Json.{trace_text}
use Rattle.claim_check.specs.declared.reason.LayerFault.{LayerFault}
use Rattle.claim_check.specs.declared.reason.LayerFault.TheVariants.{Eventuality, Claim, BaseLine, BaseTarget, StepLine, StepTarget}
use Rattle.claim_check.specs.declared.reason.CertificateFault.{CertificateFault}
use Rattle.claim_check.specs.declared.reason.CertificateFault.TheVariants as reasons
use Rattle.claim_check.specs.declared.reason.ClaimVerdict.{ClaimVerdict}
use Rattle.claim_check.specs.declared.reason.ClaimVerdict.TheVariants as verdicts
use Rattle.report.specs.Texts.{line, numbered}

-- SAT with a trace
abbrev pub sat_text : Trace → List ℕ
sat_text trace = line (codes "SAT") ++ line (trace_text trace)

-- UNSAT with what shows it: the lines of invariants, or a certificate as it is
abbrev pub unsat_text : List ℕ → List ℕ
unsat_text shown = line (codes "UNSAT") ++ shown

abbrev pub undecided_text : List ℕ
undecided_text = line (codes "UNDECIDED")

-- what is wrong with a layer, behind the layer's number
abbrev pub fault_text : LayerFault → List ℕ
fault_text Eventuality = line (codes " eventuality")
fault_text (Claim number) = numbered (codes " claim ") number
fault_text (BaseLine number) = numbered (codes " base line ") number
fault_text (BaseTarget number) = numbered (codes " base target ") number
fault_text (StepLine number) = numbered (codes " step line ") number
fault_text (StepTarget number) = numbered (codes " step target ") number

-- why a certificate is not lawful
abbrev pub reason_text : CertificateFault → List ℕ
reason_text reasons.Kind = line (codes "REJECTED kind")
reason_text (reasons.Layer number fault) = (codes "REJECTED layer " ++ decimal number) ++ fault_text fault
reason_text (reasons.Line number) = numbered (codes "REJECTED line ") number
reason_text reasons.Target = line (codes "REJECTED target")

-- whether a certificate is lawful
abbrev pub verdict_text : ClaimVerdict → List ℕ
verdict_text verdicts.Verified = line (codes "VERIFIED")
verdict_text (verdicts.Refused reason) = reason_text reason
