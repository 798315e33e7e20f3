-- The status of a refusal is that of no other answer, and of no fault.
use Rattle.std.proofs.Common.{◌≡◌, ◌∙◌, Bool, true, false, refl, sym, ap}
use Rattle.report.specs.declared.fault.Fault.{Fault}
use Rattle.report.specs.declared.fault.Fault.TheVariants as faults
use Rattle.report.specs.declared.status.Status.{Status}
use Rattle.report.specs.declared.status.Status.TheVariants as statuses
use Rattle.report.specs.Status.{is_answer, fault_status}

abbrev pub is_refusal : Status → Bool
is_refusal statuses.Usage = true
is_refusal statuses.Text = true
is_refusal statuses.Limit = true
is_refusal other = false

pub fault_refuses : (fault : Fault) → is_refusal (fault_status fault) ≡ true
fault_refuses faults.Usage = refl
fault_refuses other = refl

pub not_refused : (s : Status) (fault : Fault) → is_refusal s ≡ false → s ≡ fault_status fault → ⊥
not_refused s fault not e = let f : false ≡ true = sym not ∙ ap is_refusal e ∙ fault_refuses fault in cc

pub refusal_answers : (s : Status) → is_refusal s ≡ true → is_answer s ≡ true
refusal_answers statuses.ReadFault e = absurd (cc)
refusal_answers statuses.WriteFault e = absurd (cc)
refusal_answers statuses.NoMemory e = absurd (cc)
refusal_answers other e = refl
