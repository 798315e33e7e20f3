-- A formula part has one refusal, or is one accepted formula.
use Rattle.std.proofs.Common.{◌≡◌, ◌∙◌, ℕ, List, sym, ap}
use Rattle.ltl_syntax.specs.Formula.{Formula}
use Rattle.ltl_parser.specs.Text.{IsAccepted}
use Rattle.formula_reading.proofs.OneReading.{one_fault as one_of_text, fault_not_accepted}
use Rattle.report.specs.declared.fault.Fault.{Fault}
use Rattle.program_input.specs.Reading.{refusal_of, RefusesPart}
use Rattle.program_input.proofs.Refusing.{fault_of_part}
pub use Rattle.formula_reading.proofs.OneReading.{TextLaws}

-- a part has one refusal
pub one_fault : (part : List ℕ) → TextLaws → (a b : Fault) → RefusesPart part a → RefusesPart part b → a ≡ b
one_fault part laws a b h k =
    let own = fault_of_part part a h in
    let other = fault_of_part part b k in
    own.1 ∙ ap refusal_of (one_of_text part laws own.0 other.0 own.2 other.2) ∙ sym other.1

-- a part that is refused is no accepted formula
pub refused_not_accepted : (part : List ℕ) → TextLaws → (fault : Fault) (f : Formula) → RefusesPart part fault → IsAccepted part f → ⊥
refused_not_accepted part laws fault f h k = let own = fault_of_part part fault h in fault_not_accepted part laws own.0 f own.2 k
