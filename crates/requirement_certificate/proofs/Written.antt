-- What is written of the first answer that says that there is no trace is what a check takes.
use Rattle.std.proofs.Common.{ℕ, List, refl, sym, subst}
use Rattle.ltl_syntax.specs.Print.{text_of}
use Rattle.ltl_syntax.specs.Formula.{Formula}
use Rattle.ltl_parser.specs.Text.{ReadsText, IsPrintable}
use Rattle.claims.specs.Lawful.{IsLawful}
use Rattle.claim_check.specs.Data.{certificate_in}
use Rattle.program_input.proofs.Unseparated.{joined_cut}
use Rattle.requirement_questions.specs.declared.leaving.Because.{Because}
use Rattle.requirement_questions.specs.Members.{places}
use Rattle.requirement_document.specs.Values.{DocumentValue}
use Rattle.requirement_answers.specs.declared.asking.Asking.{Asking}
use Rattle.requirement_certificate.specs.Text.{formula_text, claims_text}
use Rattle.requirement_certificate.specs.Laws.{formula_for, IsTaken, CertificatesAreTaken}
use Rattle.requirement_certificate.proofs.Printable.{question_printable}
use Rattle.requirement_certificate.proofs.Formulas.{IsReasonFor, first_reason}

-- what is printed reads as the formula, and what reads is printable
abbrev pub PrintedReads : Type 0
PrintedReads = (f : Formula) → IsPrintable f → ReadsText (text_of f) f

abbrev pub ReadIsPrintable : Type 0
ReadIsPrintable = (text : List ℕ) (f : Formula) → ReadsText text f → IsPrintable f

reason_taken : PrintedReads → (d : DocumentValue) (asking : Asking) (b : Because) → IsReasonFor d asking b → IsPrintable (formula_for d asking b)
    → IsTaken d asking b
reason_taken printed d asking b (given, is) p =
    let f = formula_for d asking b in
    let reads : ReadsText (formula_text b) f = subst (λ g. ReadsText (text_of g) f) (sym is.formula) (printed f p) in
    let lawful : IsLawful f d.kind (certificate_in b.certificate) = subst (λ g. IsLawful g d.kind (certificate_in b.certificate)) is.formula is.lawful in
    let cut = joined_cut (formula_text b) (claims_text b) reads.tokens reads.lexed in
    record {
      cut = cut;
      reads = reads;
      lawful = lawful;
      verified = λ within. record {
        part = formula_text b;
        second = claims_text b;
        cut = cut;
        formula = f;
        accepted = record { short = within.short; reads = reads; few = within.few };
        shown = record { certificate = certificate_in b.certificate; is = record { lawful = within.writable; spelled = refl }; lawful = lawful };
      };
    }

pub certificate_taken : PrintedReads → ReadIsPrintable → CertificatesAreTaken
certificate_taken printed read text d scope r asking b document report first =
    reason_taken printed d asking b (first_reason d scope r report asking b first) (question_printable read text d (places b.members.items) asking document)
