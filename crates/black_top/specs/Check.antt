-- `check`: which answer comes where, and what is promised of it.
use Rattle.std.specs.Prelude.{◌≡◌, ◌⊎◌, ◌++◌, ℕ, List, codes, Option, Some, None, IsTrue}
use Rattle.ltl_io.specs.Outside.{Grows}
use Rattle.ltl_syntax.specs.declared.node.Kind.{Kind}
use Rattle.ltl_syntax.specs.Formula.{Formula}
use Rattle.ltl_parser.specs.Text.{IsAccepted}
use Rattle.unravel.specs.Decision.{HasNoTrace}
use Rattle.cert_check.specs.declared.verdict.Verdict.TheVariants as verdicts
use Rattle.cert_check.specs.declared.verdict.Reason.{Reason}
use Rattle.cert_check.specs.declared.verdict.Reason.TheVariants as reasons
use Rattle.cert_check.specs.Answer.{Answer as CheckAnswer, IsAnswer, FormFault, OtherKind, TooManyLetters, BadLine, BadTarget, Verified, answer_of}
use Rattle.cert_check.specs.Lawful.{CertOk}
use Rattle.report.specs.declared.fault.Fault.TheVariants as faults
use Rattle.report.specs.Texts.{checked_text}
use Rattle.report.specs.declared.status.Status.{Status}
use Rattle.report.specs.declared.status.Status.TheVariants as statuses
use Rattle.report.specs.Status.{has_read}
use Rattle.command_words.specs.Words.{Setting, kind_of}
use Rattle.program_input.specs.Parts.{IsCut}
use Rattle.program_input.specs.Claims.{OfParts}
use Rattle.program_input.specs.Taking.{IsTakenWhole}
use Rattle.black_top.specs.Answer.{Answer, refused, checked, status_of, text_of}
use Rattle.black_top.specs.Reading.{IsParted}

-- what is shown of what is found of a certificate
abbrev pub shown_of : CheckAnswer → Answer
shown_of (FormFault byte) = refused (faults.Certificate byte)
shown_of OtherKind = checked (verdicts.Rejected reasons.Kind)
shown_of (TooManyLetters depth) = refused (faults.Letters depth)
shown_of (BadLine number) = checked (verdicts.Rejected (reasons.Line number))
shown_of (BadTarget number) = checked (verdicts.Rejected (reasons.Target number))
shown_of Verified = checked verdicts.Verified

-- the answer to a formula and the text of a certificate is what is shown of what is found of it
pub record IsChecked (kind : Kind) (f : Formula) (text : List ℕ) (answer : Answer) : Type 0 where
  pub found : CheckAnswer
  pub is : IsAnswer f kind text found
  pub shown : answer ≡ shown_of found

-- the text of a formula, a separator line, and a certificate
abbrev pub with_certificate : List ℕ → List ℕ → List ℕ
with_certificate part certificate = part ++ codes "\n---\n" ++ certificate

-- behind the text of the formula and a separator line, `check` verifies the certificate, where there is one
abbrev pub IsVerified : Kind → List ℕ → Option (List ℕ) → Type 0
IsVerified kind part None = Unit {0}
IsVerified kind part (Some certificate) = IsParted (IsChecked kind) (with_certificate part certificate) (checked verdicts.Verified)

-- VERIFIED was printed: the certificate is lawful, and no trace of the kind satisfies the formula
pub record PrintsVerified (kind : Kind) (f : Formula) (text : List ℕ) (before after : Option (List ℕ)) : Type 0 where
  pub lawful : CertOk f kind text
  pub none : HasNoTrace f kind
  pub printed : Grows (checked_text verdicts.Verified) before after

-- REJECTED was printed: the certificate is not lawful
pub record PrintsRejected (kind : Kind) (f : Formula) (text : List ℕ) (before after : Option (List ℕ)) : Type 0 where
  pub reason : Reason
  pub first : IsAnswer f kind text (answer_of (verdicts.Rejected reason))
  pub unlawful : ¬ (CertOk f kind text)
  pub printed : Grows (checked_text (verdicts.Rejected reason)) before after

-- what is found of the certificate was printed, with its status
pub record PrintsFound (kind : Kind) (f : Formula) (text : List ℕ) (before after : Option (List ℕ)) (status : Status) : Type 0 where
  pub found : CheckAnswer
  pub is : IsAnswer f kind text found
  pub own : status ≡ status_of (shown_of found)
  pub printed : Grows (text_of (shown_of found)) before after

-- what `check` promises of a call: of the rest of the source and the content of the sink, before and after, and of its status.
-- A call is quiet where neither count of faults rose
pub record CheckPromise (settings : List Setting) (IsQuiet : Type 0) (rest left before after : Option (List ℕ)) (status : Status) : Type 0 where
  -- VERIFIED is printed only where the second part is a lawful certificate of the formula, and then no trace of the kind satisfies it
  pub when_verified : status ≡ statuses.Good → OfParts rest (λ f text. PrintsVerified (kind_of settings) f text before after)
  -- REJECTED is printed only where it is none, with the first reason
  pub when_rejected : status ≡ statuses.Negative → OfParts rest (λ f text. PrintsRejected (kind_of settings) f text before after)
  -- of an accepted formula and a second part that is printed which is found: VERIFIED, the first reason why not, the byte of the certificate's fault, or
  -- that its letters are too many; or there was no memory
  pub found : (bytes part second : List ℕ) (f : Formula) → rest ≡ Some bytes → IsCut bytes part second → IsAccepted part f → IsQuiet
      → (status ≡ statuses.NoMemory) ⊎ PrintsFound (kind_of settings) f second before after status
  -- a lawful certificate of an accepted formula is verified, or there was no memory
  pub verdict : (bytes part second : List ℕ) (f : Formula) → rest ≡ Some bytes → IsCut bytes part second → IsAccepted part f
      → CertOk f (kind_of settings) second → IsQuiet
      → (status ≡ statuses.NoMemory) ⊎ ((status ≡ statuses.Good) × Grows (checked_text verdicts.Verified) before after)
  -- nothing is left of the source
  pub taken : IsTrue (has_read status) → IsTakenWhole rest left
