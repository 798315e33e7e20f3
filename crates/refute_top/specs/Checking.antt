-- `--check`: which answer comes where, and what is promised of it.
use Rattle.std.specs.Prelude.{◌≡◌, ◌⊎◌, ◌++◌, ℕ, List, codes, Option, Some, IsTrue}
use Rattle.ltl_io.specs.Outside.{Grows}
use Rattle.ltl_syntax.specs.declared.node.Kind.{Kind}
use Rattle.ltl_syntax.specs.Formula.{Formula}
use Rattle.ltl_parser.specs.Text.{IsAccepted}
use Rattle.unravel.specs.Decision.{HasNoTrace}
use Rattle.claims.specs.Certificate.{Certificate}
use Rattle.claims.specs.Lawful.{IsLawful}
use Rattle.claim_check.specs.declared.reason.CertificateFault.{CertificateFault}
use Rattle.claim_check.specs.declared.reason.ClaimVerdict.{ClaimVerdict}
use Rattle.claim_check.specs.declared.reason.ClaimVerdict.TheVariants as verdicts
use Rattle.claim_check.specs.Reasons.{IsVerdict}
use Rattle.claim_text.specs.Text.{IsTextOf, IsFault}
use Rattle.report.specs.declared.fault.Fault.TheVariants as faults
use Rattle.report.specs.declared.status.Status.{Status}
use Rattle.report.specs.declared.status.Status.TheVariants as statuses
use Rattle.report.specs.Status.{has_read}
use Rattle.command_words.specs.Words.{Setting, kind_of}
use Rattle.program_input.specs.Parts.{IsCut}
use Rattle.program_input.specs.Reading.{IsParted}
use Rattle.program_input.specs.Claims.{OfParts}
use Rattle.program_input.specs.Taking.{IsTakenWhole}
use Rattle.refute_top.specs.Texts.{verdict_text}
use Rattle.refute_top.specs.Answer.{Answer, refused, checked, status_of, text_of}

-- the answer to a formula and a text: the text is that of no certificate, or the certificate that it is has this verdict
pub data IsChecked (kind : Kind) (f : Formula) (text : List ℕ) : Answer → Type 0 where
  unread : (byte : ℕ) → IsFault text byte → IsChecked kind f text (refused (faults.Certificate byte))
  judged : (c : Certificate) (v : ClaimVerdict) → IsTextOf text c → IsVerdict f kind c v → IsChecked kind f text (checked v)

-- the answer to a formula, a separator line and a text
abbrev pub IsPartedCheck : Kind → List ℕ → Answer → Type 0
IsPartedCheck kind bytes answer = IsParted Answer refused (IsChecked kind) bytes answer

-- the text of a formula, a separator line, and a certificate
abbrev pub with_certificate : List ℕ → List ℕ → List ℕ
with_certificate part certificate = part ++ codes "\n---\n" ++ certificate

-- behind the text of the formula and a separator line, `--check` verifies the certificate
abbrev pub IsVerified : Kind → List ℕ → List ℕ → Type 0
IsVerified kind part certificate = IsPartedCheck kind (with_certificate part certificate) (checked verdicts.Verified)

-- VERIFIED was printed: the text is that of a lawful certificate, and no trace of the kind satisfies the formula
pub record PrintsVerified (kind : Kind) (f : Formula) (text : List ℕ) (before after : Option (List ℕ)) : Type 0 where
  pub certificate : Certificate
  pub is : IsTextOf text certificate
  pub lawful : IsLawful f kind certificate
  pub none : HasNoTrace f kind
  pub printed : Grows (verdict_text verdicts.Verified) before after

-- REJECTED was printed: the text is that of a certificate that is not lawful, for this first reason
pub record PrintsRejected (kind : Kind) (f : Formula) (text : List ℕ) (before after : Option (List ℕ)) : Type 0 where
  pub certificate : Certificate
  pub is : IsTextOf text certificate
  pub reason : CertificateFault
  pub first : IsVerdict f kind certificate (verdicts.Refused reason)
  pub unlawful : ¬ (IsLawful f kind certificate)
  pub printed : Grows (verdict_text (verdicts.Refused reason)) before after

-- what is found of the text was printed, with its status
pub record PrintsFound (kind : Kind) (f : Formula) (text : List ℕ) (before after : Option (List ℕ)) (status : Status) : Type 0 where
  pub answer : Answer
  pub is : IsChecked kind f text answer
  pub own : status ≡ status_of answer
  pub printed : Grows (text_of answer) before after

-- what `--check` promises of a call: of the rest of the source and the content of the sink, before and after, and of its status.
-- A call is quiet where neither count of faults rose
pub record CheckPromise (settings : List Setting) (IsQuiet : Type 0) (rest left before after : Option (List ℕ)) (status : Status) : Type 0 where
  -- VERIFIED is printed only where the second part is a lawful certificate of the formula, and then no trace of the kind satisfies it
  pub when_verified : status ≡ statuses.Good → OfParts rest (λ f text. PrintsVerified (kind_of settings) f text before after)
  -- REJECTED is printed only where it is a certificate that is not lawful, with the first reason
  pub when_rejected : status ≡ statuses.Negative → OfParts rest (λ f text. PrintsRejected (kind_of settings) f text before after)
  -- of an accepted formula and a second part that is printed which is found: VERIFIED, the first reason why not, or the byte of the text's fault; or there
  -- was no memory
  pub found : (bytes part second : List ℕ) (f : Formula) → rest ≡ Some bytes → IsCut bytes part second → IsAccepted part f → IsQuiet
      → (status ≡ statuses.NoMemory) ⊎ PrintsFound (kind_of settings) f second before after status
  -- a lawful certificate of an accepted formula is verified, or there was no memory
  pub verdict : (bytes part second : List ℕ) (f : Formula) (c : Certificate) → rest ≡ Some bytes → IsCut bytes part second → IsAccepted part f
      → IsTextOf second c
      → IsLawful f (kind_of settings) c
      → IsQuiet → (status ≡ statuses.NoMemory) ⊎ ((status ≡ statuses.Good) × Grows (verdict_text verdicts.Verified) before after)
  -- nothing is left of the source
  pub taken : IsTrue (has_read status) → IsTakenWhole rest left
