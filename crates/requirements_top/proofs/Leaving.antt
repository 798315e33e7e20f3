-- What was taken from a source, and what it had left.
use Rattle.std.proofs.Common.{◌≡◌, ◌∙◌, ℕ, zero, suc, ◌<◌, ◌≤◌, ◌⊎◌, true, false, List, [], length, inl, inr, Option, Some, None, Result, Ok, Err, IfOk, refl}
use Rattle.std.proofs.Common.{sym, subst, arith}
use Rattle.ltl_io.specs.Outside.{TakesWhole, LosesAtMost}
use Rattle.ltl_io.specs.declared.source.ReadRefused.{ReadRefused}
use Rattle.report.specs.declared.status.Status.{Status}
use Rattle.program_input.proofs.Leaving.{some_left, long_left, whole_left}
use Rattle.requirement_document.specs.declared.fault.Cause.{Cause}
use Rattle.requirement_document.specs.declared.fault.Cause.TheVariants as causes
use Rattle.requirement_document.specs.declared.fault.DocumentFault.{DocumentFault}
use Rattle.requirement_document.specs.Document.{HasFault, HasTextCause, of_text, of_document}
use Rattle.requirements_top.specs.Words.{Query, Letters, About, Certificate, Help, Of, Asks}
use Rattle.requirements_top.specs.Answer.{IsOutput, IsAnswer, refused, printed, taken}
use Rattle.requirements_top.specs.Run.{IsGiven}
use Rattle.requirements_top.specs.Inner.{Shows, IsGivenTo}
use Rattle.requirements_top.specs.declared.output.Output.{Output}

-- the cause of a text that is too long is that of each other such text
long_cause : (text bytes : List ℕ) (cause : Cause) → 4194304 < length text → 4194304 < length bytes → HasTextCause text cause → HasTextCause bytes cause
long_cause text bytes causes.TooLong m n h = n
long_cause text bytes (causes.NotText byte) m n h = absurd (omega (arith, m, h.0))
long_cause text bytes (causes.NotToml line column message) m n h = absurd (omega (arith, m, h.0))
long_cause text bytes cause m n h = absurd h

long_fault : (text bytes : List ℕ) (f : DocumentFault) → 4194304 < length text → 4194304 < length bytes → HasFault text f → HasFault bytes f
long_fault text bytes f m n (of_text place h) = of_text place (long_cause text bytes f.cause m n h)
long_fault text bytes f m n (of_document ms written h) = absurd (omega (arith, m, written.short))

-- what is printed of a text that is too long is what is printed of each other such text
long_output : (query : Query) (text bytes : List ℕ) (status : Status) (shown : List ℕ) → 4194304 < length text → 4194304 < length bytes
    → IsOutput query text status shown → IsOutput query bytes status shown
long_output query text bytes status shown m n (refused f h) = refused f (long_fault text bytes f m n h)
long_output query text bytes status shown m n (printed d s t is h) = absurd (omega (arith, m, is.written.short))

le_or_lt : (m n : ℕ) → (m ≤ n) ⊎ (n < m)
le_or_lt zero n = inl (omega arith)
le_or_lt (suc m) zero = inr (omega arith)
le_or_lt (suc m) (suc n) = elim (le_or_lt m n) [
  | inl h ↦ inl (omega (arith, h))
  | inr h ↦ inr (omega (arith, h))
]

-- what is printed of what was taken from a source is what is printed of what it had left
pub given_left : (query : Query) (text : List ℕ) (rest after : Option (List ℕ)) (status : Status) (shown : List ℕ) → TakesWhole 4194304 text rest after
    → IsOutput query text status shown → IsGivenTo query rest status shown
given_left query text rest after status shown read h = elim (le_or_lt (length text) 4194304) [
  | inl short ↦ record { bytes = text; left = whole_left 4194304 text rest after read short; lawful = h }
  | inr long ↦ let left = long_left 4194304 text rest after read long in
      record { bytes = left.0; left = left.1; lawful = long_output query text left.0 status shown long left.2 h }
]

-- and that is an answer to the words
pub given_words : (words : List (List ℕ)) (query : Query) (rest : Option (List ℕ)) (r : Result Output ReadRefused) → Asks words (Of query)
    → IfOk r (λ out. IsGivenTo query rest out.status out.text.items) → IfOk r (λ out. IsGiven words rest out.status out.text.items)
given_words words query rest (Ok out) asks given =
    record { bytes = given.bytes; left = given.left; lawful = taken query out.status out.text.items asks given.lawful }
given_words words query rest (Err e) asks given = tt

-- where nothing is read, nothing is lost
pub none_lost : (most : ℕ) (rest : Option (List ℕ)) → LosesAtMost most rest rest
none_lost most None = tt
none_lost most (Some told) = ([], told, refl, omega arith, refl)

-- ---- where nothing is read

-- what is printed without an input is an answer, whatever the source had left
pub given_unread : (words : List (List ℕ)) (rest : Option (List ℕ)) (status : Status) (text : List ℕ) (out : Output)
    → ((bytes : List ℕ) → IsAnswer words bytes status text) → Shows out status text
    → IsGiven words rest out.status out.text.items
given_unread words rest status text out answers shows =
    let left = some_left rest in
    record {
      bytes = left.0;
      left = left.1;
      lawful = subst (λ s. IsAnswer words left.0 s out.text.items) (sym shows.same_status)
          (subst (IsAnswer words left.0 status) (sym shows.same_text) (answers left.0));
    }

-- words that ask for the help ask for nothing of a document
pub help_alone : (words : List (List ℕ)) (query : Query) → Asks words Help → Asks words (Of query) → ⊥
help_alone words Letters help of = let e : true ≡ false = sym help.1.0 ∙ of.1.0 in cc
help_alone words (About request) help of = let e : true ≡ false = sym help.1.0 ∙ of.1.0 in cc
help_alone words (Certificate name work) help of = let e : true ≡ false = sym help.1.0 ∙ of.1.0 in cc
