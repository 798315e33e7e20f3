-- `solve`: which answer comes where, and what is promised of it.
use Rattle.std.specs.Prelude.{◌≡◌, ◌⊎◌, ◌<◌, ℕ, Bool, true, false, List, Option, Some, None, IsTrue}
use Rattle.ltl_io.specs.Outside.{Grows, LosesAtMost}
use Rattle.ltl_syntax.specs.declared.node.Kind.{Kind}
use Rattle.ltl_syntax.specs.Formula.{Formula}
use Rattle.ltl_parser.specs.Text.{IsAccepted}
use Rattle.ltl_word.specs.declared.trace.Trace.{Trace}
use Rattle.ltl_closure.specs.Run.{IsVerdict, Sat, Unsat, Undecided, bound}
use Rattle.enc_layout.specs.Letters.{Fits}
use Rattle.derivation.specs.Steps.{DerivationValue}
use Rattle.log_trim.specs.Kept.{Marks}
use Rattle.log_trim.specs.Trimmed.{IsTrimmed}
use Rattle.unravel.specs.Decision.{IsTraceOfRun, IsModel, HasNoTrace, IsRefutation}
use Rattle.enc_layout.specs.Limit.{layout, IsInForce}
use Rattle.cert_text.specs.Text.{text_of as certificate_text}
use Rattle.cert_text.specs.Writing.{written}
use Rattle.cert_check.specs.Lawful.{IsLawfulAt}
use Rattle.report.specs.declared.fault.Fault.{Fault}
use Rattle.report.specs.declared.fault.Fault.TheVariants as faults
use Rattle.report.specs.Texts.{sat_text, unsat_text, undecided_text, ReadsBack}
use Rattle.report.specs.declared.status.Status.{Status}
use Rattle.report.specs.declared.status.Status.TheVariants as statuses
use Rattle.report.specs.Status.{has_read}
use Rattle.command_words.specs.Words.{Setting, kind_of, depth_of, core_of, cert_of}
use Rattle.program_input.specs.Claims.{OfFormula}
use Rattle.program_input.specs.Taking.{IsTakenUpTo}
use Rattle.black_top.specs.Answer.{Answer, refused, sat, unsat, undecided, status_of, text_of}
use Rattle.program_input.specs.Reading.{RefusesPart}
use Rattle.black_top.specs.Check.{IsVerified}
use Rattle.black_top.specs.Conflict.{ShowsCore, TellsConflict}

-- the number up to which the limit in force is taken: the depth that was asked for, or 64
abbrev pub number_of : Option ℕ → ℕ
number_of (Some n) = n
number_of None = 64

-- the limit is the depth that was asked for, where one was
abbrev pub IsReached : Option ℕ → ℕ → Type 0
IsReached (Some n) d = d ≡ n
IsReached None d = Unit {0}

-- the text is written of a log that refutes the formula at this depth: its version is 2, it has just the lines that the targets of the log stand on, and
-- each of them is deleted behind its last use
pub record IsWritten (f : Formula) (kind : Kind) (k : ℕ) (text : List ℕ) : Type 0 where
  pub log : DerivationValue
  pub closing : List ℕ
  pub refutes : IsRefutation f kind k log closing
  pub needed : DerivationValue
  pub targets : List ℕ
  pub marks : Marks
  pub trimmed : IsTrimmed log closing needed targets marks
  pub spelled : text ≡ certificate_text (written kind k needed.lines needed.hints targets)

-- a certificate is shown exactly where one is asked for. It is lawful for the formula and the kind, and of this depth, and it is written of a log
abbrev pub Certifies : Bool → Formula → Kind → ℕ → Option (List ℕ) → Type 0
Certifies false f kind k certificate = certificate ≡ None
Certifies true f kind k certificate = (text : List ℕ) × (certificate ≡ Some text) × IsLawfulAt f kind k text × IsWritten f kind k text

-- the answer is the tableau's verdict at the limit, its trace is that of an accepted run and reads back, its core is the formula's for the asked number,
-- and its certificate is lawful and of the verdict's depth
pub data IsDecided (f : Formula) (kind : Kind) (asked limit : ℕ) (core cert : Bool) : Answer → Type 0 where
  satisfiable : (k : ℕ) (t : Trace) → IsVerdict f kind limit (Sat k) → IsTraceOfRun f kind k t → ReadsBack t → IsDecided f kind asked limit core cert (sat k t)
  unsatisfiable : (k : ℕ) (conflict certificate : Option (List ℕ)) → IsVerdict f kind limit (Unsat k) → ShowsCore core f kind asked conflict
      → Certifies cert f kind k certificate → IsDecided f kind asked limit core cert (unsat k conflict certificate)
  undecided_yet : (k : ℕ) → IsVerdict f kind limit (Undecided k) → IsDecided f kind asked limit core cert (undecided k)

-- the answer to an accepted formula: the depth that was asked for has too many letters, or the verdict at the limit in force
pub data IsSettled (kind : Kind) (wanted : Option ℕ) (core cert : Bool) (f : Formula) : Answer → Type 0 where
  too_deep : (n limit : ℕ) → wanted ≡ Some n → IsInForce f kind n limit → limit < n → IsSettled kind wanted core cert f (refused (faults.Letters limit))
  decided : (limit : ℕ) (answer : Answer) → IsInForce f kind (number_of wanted) limit → IsReached wanted limit
      → IsDecided f kind (number_of wanted) limit core cert answer → IsSettled kind wanted core cert f answer

-- the answer of `solve` to the formula part: the part is refused, or the formula is accepted and its answer comes
pub data IsSolved (kind : Kind) (wanted : Option ℕ) (core cert : Bool) (part : List ℕ) : Answer → Type 0 where
  unreadable : (fault : Fault) → RefusesPart part fault → IsSolved kind wanted core cert part (refused fault)
  settled : (f : Formula) (answer : Answer) → IsAccepted part f → IsSettled kind wanted core cert f answer → IsSolved kind wanted core cert part answer

-- SAT was printed with a trace of the kind that satisfies the formula, and what was printed reads back as that trace
pub record PrintsModel (kind : Kind) (f : Formula) (before after : Option (List ℕ)) : Type 0 where
  pub depth : ℕ
  pub trace : Trace
  pub model : IsModel f kind trace
  pub reads : ReadsBack trace
  pub printed : Grows (sat_text depth trace) before after

-- UNSAT was printed, and no trace of the kind satisfies the formula. Where a core is asked for, the formula's was printed, which is locally minimal.
-- Where a certificate is asked for, one was printed that is lawful, of the printed depth and written of a log, and `check` verifies it behind the text of
-- the formula
pub record PrintsNone (kind : Kind) (wanted : Option ℕ) (core cert : Bool) (part : List ℕ) (f : Formula) (before after : Option (List ℕ)) : Type 0 where
  pub depth : ℕ
  pub conflict : Option (List ℕ)
  pub certificate : Option (List ℕ)
  pub none : HasNoTrace f kind
  pub conflicts : TellsConflict core f kind (number_of wanted) conflict
  pub certifies : Certifies cert f kind depth certificate
  pub verified : IsVerified kind part certificate
  pub printed : Grows (unsat_text depth conflict certificate) before after

-- UNDECIDED was printed: the verdict at the limit in force is so, and that limit is below the bound
pub record PrintsUndecided (kind : Kind) (wanted : Option ℕ) (f : Formula) (before after : Option (List ℕ)) : Type 0 where
  pub limit : ℕ
  pub in_force : IsInForce f kind (number_of wanted) limit
  pub verdict : IsVerdict f kind limit (Undecided limit)
  pub below_bound : limit < bound f kind
  pub printed : Grows (undecided_text limit) before after

-- the letters through the depth that was asked for are within their limit
abbrev pub AreFewLetters : Kind → Option ℕ → Formula → Type 0
AreFewLetters kind (Some n) f = Fits (layout f kind) n
AreFewLetters kind None f = Unit {0}

-- the verdict at the limit in force was printed, with its status
pub record PrintsVerdict (kind : Kind) (wanted : Option ℕ) (core cert : Bool) (f : Formula) (before after : Option (List ℕ)) (status : Status) : Type 0 where
  pub limit : ℕ
  pub in_force : IsInForce f kind (number_of wanted) limit
  pub reached : IsReached wanted limit
  pub answer : Answer
  pub decided : IsDecided f kind (number_of wanted) limit core cert answer
  pub own : status ≡ status_of answer
  pub printed : Grows (text_of answer) before after

-- what `solve` promises of a call: of the rest of the source and the content of the sink, before and after, and of its status.
-- A call is quiet where neither count of faults rose
pub record SolvePromise (settings : List Setting) (IsQuiet : Type 0) (rest left before after : Option (List ℕ)) (status : Status) : Type 0 where
  -- SAT is printed only with a trace of the chosen kind that satisfies the formula
  pub when_sat : status ≡ statuses.Sat → OfFormula rest (λ part f. PrintsModel (kind_of settings) f before after)
  -- UNSAT is printed only where no trace of the chosen kind satisfies the formula. With --core its core is printed, and with --cert a certificate
  -- that `check` verifies
  pub when_unsat : status ≡ statuses.Unsat
      → OfFormula rest (λ part f. PrintsNone (kind_of settings) (depth_of settings) (core_of settings) (cert_of settings) part f before after)
  -- UNDECIDED is printed only where the tableau's verdict at the limit in force is so, and never where that limit is at least the bound
  pub when_undecided : status ≡ statuses.Undecided → OfFormula rest (λ part f. PrintsUndecided (kind_of settings) (depth_of settings) f before after)
  -- an accepted formula whose letters are few enough gets the tableau's verdict, or there was no memory
  pub verdict : (bytes : List ℕ) (f : Formula) → rest ≡ Some bytes → IsAccepted bytes f → AreFewLetters (kind_of settings) (depth_of settings) f → IsQuiet
      → (status ≡ statuses.NoMemory) ⊎ PrintsVerdict (kind_of settings) (depth_of settings) (core_of settings) (cert_of settings) f before after status
  -- the source is untouched past the first read that brings what was taken above the limit of a text
  pub most : LosesAtMost 1114112 rest left
  -- where a read failed, no more than that limit was taken before
  pub before_fault : status ≡ statuses.ReadFault → LosesAtMost 1048576 rest left
  -- and it is read until then, or to its end
  pub taken : IsTrue (has_read status) → IsTakenUpTo 1048576 rest left
