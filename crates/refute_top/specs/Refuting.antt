-- Without `--check`: which answer a formula may get, and what is promised of it. UNDECIDED may come for each formula.
use Rattle.std.specs.Prelude.{◌≡◌, ◌⊎◌, ℕ, Bool, true, false, List, Option, Some, IsTrue}
use Rattle.ltl_io.specs.Outside.{Grows, LosesAtMost}
use Rattle.ltl_syntax.specs.declared.node.Kind.{Kind}
use Rattle.ltl_syntax.specs.Formula.{Formula}
use Rattle.ltl_parser.specs.Text.{IsAccepted}
use Rattle.ltl_word.specs.declared.trace.Trace.{Trace}
use Rattle.unravel.specs.Decision.{IsModel, HasNoTrace}
use Rattle.claims.specs.Certificate.{Certificate}
use Rattle.claims.specs.Lawful.{IsLawful}
use Rattle.claim_text.specs.Text.{IsTextOf}
use Rattle.claim_reading.specs.Never.{never_text}
use Rattle.report.specs.declared.fault.Fault.{Fault}
use Rattle.report.specs.declared.status.Status.{Status}
use Rattle.report.specs.declared.status.Status.TheVariants as statuses
use Rattle.report.specs.Status.{has_read}
use Rattle.report.specs.Texts.{ReadsBack}
use Rattle.command_words.specs.Words.{Setting, kind_of, cert_of}
use Rattle.program_input.specs.Reading.{RefusesPart}
use Rattle.program_input.specs.Claims.{OfFormula}
use Rattle.program_input.specs.Taking.{IsTakenUpTo}
use Rattle.refute_top.specs.Texts.{sat_text, unsat_text, undecided_text}
use Rattle.refute_top.specs.Answer.{Answer, refused, sat, unsat, certified, undecided, status_of, text_of}
use Rattle.refute_top.specs.Checking.{IsVerified}

-- what an accepted formula may be answered: SAT with a trace of the kind that satisfies it and reads back; UNSAT only where some certificate is lawful, with
-- its claims as formulas, or with its text where that is asked for; or UNDECIDED
pub data IsFound (kind : Kind) (cert : Bool) (f : Formula) : Answer → Type 0 where
  satisfiable : (t : Trace) → IsModel f kind t → ReadsBack t → IsFound kind cert f (sat t)
  refuted : (c : Certificate) → cert ≡ false → IsLawful f kind c → IsFound kind cert f (unsat (never_text f c))
  certified_so : (c : Certificate) (text : List ℕ) → cert ≡ true → IsLawful f kind c → IsTextOf text c → IsFound kind cert f (certified text)
  open_yet : IsFound kind cert f undecided

-- the answer to the text of a formula: it is refused, or the formula is accepted and this may be its answer
pub data IsSettled (kind : Kind) (cert : Bool) (part : List ℕ) : Answer → Type 0 where
  unreadable : (fault : Fault) → RefusesPart part fault → IsSettled kind cert part (refused fault)
  settled : (f : Formula) (answer : Answer) → IsAccepted part f → IsFound kind cert f answer → IsSettled kind cert part answer

-- SAT was printed with a trace of the kind that satisfies the formula, and what was printed reads back as that trace
pub record PrintsModel (kind : Kind) (f : Formula) (before after : Option (List ℕ)) : Type 0 where
  pub trace : Trace
  pub model : IsModel f kind trace
  pub reads : ReadsBack trace
  pub printed : Grows (sat_text trace) before after

-- what was printed behind UNSAT shows it: the claims of a lawful certificate as formulas, or where that is asked for the text of one, which `--check` verifies
-- behind the text of the formula
abbrev pub Shows : Bool → Kind → List ℕ → Formula → List ℕ → Type 0
Shows false kind part f shown = (c : Certificate) × IsLawful f kind c × (shown ≡ never_text f c)
Shows true kind part f shown = (c : Certificate) × IsLawful f kind c × IsTextOf shown c × IsVerified kind part shown

-- UNSAT was printed with what shows it, and no trace of the kind satisfies the formula
pub record PrintsNone (kind : Kind) (cert : Bool) (part : List ℕ) (f : Formula) (before after : Option (List ℕ)) : Type 0 where
  pub none : HasNoTrace f kind
  pub shown : List ℕ
  pub by : Shows cert kind part f shown
  pub printed : Grows (unsat_text shown) before after

-- an answer that the formula may get was printed, with its status
pub record PrintsFound (kind : Kind) (cert : Bool) (f : Formula) (before after : Option (List ℕ)) (status : Status) : Type 0 where
  pub answer : Answer
  pub found : IsFound kind cert f answer
  pub own : status ≡ status_of answer
  pub printed : Grows (text_of answer) before after

-- what the search for a refutation promises of a call: of the rest of the source and the content of the sink, before and after, and of its status.
-- A call is quiet where neither count of faults rose
pub record RefutePromise (settings : List Setting) (IsQuiet : Type 0) (rest left before after : Option (List ℕ)) (status : Status) : Type 0 where
  -- SAT is printed only with a trace of the chosen kind that satisfies the formula
  pub when_sat : status ≡ statuses.Sat → OfFormula rest (λ part f. PrintsModel (kind_of settings) f before after)
  -- UNSAT is printed only where no trace of the chosen kind satisfies the formula, with what shows it
  pub when_unsat : status ≡ statuses.Unsat → OfFormula rest (λ part f. PrintsNone (kind_of settings) (cert_of settings) part f before after)
  -- UNDECIDED is printed only of an accepted formula
  pub when_undecided : status ≡ statuses.Undecided → OfFormula rest (λ part f. Grows undecided_text before after)
  -- an accepted formula is not refused: SAT, UNSAT or UNDECIDED is printed, or there was no memory
  pub answer : (bytes : List ℕ) (f : Formula) → rest ≡ Some bytes → IsAccepted bytes f → IsQuiet
      → (status ≡ statuses.NoMemory) ⊎ PrintsFound (kind_of settings) (cert_of settings) f before after status
  -- the source is untouched past the first read that brings what was taken above the limit of a text
  pub most : LosesAtMost 1114112 rest left
  -- where a read failed, no more than that limit was taken before
  pub before_fault : status ≡ statuses.ReadFault → LosesAtMost 1048576 rest left
  -- and it is read until then, or to its end
  pub taken : IsTrue (has_read status) → IsTakenUpTo 1048576 rest left
