-- `trace`: which answer comes where, and what is promised of it.
use Rattle.std.specs.Prelude.{◌≡◌, ◌≤◌, ℕ, List, Option, Ok, Err, true, false, IsTrue}
use Rattle.ltl_io.specs.Outside.{Grows}
use Rattle.ltl_syntax.specs.Formula.{Formula}
use Rattle.ltl_parser.specs.Text.{IsAccepted}
use Rattle.ltl_word.specs.declared.trace.Trace.{Trace}
use Rattle.ltl_word.specs.Holds.{Satisfies}
use Rattle.ltl_word.specs.Json.{IsReading}
use Rattle.ltl_word.specs.declared.json.TraceFault.TheVariants as trace_faults
use Rattle.lasso_eval.specs.Cells.{cells, max_cells, AreTooMany}
use Rattle.report.specs.declared.fault.Fault.TheVariants as faults
use Rattle.report.specs.Texts.{traced_text}
use Rattle.report.specs.declared.status.Status.{Status}
use Rattle.report.specs.declared.status.Status.TheVariants as statuses
use Rattle.report.specs.Status.{has_read}
use Rattle.program_input.specs.Parts.{IsCut}
use Rattle.program_input.specs.Taking.{AreLeft, IsTakenWhole}
use Rattle.black_top.specs.Answer.{Answer, refused, holds, fails}

-- the answer to a formula and the text of a trace: the text is refused, the cells are too many, the formula holds or fails
pub data IsJudged (f : Formula) (text : List ℕ) : Answer → Type 0 where
  not_json : IsReading text (Err trace_faults.NotJson) → IsJudged f text (refused faults.NotJson)
  not_trace : IsReading text (Err trace_faults.NotTrace) → IsJudged f text (refused faults.NotTrace)
  empty_loop : IsReading text (Err trace_faults.EmptyLoop) → IsJudged f text (refused faults.EmptyLoop)
  empty_states : IsReading text (Err trace_faults.EmptyStates) → IsJudged f text (refused faults.EmptyStates)
  many_cells : (t : Trace) (count : ℕ) → IsReading text (Ok t) → AreTooMany t f count → IsJudged f text (refused (faults.Cells count))
  satisfied : (t : Trace) → IsReading text (Ok t) → cells t f ≤ max_cells → Satisfies t f → IsJudged f text holds
  violated : (t : Trace) → IsReading text (Ok t) → cells t f ≤ max_cells → ¬ (Satisfies t f) → IsJudged f text fails

-- HOLDS was printed, and the trace satisfies the formula
abbrev pub PrintsHolds : Formula → Trace → Option (List ℕ) → Option (List ℕ) → Type 0
PrintsHolds f t before after = Satisfies t f × Grows (traced_text true) before after

-- FAILS was printed, and the trace does not satisfy the formula
abbrev pub PrintsFails : Formula → Trace → Option (List ℕ) → Option (List ℕ) → Type 0
PrintsFails f t before after = ¬ (Satisfies t f) × Grows (traced_text false) before after

-- what is claimed of the accepted formula and of the trace that the source had left
pub record OfTrace (rest : Option (List ℕ)) (Claim : Formula → Trace → Type 0) : Type 0 where
  pub bytes : List ℕ
  pub left : AreLeft rest bytes
  pub part : List ℕ
  pub second : List ℕ
  pub cut : IsCut bytes part second
  pub formula : Formula
  pub accepted : IsAccepted part formula
  pub trace : Trace
  pub read : IsReading second (Ok trace)
  pub claim : Claim formula trace

-- what `trace` promises of a call: of the rest of the source and the content of the sink, before and after, and of its status
pub record TracePromise (rest left before after : Option (List ℕ)) (status : Status) : Type 0 where
  -- HOLDS is printed only where the trace satisfies the formula
  pub when_holds : status ≡ statuses.Good → OfTrace rest (λ f t. PrintsHolds f t before after)
  -- FAILS is printed only where it does not
  pub when_fails : status ≡ statuses.Negative → OfTrace rest (λ f t. PrintsFails f t before after)
  -- nothing is left of the source
  pub taken : IsTrue (has_read status) → IsTakenWhole rest left
