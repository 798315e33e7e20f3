-- `monitor`: which answer comes where, and what is promised of it.
use Rattle.std.specs.Prelude.{◌≡◌, ◌<◌, ℕ, suc, Bool, List, length, take, Option, Ok, Err, IsTrue}
use Rattle.ltl_io.specs.Outside.{Grows}
use Rattle.ltl_syntax.specs.Formula.{Formula}
use Rattle.ltl_word.specs.declared.trace.Trace.TheVariants.{Finite}
use Rattle.ltl_word.specs.Trace.{Names}
use Rattle.ltl_word.specs.Holds.{Holds}
use Rattle.past_monitor.specs.declared.refused.WatchRefused.TheVariants as watch_refused
use Rattle.past_monitor.specs.Past.{IsPast}
use Rattle.past_monitor.specs.Text.{lines_of, AreStates, AreAnswers, IsWatched}
use Rattle.report.specs.declared.fault.Fault.TheVariants as faults
use Rattle.report.specs.Texts.{answers_text}
use Rattle.report.specs.declared.status.Status.{Status}
use Rattle.report.specs.declared.status.Status.TheVariants as statuses
use Rattle.report.specs.Status.{has_read}
use Rattle.program_input.specs.Taking.{IsTakenWhole}
use Rattle.program_input.specs.Claims.{OfParts}
use Rattle.black_top.specs.Answer.{Answer, refused, watched}

-- the answer to a formula and the text of states: the formula looks ahead, a line is neither white space nor a state, or each state
-- has its answer
pub data IsMonitored (f : Formula) (text : List ℕ) : Answer → Type 0 where
  looks_ahead : IsWatched f text (Err watch_refused.Future) → IsMonitored f text (refused faults.LooksAhead)
  no_state : (number : ℕ) → IsWatched f text (Err (watch_refused.State number)) → IsMonitored f text (refused (faults.State number))
  answered : (answers : List Bool) → IsWatched f text (Ok answers) → IsMonitored f text (watched answers)

-- a line was printed for each state of the text: the one for state n, from 0, says whether the formula holds at the last position of
-- the finite trace of the states up to it
pub record PrintsAnswers (f : Formula) (text : List ℕ) (before after : Option (List ℕ)) (Claim : List Names → Type 0) : Type 0 where
  pub past : IsPast f
  pub states : List Names
  pub read : AreStates (lines_of text) states
  pub answers : List Bool
  pub right : AreAnswers f states answers
  pub printed : Grows (answers_text answers) before after
  pub claim : Claim states

-- the formula holds at each of the states
abbrev pub HoldsAtEach : Formula → List Names → Type 0
HoldsAtEach f states = (n : ℕ) → n < length states → Holds (Finite (take (suc n) states)) f n

-- the formula does not hold at one of them
abbrev pub FailsAtOne : Formula → List Names → Type 0
FailsAtOne f states = (n : ℕ) × (n < length states) × ¬ (Holds (Finite (take (suc n) states)) f n)

-- what `monitor` promises of a call: of the rest of the source and the content of the sink, before and after, and of its status
pub record MonitorPromise (rest left before after : Option (List ℕ)) (status : Status) : Type 0 where
  -- the status is the good one only where the formula holds at each state
  pub when_each : status ≡ statuses.Good → OfParts rest (λ f text. PrintsAnswers f text before after (HoldsAtEach f))
  -- it is the negative one only where the formula does not hold at some state
  pub when_one_fails : status ≡ statuses.Negative → OfParts rest (λ f text. PrintsAnswers f text before after (FailsAtOne f))
  -- nothing is left of the source
  pub taken : IsTrue (has_read status) → IsTakenWhole rest left
