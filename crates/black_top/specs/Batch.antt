-- `batch`: which answer comes where, and what is promised of it.
use Rattle.std.specs.Prelude.{◌≡◌, ◌⊎◌, ◌<◌, ◌≤◌, ℕ, List, length, Option, Some, IsTrue, IsFalse}
use Rattle.ltl_io.specs.Outside.{Grows, LosesAtMost}
use Rattle.ltl_syntax.specs.declared.node.Kind.{Kind}
use Rattle.batch_run.specs.declared.answer.LineAnswer.{LineAnswer}
use Rattle.batch_run.specs.Outcomes.{AreAnswers}
use Rattle.batch_run.specs.Texts.{batch_text, is_clean}
use Rattle.report.specs.declared.fault.Fault.TheVariants as faults
use Rattle.report.specs.Texts.{refused_text}
use Rattle.command_words.specs.Words.{Setting, kind_of, depth_of}
use Rattle.report.specs.declared.status.Status.{Status}
use Rattle.report.specs.declared.status.Status.TheVariants as statuses
use Rattle.report.specs.Status.{has_read}
use Rattle.program_input.specs.Taking.{AreLeft, IsTakenUpTo}
use Rattle.black_top.specs.Answer.{Answer, refused, batched, batch_status}
use Rattle.black_top.specs.Solve.{number_of}

-- the most bytes of a batch
abbrev pub max_batch : ℕ
max_batch = 16777216

-- the answer of `batch` to the bytes: they are too many, or the answers to their formula lines
pub data IsBatched (kind : Kind) (wanted : Option ℕ) (bytes : List ℕ) : Answer → Type 0 where
  too_many : max_batch < length bytes → IsBatched kind wanted bytes (refused faults.Batch)
  answered : (answers : List LineAnswer) → length bytes ≤ max_batch → AreAnswers kind (number_of wanted) bytes answers
      → IsBatched kind wanted bytes (batched answers)

-- exactly the text of the answers to the formula lines was printed, with their status
pub record PrintsAnswers (kind : Kind) (wanted : Option ℕ) (bytes : List ℕ) (before after : Option (List ℕ)) (status : Status) : Type 0 where
  pub answers : List LineAnswer
  pub are : AreAnswers kind (number_of wanted) bytes answers
  pub own : status ≡ batch_status answers
  pub printed : Grows (batch_text answers) before after

-- they were printed, and each of them is a verdict
pub record PrintsVerdicts (kind : Kind) (wanted : Option ℕ) (bytes : List ℕ) (before after : Option (List ℕ)) : Type 0 where
  pub answers : List LineAnswer
  pub are : AreAnswers kind (number_of wanted) bytes answers
  pub clean : IsTrue (is_clean answers)
  pub printed : Grows (batch_text answers) before after

-- they were printed, and some line is refused
pub record PrintsRefusals (kind : Kind) (wanted : Option ℕ) (bytes : List ℕ) (before after : Option (List ℕ)) : Type 0 where
  pub answers : List LineAnswer
  pub are : AreAnswers kind (number_of wanted) bytes answers
  pub unclean : IsFalse (is_clean answers)
  pub printed : Grows (batch_text answers) before after

-- the line of the limit was printed, and the bytes are more
pub record PrintsLimit (bytes : List ℕ) (before after : Option (List ℕ)) : Type 0 where
  pub long : max_batch < length bytes
  pub printed : Grows (refused_text faults.Batch) before after

-- what is claimed of the bytes that the source had left
abbrev pub OfBytes : Option (List ℕ) → (List ℕ → Type 0) → Type 0
OfBytes rest Claim = (bytes : List ℕ) × AreLeft rest bytes × Claim bytes

-- what `batch` promises of a call: of the rest of the source and the content of the sink, before and after, and of its status.
-- A call is quiet where neither count of faults rose
pub record BatchPromise (settings : List Setting) (IsQuiet : Type 0) (rest left before after : Option (List ℕ)) (status : Status) : Type 0 where
  -- the status 0 comes only where each formula line has a verdict
  pub when_verdicts : status ≡ statuses.Good → OfBytes rest (λ bytes. PrintsVerdicts (kind_of settings) (depth_of settings) bytes before after)
  -- the status 3 comes only where some formula line is refused
  pub when_refusals : status ≡ statuses.Text → OfBytes rest (λ bytes. PrintsRefusals (kind_of settings) (depth_of settings) bytes before after)
  -- the limit is printed only where the source had more bytes left
  pub when_limit : status ≡ statuses.Limit → OfBytes rest (λ bytes. PrintsLimit bytes before after)
  -- a text within the limit gets its answers, whatever the number of workers, or there was no memory
  pub answers : (bytes : List ℕ) → rest ≡ Some bytes → length bytes ≤ max_batch → IsQuiet
      → (status ≡ statuses.NoMemory) ⊎ PrintsAnswers (kind_of settings) (depth_of settings) bytes before after status
  -- the source is untouched past the first read that brings what was taken above the limit
  pub most : LosesAtMost 16842752 rest left
  -- where a read failed, no more than the limit was taken before
  pub before_fault : status ≡ statuses.ReadFault → LosesAtMost max_batch rest left
  -- and it is read until then, or to its end
  pub taken : IsTrue (has_read status) → IsTakenUpTo max_batch rest left
