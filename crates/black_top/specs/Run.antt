-- What one call of the program did: the answer to its words and to what the source had left, and how it was printed.
use Rattle.std.specs.Prelude.{◌≡◌, ℕ, List, Option}
use Rattle.ltl_io.specs.Outside.{Grows, GrowsByFront}
use Rattle.report.specs.declared.fault.Fault.TheVariants as faults
use Rattle.report.specs.declared.status.Status.{Status}
use Rattle.command_words.specs.Words.{Command, Solve, Check, Trace, Demo, Batch, System, Monitor, Depast, Asks, ReadsNothing, kind_of, depth_of, core_of}
use Rattle.command_words.specs.Words.{cert_of}
use Rattle.program_input.specs.Taking.{AreLeft}
use Rattle.black_top.specs.Answer.{Answer, refused, status_of, text_of}
use Rattle.black_top.specs.Reading.{IsParted}
use Rattle.black_top.specs.Solve.{IsSolved}
use Rattle.black_top.specs.Trace.{IsJudged}
use Rattle.black_top.specs.Check.{IsChecked}
use Rattle.black_top.specs.Monitor.{IsMonitored}
use Rattle.black_top.specs.Demo.{IsShown}
use Rattle.black_top.specs.Batch.{IsBatched}
use Rattle.black_top.specs.System.{IsSystemAnswer}
use Rattle.black_top.specs.Depast.{IsDepasted}

-- the answer of a command to the bytes
abbrev pub Answers : Command → List ℕ → Answer → Type 0
Answers (Solve settings) bytes answer = IsSolved (kind_of settings) (depth_of settings) (core_of settings) (cert_of settings) bytes answer
Answers (Check settings) bytes answer = IsParted (IsChecked (kind_of settings)) bytes answer
Answers Trace bytes answer = IsParted IsJudged bytes answer
Answers (Demo n) bytes answer = IsShown n answer
Answers (Batch settings) bytes answer = IsBatched (kind_of settings) (depth_of settings) bytes answer
Answers (System settings) bytes answer = IsSystemAnswer (depth_of settings) (cert_of settings) bytes answer
Answers Monitor bytes answer = IsParted IsMonitored bytes answer
Answers Depast bytes answer = IsDepasted bytes answer

-- the answer to these words and bytes: usage where the words ask for no command, and else the answer of the command that they
-- ask for
pub data IsAnswer (words : List (List ℕ)) (bytes : List ℕ) : Answer → Type 0 where
  not_taken : ((command : Command) → ¬ (Asks words command)) → IsAnswer words bytes (refused faults.Usage)
  taken : (command : Command) (answer : Answer) → Asks words command → Answers command bytes answer → IsAnswer words bytes answer

-- the answer to these words and to what the source had left
pub record IsGiven (words : List (List ℕ)) (rest : Option (List ℕ)) (answer : Answer) : Type 0 where
  pub bytes : List ℕ
  pub left : AreLeft rest bytes
  pub lawful : IsAnswer words bytes answer

-- an answer was given: the status is its own, and a told content grew by exactly its text
pub record IsAnswered (words : List (List ℕ)) (rest before after : Option (List ℕ)) (status : Status) : Type 0 where
  pub answer : Answer
  pub given : IsGiven words rest answer
  pub own : status ≡ status_of answer
  pub printed : Grows (text_of answer) before after

-- the sink broke off: a told content grew by a front of an answer's text
pub record IsCutOff (words : List (List ℕ)) (rest before after : Option (List ℕ)) : Type 0 where
  pub answer : Answer
  pub given : IsGiven words rest answer
  pub front : GrowsByFront (text_of answer) before after

-- the words ask for nothing that is in the source
abbrev pub NeedsNothing : List (List ℕ) → Type 0
NeedsNothing words = (c : Command) → Asks words c → ReadsNothing c
