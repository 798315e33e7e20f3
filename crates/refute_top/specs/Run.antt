-- What one call of the program did: the answer to its words and to what the source had left, and how it was printed.
use Rattle.std.specs.Prelude.{◌≡◌, ℕ, List, Option, IsTrue}
use Rattle.ltl_io.specs.Outside.{Grows, GrowsByFront}
use Rattle.report.specs.declared.status.Status.{Status}
use Rattle.command_words.specs.Words.{Setting, kind_of, cert_of, progress_of}
use Rattle.command_words.specs.Refutation.{RefutationAsked, Refute, Verify, AsksRefutation}
use Rattle.program_input.specs.Taking.{AreLeft}
use Rattle.refute_top.specs.Answer.{Answer, usage, status_of, text_of}
use Rattle.refute_top.specs.Refuting.{IsSettled}
use Rattle.refute_top.specs.Checking.{IsPartedCheck}

-- an answer to what is asked for and the bytes
abbrev pub Answers : RefutationAsked → List ℕ → Answer → Type 0
Answers (Refute settings) bytes answer = IsSettled (kind_of settings) (cert_of settings) bytes answer
Answers (Verify settings) bytes answer = IsPartedCheck (kind_of settings) bytes answer

-- the words ask for nothing
abbrev pub AsksNothing : List (List ℕ) → Type 0
AsksNothing words = (asked : RefutationAsked) → ¬ (AsksRefutation words asked)

-- an answer to these words and bytes: usage where the words ask for nothing, and else an answer to what they ask for
pub data IsAnswer (words : List (List ℕ)) (bytes : List ℕ) : Answer → Type 0 where
  not_taken : AsksNothing words → IsAnswer words bytes usage
  taken : (asked : RefutationAsked) (answer : Answer) → AsksRefutation words asked → Answers asked bytes answer → IsAnswer words bytes answer

-- an answer to these words and to what the source had left
pub record IsGiven (words : List (List ℕ)) (rest : Option (List ℕ)) (answer : Answer) : Type 0 where
  pub bytes : List ℕ
  pub left : AreLeft rest bytes
  pub lawful : IsAnswer words bytes answer

-- an answer was given: the status is its own, and a told content grew by exactly its text
pub record IsAnswered (words : List (List ℕ)) (rest before after : Option (List ℕ)) (status : Status) : Type 0 where
  pub answer : Answer
  pub given : IsGiven words rest answer
  pub own : status ≡ status_of answer
  pub printed : Grows (text_of answer) before after

-- the sink broke off: a told content grew by a front of an answer's text
pub record IsCutOff (words : List (List ℕ)) (rest before after : Option (List ℕ)) : Type 0 where
  pub answer : Answer
  pub given : IsGiven words rest answer
  pub front : GrowsByFront (text_of answer) before after

-- the words ask for no lines on progress
abbrev pub AsksNoProgress : List (List ℕ) → Type 0
AsksNoProgress words = (settings : List Setting) → AsksRefutation words (Refute settings) → ¬ (IsTrue (progress_of settings))
