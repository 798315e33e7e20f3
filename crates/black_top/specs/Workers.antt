-- The number of workers changes no answer.
use Rattle.std.specs.Prelude.{◌≡◌, ℕ, List}
use Rattle.command_words.specs.Words.{Setting, Command, Solve, Check, Batch, Asks, kind_of, depth_of, core_of, cert_of}
use Rattle.black_top.specs.Answer.{Answer}
use Rattle.black_top.specs.Run.{IsAnswer}

-- the settings say the same of all but the workers
pub record AskAlike (one other : List Setting) : Type 0 where
  pub kind : kind_of one ≡ kind_of other
  pub depth : depth_of one ≡ depth_of other
  pub core : core_of one ≡ core_of other
  pub cert : cert_of one ≡ cert_of other

-- words that ask for the command with settings that say the same have the same answers
abbrev pub AnswerAlike : (List Setting → Command) → Type 0
AnswerAlike command =
    (words also : List (List ℕ)) (one other : List Setting) (bytes : List ℕ) (answer : Answer) → Asks words (command one) → Asks also (command other)
    → AskAlike one other → IsAnswer words bytes answer → IsAnswer also bytes answer

-- each command that is done by workers
pub record WorkersAreFree : Type 0 where
  pub solve : AnswerAlike Solve
  pub check : AnswerAlike Check
  pub batch : AnswerAlike Batch
