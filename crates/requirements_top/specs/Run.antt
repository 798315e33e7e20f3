-- What one call of the program did: what was printed of its words and of what the source had left, and how much of it.
use Rattle.std.specs.Prelude.{ℕ, List, Option}
use Rattle.ltl_io.specs.Outside.{Grows, GrowsByFront}
use Rattle.report.specs.declared.status.Status.{Status}
use Rattle.program_input.specs.Taking.{AreLeft}
use Rattle.requirements_top.specs.Answer.{IsAnswer}

-- an answer to these words and to what the source had left
pub record IsGiven (words : List (List ℕ)) (rest : Option (List ℕ)) (status : Status) (text : List ℕ) : Type 0 where
  pub bytes : List ℕ
  pub left : AreLeft rest bytes
  pub lawful : IsAnswer words bytes status text

-- an answer was given with this status, and a told content grew by exactly its text
pub record IsAnswered (words : List (List ℕ)) (rest before after : Option (List ℕ)) (status : Status) : Type 0 where
  pub text : List ℕ
  pub given : IsGiven words rest status text
  pub printed : Grows text before after

-- the sink broke off: a told content grew by a front of an answer's text
pub record IsCutOff (words : List (List ℕ)) (rest before after : Option (List ℕ)) : Type 0 where
  pub status : Status
  pub text : List ℕ
  pub given : IsGiven words rest status text
  pub front : GrowsByFront text before after
