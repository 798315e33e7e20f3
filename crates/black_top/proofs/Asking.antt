-- The command that words ask for, and its answer.
use Rattle.std.proofs.Common.{ℕ, List, subst}
use Rattle.command_words.specs.Words.{Command, Asks}
use Rattle.command_words.proofs.OneCommand.{command_one}
use Rattle.black_top.specs.Answer.{Answer}
use Rattle.black_top.specs.Run.{Answers, IsAnswer, not_taken, taken}

-- the answer of the command that was asked for
pub command_given : (words : List (List ℕ)) (bytes : List ℕ) (c : Command) (a : Answer) → Asks words c → IsAnswer words bytes a → Answers c bytes a
command_given words bytes c a asks (not_taken n) = absurd (n c asks)
command_given words bytes c a asks (taken d b also h) = subst (λ x. Answers x bytes a) (command_one words d c also asks) h
