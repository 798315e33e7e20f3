-- What words ask for, and the answer to it.
use Rattle.std.proofs.Common.{◌≡◌, ℕ, List, subst}
use Rattle.command_words.specs.Refutation.{RefutationAsked, AsksRefutation}
use Rattle.refute_top.specs.Answer.{Answer}
use Rattle.refute_top.specs.Run.{Answers, IsAnswer, not_taken, taken}

-- the words ask for one thing
abbrev pub AskForOne : Type 0
AskForOne = (words : List (List ℕ)) (c d : RefutationAsked) → AsksRefutation words c → AsksRefutation words d → c ≡ d

-- an answer to what was asked for
pub answer_given : AskForOne → (words : List (List ℕ)) (bytes : List ℕ) (c : RefutationAsked) (a : Answer) → AsksRefutation words c → IsAnswer words bytes a
    → Answers c bytes a
answer_given one words bytes c a asks (not_taken n) = absurd (n c asks)
answer_given one words bytes c a asks (taken d b also h) = subst (λ x. Answers x bytes a) (one words d c also asks) h
