-- The answers on a system and a goal, by the verdicts of the system formula and of the whole formula at one limit.
use Rattle.std.specs.Prelude.{ℕ, Option, Some, None}
use Rattle.ltl_syntax.specs.declared.node.Kind.TheVariants as Kinds
use Rattle.ltl_syntax.specs.Formula.{Formula}
use Rattle.ltl_closure.specs.Run.{Verdict, IsVerdict, Sat, Unsat, Undecided}
use Rattle.unravel.specs.Decision.{IsTraceOfRun, IsRefutation}
use Rattle.system_check.specs.declared.deciding.SystemAnswer.{SystemAnswer}
use Rattle.system_check.specs.declared.deciding.SystemAnswer.TheVariants as answers
use Rattle.system_check.specs.System.{system_of, whole_of}

-- the verdict on infinite traces
abbrev pub Says : Formula → ℕ → Verdict → Type 0
Says f limit v = IsVerdict f Kinds.Infinite limit v

-- the formula is not refuted
abbrev pub IsNotRefuted : Formula → ℕ → Type 0
IsNotRefuted f limit = (k : ℕ) → ¬ Says f limit (Unsat k)

-- the depth at which the formula is refuted, if it is
abbrev pub IsRefutedAt : Formula → ℕ → Option ℕ → Type 0
IsRefutedAt f limit (Some k) = Says f limit (Unsat k)
IsRefutedAt f limit None = IsNotRefuted f limit

-- no path where the system formula is refuted. Else the goal holds where the whole formula is refuted, fails where that has an accepted
-- run, and is undecided where it is
abbrev pub IsAnswerOf : Formula → Formula → ℕ → SystemAnswer → Type 0
IsAnswerOf system whole limit (answers.NoPath k) = Says system limit (Unsat k)
IsAnswerOf system whole limit (answers.Holds k log targets) =
    IsNotRefuted system limit × Says whole limit (Unsat k) × IsRefutation whole Kinds.Infinite k log targets.items
IsAnswerOf system whole limit (answers.Fails k t) = IsNotRefuted system limit × Says whole limit (Sat k) × IsTraceOfRun whole Kinds.Infinite k t
IsAnswerOf system whole limit (answers.Undecided d) = IsNotRefuted system limit × Says whole limit (Undecided d)

-- the answer on the system of a start and a step, and a goal
abbrev pub IsAnswer : Formula → Formula → Formula → ℕ → SystemAnswer → Type 0
IsAnswer start step goal limit a = IsAnswerOf (system_of start step) (whole_of start step goal) limit a

-- an answer without what shows it
pub data Outcome : Type 0 where
  NoPath Holds Fails IsUnknown : ℕ → Outcome

abbrev pub outcome_of : SystemAnswer → Outcome
outcome_of (answers.NoPath k) = NoPath k
outcome_of (answers.Holds k log targets) = Holds k
outcome_of (answers.Fails k t) = Fails k
outcome_of (answers.Undecided d) = IsUnknown d
