-- What callers see of a solver.
use Rattle.std.specs.Prelude.{◌≡◌, ℕ, ◌≤◌, ◌+◌, Bool, false, List, length, slice_index_or}
use Rattle.cnf_base.specs.declared.literal.Literal.{Literal}
use Rattle.cnf_base.specs.Meaning.{Satisfies}
use Rattle.cnf_base.specs.Step.{clause_at}
use Rattle.clause_log.specs.LogValue.{LogValue}
use Rattle.cdcl.specs.Solving.{IsNegated, IsSatisfiable, AreTrue}
use Rattle.cdcl.specs.declared.solve.Answer.{Answer}
use Rattle.cdcl.specs.declared.solve.Answer.TheVariants.{Sat, Unsat}

-- the letters from 1 to `letters` are known; the values that were found last, under the letters' numbers, or none
pub record SolverValue : Type 0 where
  pub letters : ℕ
  pub log : LogValue
  pub model : List Bool

-- the assignment of the values that were found last
abbrev pub value_of : SolverValue → ℕ → Bool
value_of s letter = slice_index_or s.model letter false

-- the values make inputs and assumptions true; or no assignment does, and the line has only negations of assumptions
abbrev pub IsAnswer : SolverValue → List Literal → Answer → Type 0
IsAnswer s assumptions Sat = (length s.model ≡ s.letters + 1) × Satisfies (value_of s) s.log.inputs × AreTrue (value_of s) assumptions
IsAnswer s assumptions (Unsat line) =
    (1 ≤ line) × (line ≤ length s.log.lines) × IsNegated assumptions (clause_at s.log.lines line) × (¬ IsSatisfiable s.log.inputs assumptions)
