-- What a question leaves, and what its answer says of the state.
use Rattle.std.specs.Prelude.{◌≡◌, ℕ, ◌≤◌, ◌⊎◌, ◌++◌, Bool, true, false, List, length, All, Any, Contains}
use Rattle.cnf_base.specs.declared.literal.Literal.{Literal}
use Rattle.cnf_base.specs.declared.literal.Hint.{Hint}
use Rattle.cnf_base.specs.Literal.{opposite}
use Rattle.cnf_base.specs.Meaning.{literal_value, Satisfies}
use Rattle.cnf_base.specs.Step.{clause_at}
use Rattle.clause_log.specs.LogValue.{LogValue}
use Rattle.cdcl_state.specs.StateValue.{StateValue, with_all_lines, IsBack}
use Rattle.cdcl_trail.specs.Trail.{literals_of}
use Rattle.cdcl.specs.declared.solve.Answer.{Answer}
use Rattle.cdcl.specs.declared.solve.Answer.TheVariants.{Sat, Unsat}

-- the clause has only opposites of assumptions
abbrev pub IsNegated : List Literal → List Literal → Type 0
IsNegated assumptions clause = All (λ l. Contains assumptions (opposite l)) clause

-- no assumption stands beside its opposite
abbrev pub IsConsistent : List Literal → Type 0
IsConsistent assumptions = (l : Literal) → Contains assumptions l → ¬ Contains assumptions (opposite l)

-- each literal is true
abbrev pub AreTrue : (ℕ → Bool) → List Literal → Type 0
AreTrue v literals = All (λ l. literal_value v l ≡ true) literals

-- some assignment makes all clauses and all assumptions true
abbrev pub IsSatisfiable : List (List Literal) → List Literal → Type 0
IsSatisfiable clauses assumptions = (v : ℕ → Bool) × Satisfies v clauses × AreTrue v assumptions

-- the inputs are as before, and the earlier lines with their hints are a prefix of the lines
pub record IsLonger (old new : LogValue) : Type 0 where
  pub inputs : new.inputs ≡ old.inputs
  pub more : List (List Literal)
  pub lines : new.lines ≡ old.lines ++ more
  pub reasons : List (List Hint)
  pub hints : new.hints ≡ old.hints ++ reasons

-- the letters are as before, and the log has at most more lines
pub record IsAfter (old new : StateValue) : Type 0 where
  pub letters : new.letters ≡ old.letters
  pub log : IsLonger old.log new.log

-- all decisions were taken back, and then perhaps some lines forgotten
pub record IsRestarted (old new : StateValue) : Type 0 where
  pub mid : StateValue
  pub back : IsBack old mid 0
  pub after : (new ≡ mid) ⊎ (new ≡ with_all_lines mid false)

-- the answer is a line that has only literals of this clause
abbrev pub IsLineOf : StateValue → List Literal → Answer → Type 0
IsLineOf s clause Sat = ⊥
IsLineOf s clause (Unsat line) = (1 ≤ line) × (line ≤ length s.log.lines) × All (Contains clause) (clause_at s.log.lines line)

-- the true literals satisfy inputs and assumptions, or the line has only negations of assumptions
abbrev pub IsFound : StateValue → List Literal → Answer → Type 0
IsFound s assumptions Sat = All (λ clause. Any (Contains (literals_of s.trail)) clause) s.log.inputs × All (Contains (literals_of s.trail)) assumptions
IsFound s assumptions (Unsat line) = (1 ≤ line) × (line ≤ length s.log.lines) × IsNegated assumptions (clause_at s.log.lines line)
