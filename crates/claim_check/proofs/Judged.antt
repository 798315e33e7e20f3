-- A line is judged among all lines so far.
use Rattle.std.proofs.Common.{◌↔◌, ℕ, List}
use Rattle.cnf_base.specs.declared.literal.Literal.{Literal}
use Rattle.cnf_base.specs.declared.literal.Hint.{Hint}
use Rattle.cnf_base.specs.Step.{numbered, IsHintedStep}
use Rattle.cnf_base.specs.Among.{IsStepAmong}
use Rattle.cnf_base.proofs.Among.{step_to, step_from}

pub step_same : (clauses lines : List (List Literal)) (greatest : ℕ) (literals : List Literal) (hints : List Hint) (P : Type 0)
    → P ↔ IsStepAmong clauses (numbered lines) greatest literals hints → P ↔ IsHintedStep clauses lines greatest literals hints
step_same clauses lines greatest literals hints P law =
    (λ p. step_from clauses lines greatest literals hints (law.0 p), λ s. law.1 (step_to clauses lines greatest literals hints s))
