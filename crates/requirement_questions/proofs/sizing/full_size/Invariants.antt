use Rattle.std.proofs.Common.{◌≡◌, ◌≤◌, ◌*◌, take}
use Rattle.requirement_questions.specs.Formulas.{given_formulas}
use Rattle.requirement_questions.specs.Sizing.{steps_of}
use Rattle.requirement_questions.proofs.sizing.full_size.Given as goal

abbrev pub invariant-given : goal.invariant-given
invariant-given l = record {
  steps : l.steps ≡ steps_of (take l.k (given_formulas l.question));
  few : l.steps ≤ 4177921 * l.k;
}
