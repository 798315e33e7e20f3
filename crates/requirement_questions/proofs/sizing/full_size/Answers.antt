use Rattle.std.proofs.Common.{◌≡◌, ◌∙◌, ◌+◌, ◌-◌, ◌≤◌, length, sym, ap, arith}
use Rattle.std.proofs.lemmas.List.{length-map}
use Rattle.ltl_syntax.specs.Size.{formula_size}
use Rattle.requirement_questions.specs.Formulas.{formula_in, given_formulas, all_formulas}
use Rattle.requirement_questions.specs.Sizing.{steps_of}
use Rattle.requirement_questions.proofs.Steps.{one_step, all_steps, full_size}
use Rattle.requirement_questions.proofs.sizing.full_size.Goals as goal

pub given-preserved : goal.given-preserved
given-preserved c =
    let q = c.args.question.now in
    let g = c.index-question-k.result in
    let size : c.in_ok-steps.field-0 ≡ formula_size (formula_in g) =
    c.in_ok-steps.ensures.size ∙ ap (λ x. formula_size (formula_in x)) (sym c.index-question-k.is) in
    let more = one_step q c.given.k g c.given-test.true c.index-question-k.is in
    record {
      steps = omega (arith, size, more, c.given.invariant.steps);
      few = omega (arith, c.in_ok-steps.ensures.few, c.given.invariant.few);
    }

pub returns-clause-size : goal.returns-clause-size
returns-clause-size c =
    let q = c.args.question.now in
    let steps = c.given.steps + c.in_ok-steps-2.field-0 in
    let le : length (given_formulas q) ≤ c.given.k = omega (arith, c.given-test.false, length-map q.given.now formula_in) in
    let total : steps ≡ steps_of (all_formulas q) = omega (arith, c.given.invariant.steps, c.in_ok-steps-2.ensures.steps, all_steps q c.given.k le) in
    (full_size q steps (steps - 1) total (omega (arith, c.if-steps-eq0.false)) (omega (arith, c.if-steps-eq0.false))).0

pub returns-clause-many : goal.returns-clause-many
returns-clause-many c =
    let q = c.args.question.now in
    let steps = c.given.steps + c.in_ok-steps-2.field-0 in
    let le : length (given_formulas q) ≤ c.given.k = omega (arith, c.given-test.false, length-map q.given.now formula_in) in
    let total : steps ≡ steps_of (all_formulas q) = omega (arith, c.given.invariant.steps, c.in_ok-steps-2.ensures.steps, all_steps q c.given.k le) in
    (full_size q steps (steps - 1) total (omega (arith, c.if-steps-eq0.false)) (omega (arith, c.if-steps-eq0.false))).1
