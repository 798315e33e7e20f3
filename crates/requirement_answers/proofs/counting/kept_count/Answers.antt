use Rattle.std.proofs.Common.{◌∙◌, ◌+◌, not, ap, ap₂, arith}
use Rattle.requirement_answers.specs.Verdicts.{has_break}
use Rattle.requirement_answers.proofs.Counted.{at_most_one, count_more}
use Rattle.requirement_answers.proofs.counting.kept_count.Goals as goal

pub checks-preserved : goal.checks-preserved
checks-preserved c =
    let d = c.index-checks-k.result in
    let b = not c.has_break.result in
    let same = ap not (c.has_break.ensures ∙ ap has_break c.index-checks-k.is) in
    record {
      so_far = ap₂ (λ x y. x + y) c.checks.invariant.so_far c.one_if-count.ensures
          ∙ count_more (λ x. not (has_break x)) c.args.checks.now c.checks.k d b c.checks-test.true same;
      few = omega (arith, c.checks.invariant.few, c.one_if-count.ensures, at_most_one b);
    }
