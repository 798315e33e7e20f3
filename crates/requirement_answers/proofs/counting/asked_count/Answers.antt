use Rattle.std.proofs.Common.{◌∙◌, ◌+◌, ap₂, arith}
use Rattle.requirement_answers.specs.Counting.{asked_so}
use Rattle.requirement_answers.proofs.Counted.{at_most_one, count_more}
use Rattle.requirement_answers.proofs.counting.asked_count.Goals as goal

pub replies-preserved : goal.replies-preserved
replies-preserved c = record {
  so_far = ap₂ (λ x y. x + y) c.replies.invariant.so_far c.one_if-count.ensures
      ∙ count_more (asked_so c.args.sort) c.args.replies.now c.replies.k c.index-replies-k.result c.is_of.result c.replies-test.true c.is_of.ensures;
  few = omega (arith, c.replies.invariant.few, c.one_if-count.ensures, at_most_one c.is_of.result);
}
