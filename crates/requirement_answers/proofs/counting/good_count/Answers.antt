use Rattle.std.proofs.Common.{◌∙◌, ◌+◌, ap, ap₂, arith}
use Rattle.requirement_answers.specs.Counting.{good_so}
use Rattle.requirement_answers.proofs.Counted.{at_most_one, count_more}
use Rattle.requirement_answers.proofs.counting.good_count.Goals as goal

pub replies-preserved : goal.replies-preserved
replies-preserved c =
    let same = c.is_good.ensures ∙ ap (good_so c.args.sort) c.index-replies-k.is in
    record {
      so_far = ap₂ (λ x y. x + y) c.replies.invariant.so_far c.one_if-count.ensures
          ∙ count_more (good_so c.args.sort) c.args.replies.now c.replies.k c.index-replies-k.result c.is_good.result c.replies-test.true same;
      few = omega (arith, c.replies.invariant.few, c.one_if-count.ensures, at_most_one c.is_good.result);
    }
