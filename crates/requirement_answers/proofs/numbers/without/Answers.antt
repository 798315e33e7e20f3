use Rattle.std.proofs.Common.{◌∙◌, ◌++◌, not, get_or, sym, ap, ap₂}
use Rattle.requirement_answers.specs.Inner.{alone_if}
use Rattle.requirement_answers.proofs.Numbered.{without_more}
use Rattle.requirement_answers.proofs.numbers.without.Goals as goal

pub numbers-preserved : goal.numbers-preserved
numbers-preserved c =
    let xs = c.args.numbers.now in
    let k = c.numbers.k in
    let n = get_or xs k 0 in
    record {
      so_far = c.in_ok-add_if.ensures ∙ (ap₂ (λ ys b. ys ++ alone_if b n) c.numbers.invariant.so_far (ap not c.is_among-stays.ensures)
          ∙ sym (without_more c.args.away.now xs k 0 c.numbers-test.true));
    }
