use Rattle.std.proofs.Common.{◌∙◌, ◌+◌, ◌<◌, length, sym, ap, ap₂, arith}
use Rattle.requirement_document.specs.Values.{document_in}
use Rattle.requirement_answers.specs.Items.{role_of, is_given}
use Rattle.requirement_answers.proofs.Numbered.{role_at}
use Rattle.requirement_answers.proofs.Counted.{at_most_one, given_more}
use Rattle.requirement_answers.proofs.counting.given_count.Goals as goal

pub items-preserved : goal.items-preserved
items-preserved c =
    let d = c.args.document.now in
    let k = c.items.number in
    let b = c.is_given.result in
    let lt : k < length d.items.items = omega (arith, c.items-test.true, c.len-number-end.ensures) in
    let same = c.is_given.ensures ∙ ap is_given (sym (role_at d k c.index.result.now lt c.index.ensures)) in
    record {
      so_far = ap₂ (λ x y. x + y) c.items.invariant.so_far c.one_if-count.ensures ∙ given_more (λ n. is_given (role_of (document_in d) n)) k b same;
      few = omega (arith, c.items.invariant.few, c.one_if-count.ensures, at_most_one b);
    }
