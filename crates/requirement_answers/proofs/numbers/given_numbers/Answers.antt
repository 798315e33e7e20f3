use Rattle.std.proofs.Common.{◌∙◌, ◌<◌, ◌++◌, length, sym, ap, ap₂, arith}
use Rattle.requirement_document.specs.Values.{document_in}
use Rattle.requirement_answers.specs.Items.{role_of, is_given}
use Rattle.requirement_answers.specs.Inner.{alone_if}
use Rattle.requirement_answers.proofs.Numbered.{filter_more, role_at}
use Rattle.requirement_answers.proofs.numbers.given_numbers.Goals as goal

pub items-preserved : goal.items-preserved
items-preserved c =
    let d = c.args.document.now in
    let k = c.items.number in
    let lt : k < length d.items.items = omega (arith, c.items-test.true, c.len-number-end.ensures) in
    let same = c.is_given-passes.ensures ∙ ap is_given (sym (role_at d k c.index.result.now lt c.index.ensures)) in
    record {
      so_far = c.in_ok-add_if.ensures
          ∙ (ap₂ (λ xs b. xs ++ alone_if b k) c.items.invariant.so_far same ∙ sym (filter_more (λ n. is_given (role_of (document_in d) n)) k));
    }
