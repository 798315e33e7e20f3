use Rattle.std.proofs.Common.{◌∙◌, ◌++◌, sym, ap₂}
use Rattle.requirement_answers.specs.Asking.{covers_behaviour}
use Rattle.requirement_answers.specs.Inner.{alone_if}
use Rattle.requirement_answers.proofs.Numbered.{filter_more}
use Rattle.requirement_answers.proofs.checking.behaviours.Goals as goal

pub behaviours-preserved : goal.behaviours-preserved
behaviours-preserved c =
    let k = c.behaviours.number in
    record {
      so_far = c.in_ok-add_if.ensures ∙ (ap₂ (λ xs b. xs ++ alone_if b k) c.behaviours.invariant.so_far c.covers_behaviour-covered.ensures
          ∙ sym (filter_more (covers_behaviour c.args.scope) k));
    }
