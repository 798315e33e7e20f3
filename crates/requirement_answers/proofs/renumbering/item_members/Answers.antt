use Rattle.requirement_answers.specs.Inner.{renumbered}
use Rattle.requirement_answers.proofs.Numbered.{mapped_more}
use Rattle.requirement_answers.proofs.renumbering.item_members.Goals as goal

pub members-preserved : goal.members-preserved
members-preserved c = record {
  so_far = mapped_more (renumbered c.args.numbers.now)
      c.args.members.now c.members.k _ c.members.found.items c.push.new.self.items c.members-test.true c.in_ok-push.ensures.items c.members.invariant.so_far;
}
