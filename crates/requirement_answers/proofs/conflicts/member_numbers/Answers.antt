use Rattle.requirement_answers.proofs.Numbered.{mapped_more}
use Rattle.requirement_answers.proofs.conflicts.member_numbers.Goals as goal

pub members-preserved : goal.members-preserved
members-preserved c = record {
  so_far = mapped_more (λ m. m.given)
      c.args.members.now c.members.k _ c.members.numbers.items c.push.new.self.items c.members-test.true c.in_ok-push.ensures.items c.members.invariant.so_far;
}
