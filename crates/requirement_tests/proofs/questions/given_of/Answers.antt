use Rattle.std.proofs.Common.{arith}
use Rattle.requirement_tests.proofs.There.{one_more}
use Rattle.requirement_tests.proofs.questions.given_of.Goals as goal

pub tables-preserved : goal.tables-preserved
tables-preserved c = record {
  there = one_more c.tables.given.items c.push.new.self.items _ c.in_ok-push.ensures.items (omega (arith, c.if-root-len.false, c.len.ensures.count))
      c.tables.invariant.there;
}
