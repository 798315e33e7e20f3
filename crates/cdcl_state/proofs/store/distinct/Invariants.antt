use Rattle.std.proofs.Common.{take, All, Contains}
use Rattle.cdcl_watches.specs.Watching.{AreApart}
use Rattle.cdcl_state.proofs.store.distinct.Given as goal

abbrev pub invariant-loop-literal : goal.invariant-loop-literal
invariant-loop-literal l = record {
  apart : AreApart l.out.items;
  there : All (Contains l.out.items) (take l.literal-index l.clause);
  back : All (Contains l.clause) l.out.items;
}
