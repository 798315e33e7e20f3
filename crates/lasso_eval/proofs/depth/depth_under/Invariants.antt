use Rattle.std.proofs.Common.{◌≡◌, length}
use Rattle.lasso_eval.specs.Extent.{AreDepths}
use Rattle.lasso_eval.proofs.depth.depth_under.Given as goal

abbrev pub invariant-loop-number : goal.invariant-loop-number
invariant-loop-number l = record {
  count : length l.depths.items ≡ l.number;
  known : AreDepths l.table l.depths.items;
}
