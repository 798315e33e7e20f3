use Rattle.std.proofs.Common.{refl, arith}
use Rattle.ltl_syntax.specs.Under.{Here}
use Rattle.evaluation_tests.proofs.evaluation.at_root.Goals as goal

pub at-requires : goal.at-requires
at-requires c = omega (arith, (c.requires.values c.args.root (Here c.args.root refl)).count, c.requires.within)
