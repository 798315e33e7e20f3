use Rattle.std.proofs.Common.{arith}
use Rattle.ltl_syntax.specs.Formula.{Unary}
use Rattle.ltl_syntax.specs.declared.node.UnaryOp.TheVariants.{Not}
use Rattle.system_check.specs.System.{system_of}
use Rattle.system_check.proofs.Sizes.{left_no_larger, left_fits}
use Rattle.system_check.proofs.laws.sizes.Goals as goal

pub returns-clause-whole : goal.returns-clause-whole
returns-clause-whole c start step goal = omega arith

pub returns-clause-no_larger : goal.returns-clause-no_larger
returns-clause-no_larger c start step goal = left_no_larger (system_of start step) (Unary Not goal)

pub returns-clause-fits : goal.returns-clause-fits
returns-clause-fits c start step goal kind d fits = left_fits (system_of start step) (Unary Not goal) kind d fits
