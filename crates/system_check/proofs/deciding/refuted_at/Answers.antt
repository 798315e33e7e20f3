use Rattle.std.proofs.Common.{subst}
use Rattle.ltl_syntax.specs.declared.node.Kind.TheVariants as Kinds
use Rattle.ltl_syntax.specs.Table.{tree_at}
use Rattle.unravel.specs.Decision.{IsDecision}
use Rattle.system_check.proofs.AnswerLaws.{system_fits, sat_not_refuted, undecided_not_refuted}
use Rattle.system_check.proofs.deciding.refuted_at.Goals as goal

pub decided-requires-clause-fits : goal.decided-requires-clause-fits
decided-requires-clause-fits c = let w = c.requires.joined in system_fits w.0 w.1 w.2 c.args.limit c.args.joined.now w.3 c.args.limit c.requires.fits

pub returns-in-Sat : goal.returns-in-Sat
returns-in-Sat c =
    let f = tree_at c.args.joined.now.table c.args.joined.now.system in
    sat_not_refuted f c.args.limit c.in-Sat.depth (subst (IsDecision f Kinds.Infinite c.args.limit) c.in-Sat.is c.in_ok-depth.ensures).0

pub returns : goal.returns
returns c =
    let f = tree_at c.args.joined.now.table c.args.joined.now.system in
    undecided_not_refuted f c.args.limit c.in-Undecided.depth (subst (IsDecision f Kinds.Infinite c.args.limit) c.in-Undecided.is c.in_ok-depth.ensures)
