use Rattle.std.proofs.Common.{arith, ap, ◌∙◌}
use Rattle.cnf_base.specs.Literal.{opposite}
use Rattle.enc_layout.specs.Letters.{Unpruned, Here}
use Rattle.enc_layout.specs.Assigned.{unpruned_question}
use Rattle.unravel.proofs.Asking.{two_known, two_consistent, of_two, refuses_same, refused_again, unpruned_line}
use Rattle.unravel.proofs.closing.pruning.Goals as goal

pub solve-requires-clause-known : goal.solve-requires-clause-known
solve-requires-clause-known c =
    two_known c.of-layout.result c.args.closure.now c.args.depth c.args.solver.now.letters (Here c.args.depth)
    Unpruned c.positive-here.result c.opposite-unpruned.result
    c.of-layout.ensures.layout c.requires.letters (omega arith) tt c.positive-here.ensures (c.opposite-unpruned.ensures ∙ ap opposite c.may_prune.ensures)

pub solve-requires-clause-consistent : goal.solve-requires-clause-consistent
solve-requires-clause-consistent c =
    two_consistent c.of-layout.result c.args.closure.now (Here c.args.depth) Unpruned c.positive-here.result c.opposite-unpruned.result
    c.of-layout.ensures.layout c.positive-here.ensures (c.opposite-unpruned.ensures ∙ ap opposite c.may_prune.ensures)

pub unreachable-requires : goal.unreachable-requires
unreachable-requires c =
    let f = c.args.closure.now.formula in
    let kind = c.args.closure.now.kind in
    let question = unpruned_question f kind c.args.depth in
    let refused = refuses_same c.args.solver.now c.solve.new.self question c.solve.ensures.log.inputs c.requires.refused in
    refused_again f kind c.solve.new.self question refused c.in_ok-solve.field-0 c.in-Sat.is
    (of_two c.of-layout.result c.args.closure.now c.of-layout.ensures.layout c.solve.new.self c.in_ok-solve.field-0 (Here c.args.depth)
    Unpruned c.positive-here.result c.opposite-unpruned.result
    c.positive-here.ensures (c.opposite-unpruned.ensures ∙ ap opposite c.may_prune.ensures) c.in_ok-solve.ensures.answer)

pub returns-clause-line : goal.returns-clause-line
returns-clause-line c =
    unpruned_line c.args.closure.now.formula c.args.closure.now.kind c.solve.new.self c.args.depth c.in_ok-solve.field-0 c.in-Unsat.line c.in-Unsat.is
    (of_two c.of-layout.result c.args.closure.now c.of-layout.ensures.layout c.solve.new.self c.in_ok-solve.field-0 (Here c.args.depth)
    Unpruned c.positive-here.result c.opposite-unpruned.result
    c.positive-here.ensures (c.opposite-unpruned.ensures ∙ ap opposite c.may_prune.ensures) c.in_ok-solve.ensures.answer)
