use Rattle.std.proofs.Common.{arith}
use Rattle.enc_layout.specs.Letters.{Here, Accepted}
use Rattle.enc_layout.specs.Assigned.{accepted_question}
use Rattle.unravel.proofs.Asking.{two_known, two_consistent, of_two, refuses_same, refused_again, accepted_line}
use Rattle.unravel.proofs.closing.rejection.Goals as goal

pub solve-requires-clause-known : goal.solve-requires-clause-known
solve-requires-clause-known c =
    two_known c.of-layout.result c.args.closure.now c.args.depth c.args.solver.now.letters (Here c.args.state) (Accepted c.args.state)
    c.positive-here.result c.positive-accepted.result
    c.of-layout.ensures.layout c.requires.letters (omega (arith, c.requires.within)) (omega (arith, c.requires.within))
    c.positive-here.ensures c.positive-accepted.ensures

pub solve-requires-clause-consistent : goal.solve-requires-clause-consistent
solve-requires-clause-consistent c =
    two_consistent c.of-layout.result c.args.closure.now (Here c.args.state) (Accepted c.args.state)
    c.positive-here.result c.positive-accepted.result c.of-layout.ensures.layout c.positive-here.ensures c.positive-accepted.ensures

pub unreachable-requires : goal.unreachable-requires
unreachable-requires c =
    let f = c.args.closure.now.formula in
    let kind = c.args.closure.now.kind in
    let question = accepted_question f kind c.args.state in
    let refused = refuses_same c.args.solver.now c.solve.new.self question c.solve.ensures.log.inputs c.requires.refused in
    refused_again f kind c.solve.new.self question refused c.in_ok-solve.field-0 c.in-Sat.is
    (of_two c.of-layout.result c.args.closure.now c.of-layout.ensures.layout c.solve.new.self c.in_ok-solve.field-0 (Here c.args.state) (Accepted c.args.state)
    c.positive-here.result c.positive-accepted.result
    c.positive-here.ensures c.positive-accepted.ensures c.in_ok-solve.ensures.answer)

pub returns-clause-line : goal.returns-clause-line
returns-clause-line c =
    accepted_line c.args.closure.now.formula c.args.closure.now.kind c.solve.new.self c.args.state c.in_ok-solve.field-0 c.in-Unsat.line c.in-Unsat.is
    (of_two c.of-layout.result c.args.closure.now c.of-layout.ensures.layout c.solve.new.self c.in_ok-solve.field-0 (Here c.args.state) (Accepted c.args.state)
    c.positive-here.result c.positive-accepted.result
    c.positive-here.ensures c.positive-accepted.ensures c.in_ok-solve.ensures.answer)
