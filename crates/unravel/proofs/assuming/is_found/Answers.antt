use Rattle.unravel.proofs.Putting.{asked_through, still_asked}
use Rattle.unravel.proofs.Asking.{under_known, under_consistent, question_yes, question_no}
use Rattle.unravel.proofs.assuming.is_found.Goals as goal

pub put-requires-clause-known : goal.put-requires-clause-known
put-requires-clause-known c =
    under_known c.args.closure.now.formula c.args.closure.now.kind c.args.depth c.args.question c.args.states.now.items c.requires.ready.states.0
    c.own_literal-literal.result c.own_literal-literal.ensures
    c.args.inputs.now.solver.letters c.requires.ready.through.part.letters

pub put-requires-clause-consistent : goal.put-requires-clause-consistent
put-requires-clause-consistent c =
    under_consistent c.args.closure.now.formula c.args.closure.now.kind c.args.depth c.args.question c.args.states.now.items c.requires.ready.states.0
    c.own_literal-literal.result c.own_literal-literal.ensures

pub returns-in-Sat-clause-still : goal.returns-in-Sat-clause-still
returns-in-Sat-clause-still c = still_asked c.requires.ready.through c.put.ensures.asked c.in_ok-put.ensures.states

pub returns-in-Sat-clause-answer : goal.returns-in-Sat-clause-answer
returns-in-Sat-clause-answer c =
    let f = c.args.closure.now.formula in
    let kind = c.args.closure.now.kind in
    let through = asked_through f kind c.args.depth c.args.inputs.now c.put.new.inputs c.requires.ready.through c.put.ensures.asked in
    question_yes f kind c.args.depth c.put.new.inputs through c.args.states.now.items c.requires.ready.states c.own_literal-literal.result c.in_ok-put.field-0
    c.in_ok-put.ensures.answer
    c.args.question c.own_literal-literal.ensures c.in-Sat.is

pub returns-in-Unsat-clause-still : goal.returns-in-Unsat-clause-still
returns-in-Unsat-clause-still c = still_asked c.requires.ready.through c.put.ensures.asked c.in_ok-put.ensures.states

pub returns-in-Unsat-clause-answer : goal.returns-in-Unsat-clause-answer
returns-in-Unsat-clause-answer c =
    let f = c.args.closure.now.formula in
    let kind = c.args.closure.now.kind in
    let through = asked_through f kind c.args.depth c.args.inputs.now c.put.new.inputs c.requires.ready.through c.put.ensures.asked in
    question_no f kind c.args.depth c.put.new.inputs through c.args.states.now.items c.requires.ready.states c.own_literal-literal.result c.in_ok-put.field-0
    c.in_ok-put.ensures.answer
    c.args.question c.own_literal-literal.ensures c.in-Unsat.field-0 c.in-Unsat.is
