use Rattle.std.proofs.Common.{refl, ap}
use Rattle.cdcl.specs.SolverValue.{SolverValue}
use Rattle.cdcl.proofs.Assignments.{sat_exact, sat_answer, unsat_exact, unsat_answer}
use Rattle.cdcl.proofs.solver.Solver.solve.Goals as goal

pub returns-in-Sat-clause-sat : goal.returns-in-Sat-clause-sat
returns-in-Sat-clause-sat c =
    let letters = ap (λ (v : SolverValue). v.letters) c.self.view_is in
    let inputs = ap (λ (v : SolverValue). v.log.inputs) c.self.view_is in
    sat_exact c.args.self.now c.self.inside.state c.solve.new.state c.args.assumptions.now letters inputs c.in_ok-answer.ensures.kept
    c.in_ok-model-in-Sat.model.items c.in_ok-answer.answer c.in-Sat.is
    c.in_ok-model-in-Sat.ensures c.invariant.ensures.apart c.invariant.ensures.known_inputs c.requires.known c.in_ok-answer.ensures.answer

pub returns-in-Sat-clause-answer : goal.returns-in-Sat-clause-answer
returns-in-Sat-clause-answer c =
    let letters = ap (λ (v : SolverValue). v.letters) c.self.view_is in
    let inputs = ap (λ (v : SolverValue). v.log.inputs) c.self.view_is in
    let now : SolverValue = record { letters = c.solve.new.state.letters; log = c.solve.new.state.log; model = c.in_ok-model-in-Sat.model.items } in
    sat_answer c.args.self.now c.self.inside.state c.solve.new.state c.args.assumptions.now letters inputs c.in_ok-answer.ensures.kept now c.in_ok-answer.answer
    c.in-Sat.is refl refl
    c.in_ok-model-in-Sat.ensures c.invariant.ensures.apart c.invariant.ensures.known_inputs c.requires.known c.in_ok-answer.ensures.answer

pub returns-in-Unsat-clause-sat : goal.returns-in-Unsat-clause-sat
returns-in-Unsat-clause-sat c =
    let letters = ap (λ (v : SolverValue). v.letters) c.self.view_is in
    let inputs = ap (λ (v : SolverValue). v.log.inputs) c.self.view_is in
    unsat_exact c.args.self.now c.self.inside.state c.solve.new.state c.args.assumptions.now letters inputs c.in_ok-answer.ensures.kept c.in_ok-answer.answer
    c.in-Unsat.field-0 c.in-Unsat.is c.invariant.ensures.steps c.in_ok-answer.ensures.answer

pub returns-in-Unsat-clause-answer : goal.returns-in-Unsat-clause-answer
returns-in-Unsat-clause-answer c =
    let letters = ap (λ (v : SolverValue). v.letters) c.self.view_is in
    let inputs = ap (λ (v : SolverValue). v.log.inputs) c.self.view_is in
    let now : SolverValue = record { letters = c.solve.new.state.letters; log = c.solve.new.state.log; model = c.truncate.new.self.items } in
    unsat_answer c.args.self.now c.self.inside.state c.solve.new.state c.args.assumptions.now letters inputs c.in_ok-answer.ensures.kept now
    c.in_ok-answer.answer c.in-Unsat.field-0 c.in-Unsat.is refl c.invariant.ensures.steps c.in_ok-answer.ensures.answer
