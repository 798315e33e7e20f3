use Rattle.std.proofs.Common.{◌≡◌, sym, ◌∙◌, subst, List, [], ◌∷◌, ◌++◌, All}
use Rattle.cnf_base.specs.declared.literal.Literal.{Literal}
use Rattle.cnf_base.specs.Known.{IsKnown}
use Rattle.cdcl.specs.Solving.{IsConsistent}
use Rattle.cdcl.specs.SolverValue.{IsAnswer}
use Rattle.unravel.proofs.assuming.put.Goals as goal

pub solve-requires-clause-known : goal.solve-requires-clause-known
solve-requires-clause-known c =
    let e : c.deref.result.now ≡ c.args.states.now.items ++ c.args.literal ∷ [] = c.deref.ensures.value ∙ c.in_ok-push.ensures.items in
    subst (All (IsKnown c.args.inputs.now.solver.letters)) (sym e) c.requires.known

pub solve-requires-clause-consistent : goal.solve-requires-clause-consistent
solve-requires-clause-consistent c =
    let e : c.deref.result.now ≡ c.args.states.now.items ++ c.args.literal ∷ [] = c.deref.ensures.value ∙ c.in_ok-push.ensures.items in
    subst IsConsistent (sym e) c.requires.consistent

pub returns-clause-answer : goal.returns-clause-answer
returns-clause-answer c =
    let e : c.deref.result.now ≡ c.args.states.now.items ++ c.args.literal ∷ [] = c.deref.ensures.value ∙ c.in_ok-push.ensures.items in
    subst (λ (xs : List Literal). IsAnswer c.solve.new.self xs c.in_ok-answer.answer) e c.in_ok-answer.ensures.answer
