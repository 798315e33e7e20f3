use Rattle.std.proofs.Common.{◌≡◌, ap, sym, ◌∙◌, subst, All, [], ◌∷◌, ◌++◌}
use Rattle.cnf_base.specs.Known.{IsKnown}
use Rattle.cnf_base.specs.Step.{clause_at}
use Rattle.cdcl.specs.SolverValue.{SolverValue}
use Rattle.unravel.specs.Putting.{list_of}
use Rattle.unravel.proofs.Putting.{known_at, added_more, added_there}
use Rattle.unravel.proofs.inputs.Inputs.add.Goals as goal

pub add-requires : goal.add-requires
add-requires c =
    let x = c.args.listed.now in
    let is : c.deref.result.now ≡ clause_at (list_of x) c.args.number = c.deref.ensures.value ∙ (c.in_ok-spell.ensures ∙ c.clause-found.ensures) in
    subst (All (IsKnown c.args.self.now.solver.letters)) (sym is)
    (known_at x c.args.number c.requires.number c.args.self.now.solver.letters c.requires.part.letters)

pub returns-clause-more : goal.returns-clause-more
returns-clause-more c =
    let x = c.args.listed.now in
    let before = c.args.self.now.solver.log.inputs in
    let is : c.deref.result.now ≡ clause_at (list_of x) c.args.number = c.deref.ensures.value ∙ (c.in_ok-spell.ensures ∙ c.clause-found.ensures) in
    let now = c.in_ok-add.ensures.added.0 in
    added_more x c.args.number c.requires.number c.args.self.now _ c.requires.part (ap (λ (s : SolverValue). s.log.inputs) now ∙ ap (λ l. before ++ l ∷ []) is)
    c.in_ok-push.ensures.items
    (ap (λ (s : SolverValue). s.letters) now)

pub returns-clause-there : goal.returns-clause-there
returns-clause-there c =
    let x = c.args.listed.now in
    let before = c.args.self.now.solver.log.inputs in
    let is : c.deref.result.now ≡ clause_at (list_of x) c.args.number = c.deref.ensures.value ∙ (c.in_ok-spell.ensures ∙ c.clause-found.ensures) in
    let now = c.in_ok-add.ensures.added.0 in
    added_there before _ (clause_at (list_of x) c.args.number) (ap (λ (s : SolverValue). s.log.inputs) now ∙ ap (λ l. before ++ l ∷ []) is)
