use Rattle.std.proofs.Common.{replicate, length, ap, ◌∙◌, subst, arith}
use Rattle.std.proofs.lemmas.List.{length-set}
use Rattle.log_checker.specs.Values.{AreSet}
use Rattle.log_checker.specs.declared.assignment.Truth.TheVariants.{Unset}
use Rattle.log_checker.proofs.Setting.{set_undone, cleared}
use Rattle.log_checker.proofs.assignment.Assignment.clear.Goals as goal

pub undo-preserved : goal.undo-preserved
undo-preserved c =
    rw c.index.ensures ((set_undone _ _ _ _ c.undo.invariant.0 c.undo-test.true).1, length-set c.undo.self-inside.values.items _ Unset ∙ c.undo.invariant.1)

pub returns : goal.returns
returns c =
    let none = subst (AreSet c.undo.self-inside.values.items c.undo.self-inside.trail.items) (omega (arith, c.undo-test.false)) c.undo.invariant.0 in
    cleared c.undo.self-inside.values.items c.undo.self-inside.trail.items none ∙ ap (λ n. replicate n Unset) (c.undo.invariant.1 ∙ ap length c.self.view_is)
