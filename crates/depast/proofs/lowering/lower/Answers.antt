use Rattle.std.proofs.Common.{sym, subst}
use Rattle.ltl_word.specs.declared.trace.Trace.TheVariants.{Infinite, Finite}
use Rattle.depast.specs.Lifting.{IsLowered}
use Rattle.depast.specs.States.{AreLowered}
use Rattle.depast.proofs.Others.{finite_lowered, infinite_lowered}
use Rattle.depast.proofs.lowering.lower.Goals as goal

pub returns-in-Infinite : goal.returns-in-Infinite
returns-in-Infinite c f is =
    subst (λ u. IsLowered f u (Infinite c.in_ok-stem-in-Infinite.stem c.in_ok-loop_part-in-Infinite.loop_part)) (sym c.in-Infinite.is)
    (infinite_lowered f c.in_ok-new.new c.args.removed.now.names is.names_are c.in_ok-new.ensures c.in-Infinite.stem c.in-Infinite.loop_part
    c.in_ok-stem-in-Infinite.stem c.in_ok-loop_part-in-Infinite.loop_part
    (subst (λ xs. AreLowered c.in_ok-new.new xs c.in_ok-stem-in-Infinite.stem) c.as_slice.ensures c.in_ok-stem-in-Infinite.ensures)
    (subst (λ xs. AreLowered c.in_ok-new.new xs c.in_ok-loop_part-in-Infinite.loop_part) c.as_slice-in-Infinite.ensures c.in_ok-loop_part-in-Infinite.ensures))

pub returns : goal.returns
returns c f is =
    subst (λ u. IsLowered f u (Finite c.in_ok-states-in-Finite.states)) (sym c.in-Finite.is)
    (finite_lowered f c.in_ok-new.new c.args.removed.now.names is.names_are c.in_ok-new.ensures c.in-Finite.states c.in_ok-states-in-Finite.states
    (subst (λ xs. AreLowered c.in_ok-new.new xs c.in_ok-states-in-Finite.states) c.as_slice-in-Finite.ensures c.in_ok-states-in-Finite.ensures))
