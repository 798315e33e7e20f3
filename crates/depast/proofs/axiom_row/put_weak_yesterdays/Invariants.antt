use Rattle.std.proofs.Common.{List, ◌∷◌}
use Rattle.ltl_syntax.specs.Formula.{Formula}
use Rattle.depast.specs.Depast.{back_axioms, conjoined, weak_yesterday_axiom}
use Rattle.depast.specs.Symbols.{Letters, Reads, Writes}
use Rattle.depast.proofs.axiom_row.put_weak_yesterdays.Given as goal

abbrev pub invariant-loop-step : goal.invariant-loop-step
invariant-loop-step l =
    (m : Letters) (c f : Formula) (r s : List Formula) → Writes m l.operand c → Reads m l.fn.axioms.items r (f ∷ s)
    → Reads m l.axioms.items r (conjoined f (back_axioms weak_yesterday_axiom m.new l.first c l.step) ∷ s)
