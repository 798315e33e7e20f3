use Rattle.std.proofs.Common.{◌≡◌, suc, ◌-◌, ◌++◌, Bool, List, length}
use Rattle.ltl_syntax.specs.Formula.{Formula}
use Rattle.depast.specs.declared.symbol.Symbol.{Symbol}
use Rattle.depast.specs.Depast.{step_back, joined_back}
use Rattle.depast.specs.Symbols.{Letters, Writes}
use Rattle.depast.proofs.residue_row.put_range.Given as goal

abbrev pub invariant-loop-step : goal.invariant-loop-step
invariant-loop-step l =
    (m : Letters) (c : Formula) (none : Bool) (front back : List Symbol) → l.fn.row.items ≡ front ++ back → l.start ≡ length front → Writes m back c
    → (new : List Symbol) × (l.row.items ≡ front ++ new) × Writes m new (joined_back l.op none (step_back m.new l.name c) l.first (suc l.step - l.first))
