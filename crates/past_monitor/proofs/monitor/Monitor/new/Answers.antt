use Rattle.std.proofs.Common.{ap, ◌∙◌, ◌-◌, [], subst, sym}
use Rattle.past_monitor.specs.Kept.{AreKept, watched, reach}
use Rattle.past_monitor.specs.Monitor.{formula_at, AreUnder}
use Rattle.past_monitor.specs.Part.{formulas_of}
use Rattle.past_monitor.proofs.Values.{none_last}
use Rattle.past_monitor.proofs.Trees.{length-formulas}
use Rattle.past_monitor.proofs.Parts.{stands_seen, all_there}
use Rattle.past_monitor.proofs.monitor.Monitor.new.Goals as goal

pub returns-clause-formula : goal.returns-clause-formula
returns-clause-formula c =
    let names = c.args.table.now.names in
    let parts = c.in_ok-parts.parts.items in
    ap (λ n. formula_at (formulas_of names parts) (n - 1)) (length-formulas names parts) ∙ c.in_ok-parts.ensures.formula

pub returns-clause-start : goal.returns-clause-start
returns-clause-start c =
    let names = c.args.table.now.names in
    let parts = c.in_ok-parts.parts.items in
    stands_seen names parts [] [] (λ i lt. subst (AreKept [] (formula_at (formulas_of names parts) i)) (sym (c.in_ok-parts.ensures.fresh i lt))
    (none_last (watched (formula_at (formulas_of names parts) i)) (reach (formula_at (formulas_of names parts) i))))

pub returns-clause-all : goal.returns-clause-all
returns-clause-all c = all_there c.args.table.now.names c.in_ok-parts.parts.items c.in_ok-parts.ensures.some c.in_ok-parts.ensures.parts

pub returns-clause-nodes : goal.returns-clause-nodes
returns-clause-nodes c =
    let t = c.args.table.now in
    let parts = c.in_ok-parts.parts.items in
    subst (AreUnder t c.args.root) (sym (length-formulas t.names parts)) c.in_ok-parts.ensures.nodes
