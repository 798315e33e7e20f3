use Rattle.std.proofs.Common.{◌+◌, ◌∙◌, sym, ap, arith, [], ◌∷◌, ◌++◌}
use Rattle.ltl_closure.proofs.Grouping.{numbers_without, numbers_with}
use Rattle.ltl_closure.proofs.group.Group.numbers.Goals as goal

pub loop-i-preserved-then-not-has : goal.loop-i-preserved-then-not-has
loop-i-preserved-then-not-has c =
    c.loop-i.invariant ∙ numbers_without c.args.self c.args.entries.now c.loop-i.i _ (omega arith) (sym c.has.ensures ∙ c.if-not-has.true)

pub loop-i-preserved : goal.loop-i-preserved
loop-i-preserved c =
    c.in_ok-push.ensures.items ∙ ap (λ l. l ++ (c.loop-i.i + 1) ∷ []) c.loop-i.invariant
    ∙ numbers_with c.args.self c.args.entries.now c.loop-i.i _ (omega arith) (sym c.has.ensures ∙ c.if-not-has.false)
