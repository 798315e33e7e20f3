use Rattle.std.proofs.Common.{refl, subst}
use Rattle.unravel.specs.Depths.{Tells}
use Rattle.unravel.proofs.Putting.{kept_trans, asked_through}
use Rattle.unravel.proofs.Verdicts.{still_rejected, all_refused, still_open_more}
use Rattle.unravel.proofs.deciding.look.Goals as goal

pub close-requires-clause-refused : goal.close-requires-clause-refused
close-requires-clause-refused c =
    let f = c.args.closure.now.formula in
    let kind = c.args.closure.now.kind in
    let k = c.args.depth in
    let before = c.args.inputs.now.solver in
    let asked = c.ask.new.inputs.solver in
    let tells = subst (Tells f kind k asked) c.in-Pruned.is c.in_ok-rule.ensures.tells in
    let kept = kept_trans before.log.inputs c.grow.new.inputs.solver.log.inputs asked.log.inputs c.in_ok-grow.ensures.kept c.in_ok-rule.ensures.kept in
    all_refused f kind k asked (still_rejected f kind k before asked kept c.requires.still.rejected) tells.0.1 tells.1.1

pub returns-in_ok-targets-in-Pruned : goal.returns-in_ok-targets-in-Pruned
returns-in_ok-targets-in-Pruned c =
    let f = c.args.closure.now.formula in
    let kind = c.args.closure.now.kind in
    let k = c.args.depth in
    let asked = c.ask.new.inputs in
    let tells = subst (Tells f kind k asked.solver) c.in-Pruned.is c.in_ok-rule.ensures.tells in
    let through = asked_through f kind k asked _ c.in_ok-rule.ensures.through
    (record { letters = c.in_ok-targets-in-Pruned.ensures.letters; inputs = c.in_ok-targets-in-Pruned.ensures.inputs; names = refl }) in
    (tells.0.0, tells.1.0, record { through = through; closed = c.in_ok-targets-in-Pruned.ensures.targets })

pub returns-in-Open : goal.returns-in-Open
returns-in-Open c =
    let f = c.args.closure.now.formula in
    let kind = c.args.closure.now.kind in
    let k = c.args.depth in
    let before = c.args.inputs.now in
    let asked = c.ask.new.inputs in
    let tells = subst (Tells f kind k asked.solver) c.in-Open.is c.in_ok-rule.ensures.tells in
    let kept =
    kept_trans before.solver.log.inputs c.grow.new.inputs.solver.log.inputs asked.solver.log.inputs c.in_ok-grow.ensures.kept c.in_ok-rule.ensures.kept in
    still_open_more f kind k before asked c.args.states.now.items c.ask.new.states.items c.requires.still kept c.in_ok-rule.ensures.through tells.0 tells.1
    c.in_ok-rule.ensures.states
