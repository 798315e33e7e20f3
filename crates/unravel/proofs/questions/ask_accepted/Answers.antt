use Rattle.std.proofs.Common.{◌+◌, sym, subst}
use Rattle.unravel.specs.Depths.{AreStatesBelow}
use Rattle.unravel.proofs.Earlier.{still_below}
use Rattle.unravel.proofs.questions.ask_accepted.Goals as goal

pub accepting_rule-requires-clause-ready : goal.accepting_rule-requires-clause-ready
accepting_rule-requires-clause-ready c = record { through = c.requires.through; states = c.in_ok-assume.ensures }

pub returns-clause-states : goal.returns-clause-states
returns-clause-states c =
    let f = c.args.closure.now.formula in
    let kind = c.args.closure.now.kind in
    let n = c.args.depth + 1 in
    let below = subst (AreStatesBelow f kind n) (sym c.in_ok-close.ensures.still.states) c.in_ok-assume.ensures.0 in
    still_below f kind n c.accepting_rule.new.states.items c.begin_anew.new.states.items below c.begin_anew.ensures
