use Rattle.std.proofs.Common.{subst, arith}
use Rattle.cdcl_state.specs.StateValue.{StateValue, IsBack, state_of}
use Rattle.cdcl_state.proofs.States.{state_back, back_of}
use Rattle.cdcl_state.proofs.state.State.backjump.Goals as goal

pub invariant_of-self : goal.invariant_of-self
invariant_of-self c =
    let letters = c.self.inside.letters in
    let a = c.self.inside.assigned in
    let b = c.cut.new.self in
    let log = c.self.inside.log in
    let n = c.front-count.result in
    let back = back_of letters a b log c.self.inside.all_lines n c.args.level c.self.invariant.ready.is_trail c.cut.ensures.trail c.front-count.ensures.within
    c.front-count.ensures.low c.front-count.ensures.high in
    state_back b c.min-lasting.result n c.args.level c.loosen.new.units_done c.loosen.new.units_trail c.self.invariant c.cut.ensures.trail
    c.cut.ensures.letters c.front-count.ensures.within back
    (omega (arith, c.min-lasting.ensures)) (omega (arith, c.min-lasting.ensures)) c.loosen.ensures.all

pub returns : goal.returns
returns c =
    let letters = c.self.inside.letters in
    let a = c.self.inside.assigned in
    let b = c.cut.new.self in
    let log = c.self.inside.log in
    let back = back_of letters a b log c.self.inside.all_lines c.front-count.result c.args.level c.self.invariant.ready.is_trail c.cut.ensures.trail
    c.front-count.ensures.within c.front-count.ensures.low c.front-count.ensures.high in
    subst (λ (s : StateValue). IsBack s (state_of letters b.trail log c.self.inside.all_lines) c.args.level) c.self.view_is back
