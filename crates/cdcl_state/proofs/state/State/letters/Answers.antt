use Rattle.std.proofs.Common.{◌≤◌, length, sym, subst}
use Rattle.cdcl_state.specs.StateValue.{StateValue}
use Rattle.cdcl_state.specs.State.{Parts, IsState, parts}
use Rattle.cdcl_state.proofs.Room.{state_widened, state_lettered}
use Rattle.cdcl_state.proofs.state.State.letters.Goals as goal
use Rattle.cdcl_state.proofs.state.State.letters.Goals.{After-widen}

-- the parts with more room
abbrev wide : After-widen → Parts
wide c = record (parts c.self.inside) { assigned = c.widen.new.assigned; watches = c.widen.new.watches; marked = length c.widen.new.marks.stamps }

widened : (c : After-widen) → IsState (wide c)
widened c = state_widened c.widen.new.assigned c.widen.new.watches (length c.widen.new.marks.stamps) c.self.invariant c.widen.ensures.trail
    c.widen.ensures.clauses c.widen.ensures.names c.widen.ensures.sized c.widen.ensures.more c.widen.ensures.few c.widen.ensures.marks

pub invariant_of-self : goal.invariant_of-self
invariant_of-self c = widened (goal.at.invariant_of-self c).After-widen

pub invariant_of-self-2 : goal.invariant_of-self-2
invariant_of-self-2 c =
    state_lettered c.args.count (widened (goal.at.invariant_of-self-2 c).After-widen)
    (subst (λ (s : StateValue). s.letters ≤ c.args.count) (sym c.self.view_is) c.requires) c.in_ok-widen.ensures.ok
