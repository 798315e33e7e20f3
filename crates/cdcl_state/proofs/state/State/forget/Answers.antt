use Rattle.std.proofs.Common.{◌∙◌, refl, false}
use Rattle.cdcl_state.specs.State.{parts}
use Rattle.cdcl_state.proofs.Gathering.{state_gathered}
use Rattle.cdcl_state.proofs.Copying.{all_long, gathered_copied}
use Rattle.cdcl_state.proofs.state.State.forget.Goals as goal

pub gather-requires : goal.gather-requires
gather-requires c = all_long c.self.inside.log c.self.inside.watches c.self.invariant.ready.stored c.self.invariant.long

pub invariant_of-self : goal.invariant_of-self
invariant_of-self c =
    let s = parts c.self.inside in
    let v = c.in_ok-watches.watches in
    state_gathered v s.marked false c.self.invariant
    (gathered_copied s.log s.watches v c.self.invariant.ready.stored c.self.invariant.long c.in_ok-watches.ensures.copied)
    (c.in_ok-watches.ensures.lists ∙ c.self.invariant.ready.sized) refl
