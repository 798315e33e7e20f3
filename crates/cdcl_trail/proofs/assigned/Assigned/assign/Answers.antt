use Rattle.std.proofs.Common.{◌≡◌, [], ◌∷◌, ◌++◌, not, Some, length, set, subst, arith}
use Rattle.cdcl_trail.specs.Assigned.{ArePlaces}
use Rattle.cdcl_trail.proofs.Assign.{values_push}
use Rattle.cdcl_trail.proofs.Bound.{room_left}
use Rattle.cdcl_trail.proofs.Bridge.{none_from_unset}
use Rattle.cdcl_trail.proofs.Places.{places_push}
use Rattle.cdcl_trail.proofs.assigned.Assigned.assign.Goals as goal

pub invariant_of-self-2 : goal.invariant_of-self-2
invariant_of-self-2 c =
    let unset = rw (← c.self.view_is) at c.requires.unset in
    let known = rw (← c.self.view_is) at c.requires.known in
    let values = c.self.inside.values in
    let trail = c.self.inside.trail in
    let e = c.args.entry in
    let places = c.self.inside.places.items in
    let len : length trail ≡ c.len-place.result = omega arith in
    rw (c.in_ok-push.ensures.items, c.set.ensures) (
      values_push values trail e c.self.invariant.0 unset known,
      subst (λ n. ArePlaces (set places e.literal.letter.0 n) (set values e.literal.letter.0 (Some (not e.literal.negated))) (trail ++ e ∷ [])) len
          (places_push places values trail e (Some (not e.literal.negated)) c.self.invariant.1 unset known),
    )

-- the trail is shorter than there are letters, and so a place has 32 bits
pub overflow_cast-place : goal.overflow_cast-place
overflow_cast-place c =
    let unset = rw (← c.self.view_is) at c.requires.unset in
    let known = rw (← c.self.view_is) at c.requires.known in
    omega (arith, c.len-place.ensures, room_left c.self.inside.values c.self.inside.trail c.args.entry c.self.invariant.0 unset known, c.self.invariant.1.few)

pub set-requires-clause-unset : goal.set-requires-clause-unset
set-requires-clause-unset c =
    (none_from_unset c.self.inside.values c.self.inside.trail c.self.invariant.0 c.args.entry.literal (rw (← c.self.view_is) at c.requires.unset)).is
