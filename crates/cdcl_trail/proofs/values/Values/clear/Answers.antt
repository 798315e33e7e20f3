use Rattle.std.proofs.Common.{◌∙◌, false, None, set, ap, arith}
use Rattle.cdcl_trail.specs.Values.{values_of}
use Rattle.cdcl_trail.proofs.Told.{place_known, values_set, truths_set, other_of_true}
use Rattle.cdcl_trail.proofs.values.Values.clear.Goals as goal

pub index_mut-requires : goal.index_mut-requires
index_mut-requires c =
    let known = rw (← c.self.view_is) at c.requires.known in
    omega (arith, c.place.ensures, place_known c.self.inside.truths.items c.self.invariant c.args.literal known)

pub invariant_of-self : goal.invariant_of-self
invariant_of-self c =
    let truths = c.self.inside.truths.items in
    let l = c.args.literal in
    let known = rw (← c.self.view_is) at c.requires.known in
    let other = other_of_true truths c.self.invariant l known (rw (← c.self.view_is) at c.requires.holds) in
    rw c.place.ensures (truths_set truths c.self.invariant l known false other)

pub returns : goal.returns
returns c =
    let truths = c.self.inside.truths.items in
    let l = c.args.literal in
    let known = rw (← c.self.view_is) at c.requires.known in
    let other = other_of_true truths c.self.invariant l known (rw (← c.self.view_is) at c.requires.holds) in
    ap (λ k. values_of (set truths k false)) c.place.ensures ∙ values_set truths c.self.invariant l known false other
    ∙ ap (λ vs. set vs l.letter.0 None) c.self.view_is
