use Rattle.std.proofs.Common.{◌∙◌, true, not, Some, set, ap, arith}
use Rattle.cdcl_trail.specs.Values.{values_of}
use Rattle.cdcl_trail.proofs.Told.{place_known, values_set, truths_set, other_of_unset}
use Rattle.cdcl_trail.proofs.values.Values.set.Goals as goal

pub index_mut-requires : goal.index_mut-requires
index_mut-requires c =
    let known = rw (← c.self.view_is) at c.requires.known in
    omega (arith, c.place.ensures, place_known c.self.inside.truths.items c.self.invariant c.args.literal known)

pub invariant_of-self : goal.invariant_of-self
invariant_of-self c =
    let truths = c.self.inside.truths.items in
    let l = c.args.literal in
    let known = rw (← c.self.view_is) at c.requires.known in
    let other = other_of_unset truths c.self.invariant l known (rw (← c.self.view_is) at c.requires.unset) in
    rw c.place.ensures (truths_set truths c.self.invariant l known true other)

pub returns : goal.returns
returns c =
    let truths = c.self.inside.truths.items in
    let l = c.args.literal in
    let known = rw (← c.self.view_is) at c.requires.known in
    let other = other_of_unset truths c.self.invariant l known (rw (← c.self.view_is) at c.requires.unset) in
    ap (λ k. values_of (set truths k true)) c.place.ensures ∙ values_set truths c.self.invariant l known true other
    ∙ ap (λ vs. set vs l.letter.0 (Some (not l.negated))) c.self.view_is
