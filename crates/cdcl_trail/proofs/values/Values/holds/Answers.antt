use Rattle.std.proofs.Common.{◌≡◌, ◌↔◌, ◌∙◌, true, false, not, Some, Option, Bool, List, get_or, sym, ap, subst, arith}
use Rattle.std.proofs.lemmas.List.{get_or_default}
use Rattle.cdcl_trail.specs.Values.{truth_place, value_at, values_of}
use Rattle.cdcl_trail.proofs.Told.{place_known, holds_is}
use Rattle.cdcl_trail.proofs.values.Values.holds.Goals as goal

pub index-requires : goal.index-requires
index-requires c =
    let known = rw (← c.self.view_is) at c.requires in
    omega (arith, c.place.ensures, place_known c.self.inside.truths.items c.self.invariant c.args.literal known)

pub returns : goal.returns
returns c =
    let truths = c.self.inside.truths.items in
    let l = c.args.literal in
    let known = rw (← c.self.view_is) at c.requires in
    let at : c.index.result.now ≡ get_or truths (truth_place l) false =
    c.index.ensures ∙ get_or_default truths c.place.result c.index.result.now false
    (omega (arith, c.place.ensures, place_known truths c.self.invariant l known)) ∙ ap (λ k. get_or truths k false) c.place.ensures in
    subst (λ (vs : List (Option Bool)). (c.index.result.now ≡ true) ↔ (value_at vs l.letter.0 ≡ Some (not l.negated))) c.self.view_is
    (subst (λ b. (b ≡ true) ↔ (value_at (values_of truths) l.letter.0 ≡ Some (not l.negated))) (sym at) (holds_is truths c.self.invariant l known))
