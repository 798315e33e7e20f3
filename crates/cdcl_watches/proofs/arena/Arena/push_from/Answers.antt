use Rattle.std.proofs.Common.{◌≡◌, ◌+◌, ◌<◌, ◌^◌, [], ◌∷◌, ◌++◌, length, get_or, slice_range, ap, ap₂, ◌∙◌, arith}
use Rattle.cdcl_watches.specs.Watching.{clause_of}
use Rattle.cdcl_watches.specs.Heads.{ArenaValue, heads_of, number_of}
use Rattle.cdcl_watches.proofs.Copied.{copied_heads, copied_value}
use Rattle.cdcl_watches.proofs.Noted.{noted_pushed}
use Rattle.cdcl_watches.proofs.arena.Arena.push_from.Goals as goal

pub invariant_of-self-2 : goal.invariant_of-self-2
invariant_of-self-2 c =
    let items = c.self.inside.items.items in
    let others = c.other.inside.items.items in
    let new_is = c.in_ok-extend_from_slice.ensures.items ∙ ap (λ xs. items ++ slice_range xs c.args.head (c.args.head + 2 + c.index.result.now))
    c.deref.ensures.value in
    let new = c.extend_from_slice.new.self.items in
    let place : c.len-place.result ≡ length items = omega arith in
    let short : length items + 2 + c.index.result.now < 2 ^ 32 = omega (arith, c.if-place-to-gt-MAX_ITEMS.false, place) in
    let there = rw (← c.other.view_is) at c.requires in
    let heads = ap (λ (v : ArenaValue). v.heads) (copied_value items others c.self.invariant.0 c.other.invariant.0 c.args.head there c.index.result.now
    c.index.ensures new new_is short c.len-place.result place) in (
      copied_heads items others c.self.invariant.0 c.other.invariant.0 c.args.head there c.index.result.now c.index.ensures new new_is short,
      noted_pushed (heads_of items) (heads_of new) c.self.inside.reasons.items c.len-place.result heads c.self.invariant.1,
    )

pub returns-clause-pushed : goal.returns-clause-pushed
returns-clause-pushed c =
    let items = c.self.inside.items.items in
    let others = c.other.inside.items.items in
    let new_is = c.in_ok-extend_from_slice.ensures.items ∙ ap (λ xs. items ++ slice_range xs c.args.head (c.args.head + 2 + c.index.result.now))
    c.deref.ensures.value in
    let place : c.len-place.result ≡ length items = omega arith in
    copied_value items others c.self.invariant.0 c.other.invariant.0 c.args.head (rw (← c.other.view_is) at c.requires) c.index.result.now c.index.ensures
    c.extend_from_slice.new.self.items new_is (omega (arith, c.if-place-to-gt-MAX_ITEMS.false, place)) c.len-place.result place
    ∙ ap₂ (λ (v w : ArenaValue). let u : ArenaValue = record {
      clauses = v.clauses ++ clause_of w.clauses (number_of w.heads c.args.head) ∷ [];
      heads = v.heads ++ c.len-place.result ∷ [];
      names = v.names ++ get_or w.names (number_of w.heads c.args.head) 0 ∷ [];
    } in u) c.self.view_is c.other.view_is
