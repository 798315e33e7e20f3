use Rattle.std.proofs.Common.{◌∙◌, ◌+◌, ◌-◌, ◌*◌, ◌/◌, ◌++◌, replicate, refl, ap}
use Rattle.black_top.proofs.Joining.{ring_text}
use Rattle.black_top.proofs.ring.demo_text.Goals as goal

pub returns : goal.returns
returns c =
    let n = c.args.number in
    let count = 2 * n + n * (n - 1) / 2 in
    ring_text n count c.push_opening.new.text.items c.push_place.new.text.items c.push_moves.new.text.items c.push_returns.new.text.items
    c.push_all_apart.new.text.items c.requires.low refl
    (c.in_ok-push_opening.ensures ∙ ap (λ t. t ++ replicate count 40) c.new-text.ensures.items)
    c.in_ok-push_place.ensures c.in_ok-push_moves.ensures c.in_ok-push_returns.ensures c.in_ok-push_all_apart.ensures
