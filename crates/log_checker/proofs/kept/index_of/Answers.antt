use Rattle.std.proofs.Common.{◌<◌, length, sym, ap, ◌∙◌, arith}
use Rattle.log_checker.specs.declared.kept.Entry.{Entry}
use Rattle.log_checker.proofs.Entries.{others_there, read_at}
use Rattle.log_checker.proofs.kept.index_of.Goals as goal

pub returns-then-index-number : goal.returns-then-index-number
returns-then-index-number c =
    let below : c.place_of-place.result < length c.args.entries.now.items =
    omega (arith, c.place_of-place.ensures.within, c.if-place-len.false, c.len.ensures) in
    let e = read_at _ _ _ below c.index.ensures in
    others_there _ c.args.number c.place_of-place.result c.requires below c.place_of-place.ensures.less c.place_of-place.ensures.more
    (λ at. absurd (c.if-index-number.true (ap (λ (x : Entry). x.number) e ∙ at)))

pub returns-then-not-index : goal.returns-then-not-index
returns-then-not-index c =
    let below : c.place_of-place.result < length c.args.entries.now.items =
    omega (arith, c.place_of-place.ensures.within, c.if-place-len.false, c.len.ensures) in
    let e = read_at _ _ _ below c.index-2.ensures in
    others_there _ c.args.number c.place_of-place.result c.requires below c.place_of-place.ensures.less c.place_of-place.ensures.more
    (λ at. ap (λ (x : Entry). x.live) (sym e) ∙ c.if-not-index.true)
