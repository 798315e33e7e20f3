use Rattle.std.proofs.Common.{◌-◌, arith, length}
use Rattle.std.proofs.lemmas.Bool.{ltb-true}
use Rattle.unravel.proofs.Listing.{near_place, far_place}
use Rattle.unravel.proofs.listed.is_place.Goals as goal

pub returns-then-place-nexts : goal.returns-then-place-nexts
returns-then-place-nexts c =
    λ h. near_place c.args.closure.now.formula c.args.place c.nexts-nexts.result.now c.nexts-nexts.ensures.numbers c.if-place-nexts.true

pub returns : goal.returns
returns c = λ h.
    far_place c.args.closure.now.formula c.args.place c.nexts-nexts.result.now c.nexts-nexts.ensures.numbers c.yesterdays.result.now
    c.yesterdays.ensures.numbers (omega (arith, c.if-place-nexts.false))
    (ltb-true (c.args.place - length c.nexts-nexts.result.now) (length c.yesterdays.result.now) h)
