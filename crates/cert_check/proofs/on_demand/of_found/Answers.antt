use Rattle.std.proofs.Common.{arith}
use Rattle.log_checker.proofs.Named.{place_more, place_neither, place_all}
use Rattle.cert_check.proofs.on_demand.of_found.Goals as goal

pub returns-in-Neither : goal.returns-in-Neither
returns-in-Neither c =
    place_neither _ _ _ _ (place_more _ _ c.places.place c.literal.result _ _ (omega (arith, c.places-test.true, c.len-place-end.ensures))
    c.literal.ensures c.places.invariant c.with_literal-outcome.ensures) c.in-Neither.is

pub places-preserved : goal.places-preserved
places-preserved c =
    place_more _ _ c.places.place c.literal.result _ _ (omega (arith, c.places-test.true, c.len-place-end.ensures))
    c.literal.ensures c.places.invariant c.with_literal-outcome.ensures

pub returns : goal.returns
returns c = place_all _ _ c.places.place _ (omega (arith, c.places-test.false, c.len-place-end.ensures)) c.places.invariant
