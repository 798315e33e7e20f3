use Rattle.std.proofs.Common.{◌+◌, ◌-◌, ◌/◌, arith}
use Rattle.log_checker.proofs.Entries.{half_low, half_high}
use Rattle.log_checker.proofs.kept.place_of.Goals as goal

pub halves-preserved-then-index-number : goal.halves-preserved-then-index-number
halves-preserved-then-index-number c =
    let middle = c.halves.low + (c.halves.high - c.halves.low) / 2 in (
      omega (arith, c.halves-test.true),
      c.halves.invariant.1,
      half_low _ _ middle _ c.requires (omega (arith, c.halves-test.true, c.halves.invariant.1)) c.index.ensures c.if-index-number.true,
      c.halves.invariant.3,
    )

pub halves-preserved : goal.halves-preserved
halves-preserved c =
    let middle = c.halves.low + (c.halves.high - c.halves.low) / 2 in (
      omega (arith, c.halves-test.true),
      omega (arith, c.halves-test.true, c.halves.invariant.1),
      c.halves.invariant.2,
      half_high _ _ middle _ c.requires (omega (arith, c.halves-test.true, c.halves.invariant.1)) c.index.ensures c.if-index-number.false,
    )
