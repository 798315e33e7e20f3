use Rattle.std.proofs.Common.{ap, arith, length}
use Rattle.core_extract.proofs.testing.test_each.Goals as goal

pub for_each_mut-requires-clause-accepts : goal.for_each_mut-requires-clause-accepts
for_each_mut-requires-clause-accepts g c κs within = λ i p low at κs' r r' name values ranges n fits κs'' out.
    let count = ap length c.as_mut_slice.ensures.value in
    (c.requires.group, omega (arith, low, count, c.requires.long))
