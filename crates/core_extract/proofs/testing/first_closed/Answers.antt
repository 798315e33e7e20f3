use Rattle.std.proofs.Common.{◌<◌, ◌∙◌, arith, length}
use Rattle.core_extract.specs.declared.testing.Outcome.TheVariants as outcomes
use Rattle.core_extract.proofs.Members.{read}
use Rattle.core_extract.proofs.Rounds.{one_open}
use Rattle.core_extract.proofs.testing.first_closed.Goals as goal

pub returns-in-Closed : goal.returns-in-Closed
returns-in-Closed c =
    let low : c.tests.index < length c.args.found.now.items = omega (arith, c.tests-test.true, c.len-index-end.ensures) in
    (low, read c.args.found.now.items c.tests.index c.index.result.now outcomes.NoMemory low c.index.ensures ∙ c.in-Closed.is, c.tests.invariant)

pub tests-preserved : goal.tests-preserved
tests-preserved c =
    let low : c.tests.index < length c.args.found.now.items = omega (arith, c.tests-test.true, c.len-index-end.ensures) in
    one_open c.args.found.now.items c.tests.index
    (read c.args.found.now.items c.tests.index c.index.result.now outcomes.NoMemory low c.index.ensures ∙ c.in-Open.is) c.tests.invariant

pub returns : goal.returns
returns c i lt = c.tests.invariant i (omega (arith, lt, c.tests-test.false, c.len-index-end.ensures))
