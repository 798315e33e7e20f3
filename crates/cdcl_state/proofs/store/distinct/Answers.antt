use Rattle.std.proofs.Common.{◌<◌, length, arith}
use Rattle.cdcl_state.proofs.Distinct.{distinct_there, distinct_back, distinct_whole}
use Rattle.cdcl_state.proofs.store.distinct.Goals as goal

pub loop-literal-preserved : goal.loop-literal-preserved
loop-literal-preserved c =
    let i = c.loop-literal.literal-index in
    let old = c.loop-literal.out.items in
    let new = c.insert.new.out.items in
    let clause = c.args.clause.now in
    let low : i < length clause = omega (arith, c.loop-literal-test.true) in
    record {
      apart = c.in_ok-insert.ensures.apart;
      there = distinct_there clause old new i low c.in_ok-insert.ensures.kept c.in_ok-insert.ensures.there c.loop-literal.invariant.there;
      back = distinct_back clause old new i low c.in_ok-insert.ensures.kept c.in_ok-insert.ensures.only c.loop-literal.invariant.back;
    }

pub returns-clause-same : goal.returns-clause-same
returns-clause-same c =
    distinct_whole c.args.clause.now c.loop-literal.out.items c.loop-literal.literal-index (omega (arith, c.loop-literal-test.false))
    c.loop-literal.invariant.there c.loop-literal.invariant.back
