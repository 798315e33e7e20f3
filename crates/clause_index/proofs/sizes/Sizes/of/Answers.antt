use Rattle.std.proofs.Common.{arith, length}
use Rattle.ltl_closure.specs.Closure.{nexts, yesterdays, eventualities}
use Rattle.enc_layout.proofs.Counting.{nexts_few, yesterdays_few, eventualities_few}
use Rattle.clause_index.proofs.Linked.{count_same}
use Rattle.clause_index.proofs.Listing.{sizes_made}
use Rattle.clause_index.proofs.sizes.Sizes.of.Goals as goal

pub overflow_cast-result : goal.overflow_cast-result
overflow_cast-result c =
    let f = c.args.closure.now.formula in
    omega (arith, c.entries.ensures.few, c.entries.ensures.closure.long, nexts_few f, count_same f (nexts f) c.nexts.result.now c.nexts.ensures.numbers)

pub overflow_cast-result-2 : goal.overflow_cast-result-2
overflow_cast-result-2 c =
    let f = c.args.closure.now.formula in
    omega (
      arith,
      c.entries.ensures.few,
      c.entries.ensures.closure.long,
      yesterdays_few f,
      count_same f (yesterdays f) c.yesterdays.result.now c.yesterdays.ensures.numbers,
    )

pub overflow_cast-result-3 : goal.overflow_cast-result-3
overflow_cast-result-3 c =
    let f = c.args.closure.now.formula in
    omega (
      arith,
      c.entries.ensures.few,
      c.entries.ensures.closure.long,
      eventualities_few f,
      count_same f (eventualities f) c.eventualities.result.now c.eventualities.ensures.numbers,
    )

pub strong_count-requires : goal.strong_count-requires
strong_count-requires c = omega (arith, c.entries.ensures.few, c.entries.ensures.closure.long, nexts_few c.args.closure.now.formula)

pub returns-clause-sizes : goal.returns-clause-sizes
returns-clause-sizes c =
    let f = c.args.closure.now.formula in
    sizes_made c.args.closure.now c.entries.result.now c.entries.ensures.closure c.kind.result c.gates_count-gates.result (length c.nexts.result.now)
    (length c.yesterdays.result.now) (length c.eventualities.result.now) c.strong_count.result
    c.kind.ensures c.gates_count-gates.ensures (count_same f (nexts f) c.nexts.result.now c.nexts.ensures.numbers)
    (count_same f (yesterdays f) c.yesterdays.result.now c.yesterdays.ensures.numbers)
    (count_same f (eventualities f) c.eventualities.result.now c.eventualities.ensures.numbers) c.strong_count.ensures

pub returns-clause-few_nexts : goal.returns-clause-few_nexts
returns-clause-few_nexts c = omega (arith, c.entries.ensures.few, c.entries.ensures.closure.long, nexts_few c.args.closure.now.formula)

pub returns-clause-few_eventualities : goal.returns-clause-few_eventualities
returns-clause-few_eventualities c = omega (arith, c.entries.ensures.few, c.entries.ensures.closure.long, eventualities_few c.args.closure.now.formula)
