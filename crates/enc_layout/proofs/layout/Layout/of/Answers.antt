use Rattle.std.proofs.Common.{◌+◌, ◌≤◌, arith, ap, subst, sym, ◌∙◌, length}
use Rattle.ltl_closure.specs.Closure.{nexts, yesterdays, eventualities}
use Rattle.enc_layout.specs.Letters.{Fits}
use Rattle.enc_layout.specs.Clauses.{layout_of}
use Rattle.enc_layout.proofs.Fitting.{first_fits}
use Rattle.enc_layout.proofs.Counting.{length-numbers_of, length-carried, nexts_few, yesterdays_few, eventualities_few, counts_few, counted}
use Rattle.enc_layout.proofs.layout.Layout.of.Goals as goal

pub overflow_cast-result-2 : goal.overflow_cast-result-2
overflow_cast-result-2 c =
    let f = c.args.closure.now.formula in
    let few = c.entries.ensures.few in
    let all = c.entries.ensures.closure.long in
    let same = ap length c.entries.ensures.entries in
    let a = ap length c.nexts.ensures.numbers in
    let b = ap length c.yesterdays.ensures.numbers in
    let x = length-numbers_of f (nexts f) in
    let y = length-numbers_of f (yesterdays f) in
    let n = nexts_few f in
    let m = yesterdays_few f in
    omega arith

pub overflow_cast-result-3 : goal.overflow_cast-result-3
overflow_cast-result-3 c =
    let f = c.args.closure.now.formula in
    let few = c.entries.ensures.few in
    let all = c.entries.ensures.closure.long in
    let a = ap length c.eventualities.ensures.numbers in
    let x = length-numbers_of f (eventualities f) in
    let n = eventualities_few f in
    omega arith

pub invariant_of-result : goal.invariant_of-result
invariant_of-result c =
    let f = c.args.closure.now.formula in
    let long = c.entries.ensures.closure.long in
    let few = counts_few f (subst (λ n. n ≤ 98306) long c.entries.ensures.few) in
    let a = ap length c.nexts.ensures.numbers in
    let b = ap length c.yesterdays.ensures.numbers in
    let e = ap length c.eventualities.ensures.numbers in
    let x = length-numbers_of f (nexts f) in
    let y = length-numbers_of f (yesterdays f) in
    let z = length-numbers_of f (eventualities f) in
    let all = length-carried f in
    let places = few.few_places in
    let eventualities = few.few_eventualities in
    record { few_entries = c.entries.ensures.few; few_places = omega arith; few_eventualities = omega arith }

pub returns-clause-layout : goal.returns-clause-layout
returns-clause-layout c =
    let f = c.args.closure.now.formula in
    let a = ap length c.nexts.ensures.numbers in
    let b = ap length c.yesterdays.ensures.numbers in
    let x = length-numbers_of f (nexts f) in
    let y = length-numbers_of f (yesterdays f) in
    let z = length-carried f in
    counted c.args.closure.now c.kind.result (length c.entries.result.now) (length c.nexts.result.now + length c.yesterdays.result.now)
    (length c.eventualities.result.now)
    c.kind.ensures c.entries.ensures.closure.long (omega arith) (ap length c.eventualities.ensures.numbers ∙ length-numbers_of f (eventualities f))

pub returns-clause-first : goal.returns-clause-first
returns-clause-first c =
    let f = c.args.closure.now.formula in
    let few = counts_few f (subst (λ n. n ≤ 98306) c.entries.ensures.closure.long c.entries.ensures.few) in
    subst (λ l. Fits l 0) (sym (returns-clause-layout c)) (first_fits (layout_of c.args.closure.now) few)
