use Rattle.std.proofs.Common.{◌+◌, ◌-◌, ◌*◌, ◌∙◌, arith, ap, length}
use Rattle.ltl_closure.specs.Closure.{eventualities}
use Rattle.clause_index.proofs.Linked.{count_same}
use Rattle.clause_index.proofs.Prunes.{seen_row, news_row, rest_place}
use Rattle.clause_index.proofs.Rows.{block_within}
use Rattle.clause_index.proofs.pruning.infinite.Goals as goal

pub returns-then-index-all : goal.returns-then-index-all
returns-then-index-all c =
    let f = c.args.closure.now.formula in
    let count = count_same f (eventualities f) c.eventualities.result.now c.eventualities.ensures.numbers in
    c.seen.ensures
    ∙ seen_row c.args.layout.now f c.args.step c.args.index (1 + length c.eventualities.result.now) c.args.layout.now.counts.eventualities
    (ap (λ n. 1 + n) count) (ap (λ l. l.counts.eventualities) c.requires.own)
    c.if-index-all.true

pub overflow_cast-earlier-2 : goal.overflow_cast-earlier-2
overflow_cast-earlier-2 c =
    let f = c.args.closure.now.formula in
    let count = count_same f (eventualities f) c.eventualities.result.now c.eventualities.ensures.numbers in
    let place = rest_place f c.args.step c.args.index (length c.eventualities.result.now) count c.if-index-all.false c.requires.within in
    let pair = 1 + 3 * length c.eventualities.result.now in
    let rest = c.args.index - c.args.step * (1 + length c.eventualities.result.now) in
    let lt = block_within pair c.args.step rest place.1 in
    omega (arith, lt, c.requires.few)

pub news-requires-clause-earlier : goal.news-requires-clause-earlier
news-requires-clause-earlier c =
    let f = c.args.closure.now.formula in
    let count = count_same f (eventualities f) c.eventualities.result.now c.eventualities.ensures.numbers in
    let place = rest_place f c.args.step c.args.index (length c.eventualities.result.now) count c.if-index-all.false c.requires.within in
    block_within (1 + 3 * length c.eventualities.result.now) c.args.step (c.args.index - c.args.step * (1 + length c.eventualities.result.now)) place.1

pub returns : goal.returns
returns c =
    let f = c.args.closure.now.formula in
    let count = count_same f (eventualities f) c.eventualities.result.now c.eventualities.ensures.numbers in
    let place = rest_place f c.args.step c.args.index (length c.eventualities.result.now) count c.if-index-all.false c.requires.within in
    c.news.ensures
    ∙ news_row c.args.layout.now f c.args.step c.args.index (c.args.index - c.args.step * (1 + length c.eventualities.result.now))
    (1 + 3 * length c.eventualities.result.now) (ap (λ n. 1 + 3 * n) count) place.0 place.1
