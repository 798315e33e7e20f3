use Rattle.std.proofs.Common.{◌<◌, ◌-◌, ◌*◌, ◌∙◌, arith, length}
use Rattle.ltl_closure.specs.Closure.{nexts}
use Rattle.clause_index.proofs.Linked.{count_same}
use Rattle.clause_index.proofs.Links.{later_left, later_right, links_first, links_later}
use Rattle.clause_index.proofs.link.links.Goals as goal

pub first-requires-clause-within : goal.first-requires-clause-within
first-requires-clause-within c = links_first c.args.closure.now.formula c.args.step c.args.index c.if-step-eq0.true c.requires.within

pub returns-then-index-nexts : goal.returns-then-index-nexts
returns-then-index-nexts c =
    let f = c.args.closure.now.formula in
    let first = c.if-step-eq0.false in
    let lt : c.args.index < length (nexts f) * 2 = omega (arith, c.if-index-nexts.true, count_same f (nexts f) c.nexts.result.now c.nexts.ensures.numbers) in
    c.next_link.ensures ∙ later_left c.args.layout.now f c.args.step c.args.index (grind arith) lt

pub yesterday_link-requires-clause-within : goal.yesterday_link-requires-clause-within
yesterday_link-requires-clause-within c =
    let f = c.args.closure.now.formula in
    let first = c.if-step-eq0.false in
    let all = links_later f c.args.step (grind arith) in
    omega (arith, c.if-index-nexts.false, count_same f (nexts f) c.nexts.result.now c.nexts.ensures.numbers, c.requires.within, all)

pub returns : goal.returns
returns c =
    let f = c.args.closure.now.formula in
    let first = c.if-step-eq0.false in
    let same = count_same f (nexts f) c.nexts.result.now c.nexts.ensures.numbers in
    let back = c.if-index-nexts.false in
    let k = c.args.index - 2 * length c.nexts.result.now in
    c.yesterday_link.ensures ∙ later_right c.args.layout.now f c.args.step (c.args.index - 2 * length c.nexts.result.now) c.args.index (grind arith)
    (omega (arith, back, same))
