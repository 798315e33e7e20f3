use Rattle.std.proofs.Common.{◌∙◌, ◌+◌, ◌-◌, ◌*◌, arith, ap, ap₂, sym, length}
use Rattle.ltl_closure.specs.Closure.{nexts, yesterdays}
use Rattle.enc_layout.specs.Clauses.{closing_clauses}
use Rattle.enc_layout.proofs.Counting.{length-carried}
use Rattle.clause_index.specs.Rows.{row_at}
use Rattle.clause_index.proofs.Linked.{count_same}
use Rattle.clause_index.proofs.Pairs.{equal_all, pair_middle, pair_last, pair_behind, behind_infinite, behind_within}
use Rattle.clause_index.proofs.pair.pair.Goals as goal

pub returns-then-index-compared-2 : goal.returns-then-index-compared-2
returns-then-index-compared-2 c =
    let f = c.args.closure.now.formula in
    let a = count_same f (nexts f) c.nexts.result.now c.nexts.ensures.numbers in
    let b = count_same f (yesterdays f) c.yesterdays.result.now c.yesterdays.ensures.numbers in
    let d = length-carried f in
    let at = c.if-index-compared-2.true in
    c.equal.ensures
    ∙ (equal_all c.args.layout.now f c.args.step c.args.earlier (length c.nexts.result.now + length c.yesterdays.result.now) (omega arith)
    ∙ pair_middle c.args.layout.now f c.args.step c.args.earlier c.args.closure.now.kind c.args.index (omega arith))

pub looping-requires-clause-infinite : goal.looping-requires-clause-infinite
looping-requires-clause-infinite c =
    let f = c.args.closure.now.formula in
    let a = count_same f (nexts f) c.nexts.result.now c.nexts.ensures.numbers in
    let b = count_same f (yesterdays f) c.yesterdays.result.now c.yesterdays.ensures.numbers in
    let x = length c.nexts.result.now + length c.yesterdays.result.now in
    let more = pair_behind c.args.layout.now f c.args.step c.args.earlier c.args.closure.now.kind c.args.index x (ap₂ ◌+◌ a b)
    c.requires.within c.if-index-compared.false c.if-index-compared-2.false in
    ap (λ l. l.kind) c.requires.own ∙ behind_infinite f c.args.closure.now.kind c.args.step c.args.earlier (c.args.index - 4 * x - 1) more.0

pub looping-requires-clause-within : goal.looping-requires-clause-within
looping-requires-clause-within c =
    let f = c.args.closure.now.formula in
    let a = count_same f (nexts f) c.nexts.result.now c.nexts.ensures.numbers in
    let b = count_same f (yesterdays f) c.yesterdays.result.now c.yesterdays.ensures.numbers in
    let x = length c.nexts.result.now + length c.yesterdays.result.now in
    let more = pair_behind c.args.layout.now f c.args.step c.args.earlier c.args.closure.now.kind c.args.index x (ap₂ ◌+◌ a b)
    c.requires.within c.if-index-compared.false c.if-index-compared-2.false in
    behind_within f c.args.closure.now.kind c.args.step c.args.earlier (c.args.index - 4 * x - 1) more.0

pub returns : goal.returns
returns c =
    let f = c.args.closure.now.formula in
    let a = count_same f (nexts f) c.nexts.result.now c.nexts.ensures.numbers in
    let b = count_same f (yesterdays f) c.yesterdays.result.now c.yesterdays.ensures.numbers in
    let x = length c.nexts.result.now + length c.yesterdays.result.now in
    let k = c.args.index - 4 * x - 1 in
    let more = pair_behind c.args.layout.now f c.args.step c.args.earlier c.args.closure.now.kind c.args.index x (ap₂ ◌+◌ a b)
    c.requires.within c.if-index-compared.false c.if-index-compared-2.false in
    let infinite = behind_infinite f c.args.closure.now.kind c.args.step c.args.earlier k more.0 in
    c.looping.ensures
    ∙ (ap (λ kind. row_at c.args.layout.now (closing_clauses f kind c.args.step c.args.earlier) k) (sym infinite)
    ∙ pair_last c.args.layout.now f c.args.step c.args.earlier c.args.closure.now.kind c.args.index k more.1)
