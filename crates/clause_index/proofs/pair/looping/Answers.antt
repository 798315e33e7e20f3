use Rattle.std.proofs.Common.{◌≡◌, ◌∙◌, ◌+◌, ◌-◌, ◌*◌, arith, ap₂, [], ◌∷◌, length}
use Rattle.ltl_closure.specs.Closure.{eventualities}
use Rattle.clause_index.specs.Counts.{fulfilled_size}
use Rattle.clause_index.proofs.Linked.{count_same}
use Rattle.clause_index.proofs.Pairs.{closing_middle, closing_last, closing_long}
use Rattle.clause_index.proofs.pair.looping.Goals as goal

pub returns-then-index-fulfilments-2 : goal.returns-then-index-fulfilments-2
returns-then-index-fulfilments-2 c =
    let f = c.args.closure.now.formula in
    let count = count_same f (eventualities f) c.eventualities.result.now c.eventualities.ensures.numbers in
    ap₂ (λ a b. a ∷ b ∷ []) c.negative-closes.ensures c.positive.ensures
    ∙ closing_middle c.args.layout.now f c.args.step c.args.earlier c.args.index c.requires.earlier
    (c.if-index-fulfilments-2.true ∙ ap₂ ◌*◌ count c.fulfilled_size.ensures.size)

pub asked-requires-clause-within : goal.asked-requires-clause-within
asked-requires-clause-within c =
    let f = c.args.closure.now.formula in
    let count = count_same f (eventualities f) c.eventualities.result.now c.eventualities.ensures.numbers in
    let product : length c.eventualities.result.now * c.fulfilled_size.result ≡ length (eventualities f) * fulfilled_size c.args.step c.args.earlier =
    ap₂ ◌*◌ count c.fulfilled_size.ensures.size in
    let long = closing_long c.args.layout.now f c.args.step c.args.earlier c.requires.earlier in
    let within = c.requires.within in
    let behind = c.if-index-fulfilments.false in
    let not_middle = c.if-index-fulfilments-2.false in
    grind arith

pub returns : goal.returns
returns c =
    let f = c.args.closure.now.formula in
    let count = count_same f (eventualities f) c.eventualities.result.now c.eventualities.ensures.numbers in
    let product : length c.eventualities.result.now * c.fulfilled_size.result ≡ length (eventualities f) * fulfilled_size c.args.step c.args.earlier =
    ap₂ ◌*◌ count c.fulfilled_size.ensures.size in
    let behind = c.if-index-fulfilments.false in
    let not_middle = c.if-index-fulfilments-2.false in
    let k = c.args.index - length c.eventualities.result.now * c.fulfilled_size.result - 1 in
    let at : length (eventualities f) * fulfilled_size c.args.step
    c.args.earlier + (1 + (c.args.index - length c.eventualities.result.now * c.fulfilled_size.result - 1)) ≡ c.args.index = grind arith in
    c.asked.ensures ∙ closing_last c.args.layout.now f c.args.step c.args.earlier c.args.index k c.requires.earlier at
