use Rattle.std.proofs.Common.{◌≡◌, ◌<◌, ◌+◌, ◌-◌, ◌∙◌, arith, sym, ap, ap₂, [], ◌∷◌, length}
use Rattle.cnf_base.specs.Literal.{opposite}
use Rattle.ltl_closure.specs.Closure.{yesterdays}
use Rattle.enc_layout.proofs.Standing.{root_known}
use Rattle.clause_index.proofs.Links.{first_row}
use Rattle.clause_index.proofs.link.first.Goals as goal

pub entry-requires-clause-known : goal.entry-requires-clause-known
entry-requires-clause-known c = root_known c.args.layout.now c.args.closure.now c.requires.own c.root.result c.root.ensures.number

pub returns-then-request : goal.returns-then-request
returns-then-request c =
    let f = c.args.closure.now.formula in
    let some = c.if-index-eq0.false in
    let lt : c.args.index - 1 < length (yesterdays f) = grind (arith, c.requires.within) in
    let again : 1 + (c.args.index - 1) ≡ c.args.index = grind arith in
    ap₂ (λ a b. a ∷ b ∷ []) c.negative-here.ensures c.entry-value.ensures
    ∙ first_row c.args.layout.now f (c.args.index - 1) c.yesterday_at-request.result.number c.args.index _ lt again c.yesterday_at-request.ensures.number
    (sym c.if-request.true ∙ c.yesterday_at-request.ensures.weak)

pub returns : goal.returns
returns c =
    let f = c.args.closure.now.formula in
    let some = c.if-index-eq0.false in
    let lt : c.args.index - 1 < length (yesterdays f) = grind (arith, c.requires.within) in
    let again : 1 + (c.args.index - 1) ≡ c.args.index = grind arith in
    ap₂ (λ a b. a ∷ b ∷ []) c.negative-here.ensures (c.opposite.ensures ∙ ap opposite c.entry-value.ensures)
    ∙ first_row c.args.layout.now f (c.args.index - 1) c.yesterday_at-request.result.number c.args.index _ lt again c.yesterday_at-request.ensures.number
    (sym c.if-request.false ∙ c.yesterday_at-request.ensures.weak)
