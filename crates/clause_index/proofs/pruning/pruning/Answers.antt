use Rattle.std.proofs.Common.{◌≡◌, ◌∙◌, arith, ap, sym}
use Rattle.ltl_syntax.specs.declared.node.Kind.TheVariants as Kinds
use Rattle.enc_layout.specs.Clauses.{pruning_part}
use Rattle.clause_index.specs.Rows.{row_at}
use Rattle.clause_index.proofs.Prunes.{finite_row, finite_within}
use Rattle.clause_index.proofs.pruning.pruning.Goals as goal

pub overflow_cast-index : goal.overflow_cast-index
overflow_cast-index c =
    let within = finite_within c.args.closure.now.formula c.args.closure.now.kind c.args.step c.args.index (sym c.kind.ensures ∙ c.in-Finite.is)
    c.requires.within in
    omega (arith, within, c.requires.few)

pub finite-requires-clause-earlier : goal.finite-requires-clause-earlier
finite-requires-clause-earlier c =
    finite_within c.args.closure.now.formula c.args.closure.now.kind c.args.step c.args.index (sym c.kind.ensures ∙ c.in-Finite.is) c.requires.within

pub returns-in-Finite : goal.returns-in-Finite
returns-in-Finite c =
    let f = c.args.closure.now.formula in
    let kind : c.args.closure.now.kind ≡ Kinds.Finite = sym c.kind.ensures ∙ c.in-Finite.is in
    let within = finite_within f c.args.closure.now.kind c.args.step c.args.index kind c.requires.within in
    c.finite.ensures ∙ (finite_row c.args.layout.now f c.args.step c.args.index within
    ∙ ap (λ k. row_at c.args.layout.now (pruning_part f k c.args.step) c.args.index) (sym kind))
