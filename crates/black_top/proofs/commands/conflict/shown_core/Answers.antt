use Rattle.std.proofs.Common.{◌≡◌, ◌∙◌, sym, ap, subst}
use Rattle.ltl_syntax.specs.Formula.{HasNoFresh}
use Rattle.ltl_syntax.specs.Table.{tree_at}
use Rattle.core_extract.specs.Core.{tableau, IsRefuted, IsCore}
use Rattle.black_top.proofs.Conflicting.{coreless, core_shown}
use Rattle.black_top.proofs.commands.conflict.shown_core.Goals as goal

pub returns-then-not-options : goal.returns-then-not-options
returns-then-not-options g c = coreless c.args.options.core c.args.closure.now.formula c.args.closure.now.kind c.args.asked c.if-not-options.true

pub core-requires-clause-given : goal.core-requires-clause-given
core-requires-clause-given g c κs lives =
    let root = c.node-root.result in
    let same : tree_at c.table-table.result.now root ≡ c.args.closure.now.formula =
    ap (λ t. tree_at t root) c.table-table.ensures.table ∙ c.node-root.ensures.formula in
    subst HasNoFresh (sym same) c.requires.given

pub core-requires-clause-refuted : goal.core-requires-clause-refuted
core-requires-clause-refuted g c κs lives =
    let value = c.args.closure.now in
    let root = c.node-root.result in
    let same : tree_at c.table-table.result.now root ≡ value.formula = ap (λ t. tree_at t root) c.table-table.ensures.table ∙ c.node-root.ensures.formula in
    subst (λ k. IsRefuted k c.args.asked (tree_at c.table-table.result.now root)) (sym c.kind.ensures)
    (subst (IsRefuted value.kind c.args.asked) (sym same) c.requires.refuted)

pub returns : goal.returns
returns g c =
    let value = c.args.closure.now in
    let root = c.node-root.result in
    let found = tree_at c.in_ok-found.found c.in_ok-found.place in
    let same : tree_at c.table-table.result.now root ≡ value.formula = ap (λ t. tree_at t root) c.table-table.ensures.table ∙ c.node-root.ensures.formula in
    let core : IsCore (tableau value.kind c.args.asked) value.formula found =
    subst (λ f. IsCore (tableau value.kind c.args.asked) f found) same
    (subst (λ k. IsCore (tableau k c.args.asked) (tree_at c.table-table.result.now root) found) c.kind.ensures c.in_ok-found.ensures.core) in
    core_shown c.args.options.core value.formula found value.kind c.args.asked c.in_ok-text.text.items c.if-not-options.false core c.in_ok-text.ensures
