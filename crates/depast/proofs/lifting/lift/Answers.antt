use Rattle.std.proofs.Common.{◌≡◌, ◌∙◌, ◌+◌, ◌-◌, ◌*◌, ◌<◌, refl, ap, sym, subst, arith, length}
use Rattle.ltl_syntax.specs.Table.{tree_at}
use Rattle.ltl_word.specs.declared.trace.Trace.TheVariants.{Infinite, Finite}
use Rattle.ltl_word.specs.Trace.{IsTrace}
use Rattle.ltl_word.specs.Depth.{past_depth}
use Rattle.lasso_eval.specs.Cells.{positions}
use Rattle.lasso_eval.specs.Rows.{AreValues}
use Rattle.ltl_syntax.specs.Under.{Here}
use Rattle.depast.specs.Lifting.{IsLifted}
use Rattle.depast.specs.Sources.{AreLiftedStates}
use Rattle.depast.proofs.LiftedStates.{readable, finite_read, infinite_read, positions_few}
use Rattle.depast.proofs.Numbering.{few_where_small}
use Rattle.depast.proofs.lifting.lift.Goals as goal

pub overflow_cast-columns : goal.overflow_cast-columns
overflow_cast-columns c =
    let all : c.positions-columns.result ≡ positions c.args.trace.now (tree_at c.args.table.now c.args.root) =
    c.positions-columns.ensures ∙ (c.in_ok-values.ensures.ok c.args.root (Here c.args.root refl)).count in
    let few = positions_few c.args.trace.now (tree_at c.args.table.now c.args.root) c.in_ok-values.ensures.few in
    omega arith

pub overflow_cast-start : goal.overflow_cast-start
overflow_cast-start c =
    let all : c.positions-columns.result ≡ length c.in-Infinite.stem
    + (past_depth (tree_at c.args.table.now c.args.root) + 1) * length c.in-Infinite.loop_part = c.positions-columns.ensures
    ∙ ((c.in_ok-values.ensures.ok c.args.root (Here c.args.root refl)).count ∙ ap (λ u. positions u (tree_at c.args.table.now c.args.root)) c.in-Infinite.is) in
    let slice : length c.as_slice.result.now ≡ length c.in-Infinite.loop_part = ap length c.as_slice.ensures in
    let same : c.positions-columns.result ≡ positions c.args.trace.now (tree_at c.args.table.now c.args.root) =
    c.positions-columns.ensures ∙ (c.in_ok-values.ensures.ok c.args.root (Here c.args.root refl)).count in
    let few = positions_few c.args.trace.now (tree_at c.args.table.now c.args.root) c.in_ok-values.ensures.few in
    omega arith

pub overflow_sub-start : goal.overflow_sub-start
overflow_sub-start c =
    let all : c.positions-columns.result ≡ length c.in-Infinite.stem
    + (past_depth (tree_at c.args.table.now c.args.root) + 1) * length c.in-Infinite.loop_part = c.positions-columns.ensures
    ∙ ((c.in_ok-values.ensures.ok c.args.root (Here c.args.root refl)).count ∙ ap (λ u. positions u (tree_at c.args.table.now c.args.root)) c.in-Infinite.is) in
    let slice : length c.as_slice.result.now ≡ length c.in-Infinite.loop_part = ap length c.as_slice.ensures in
    omega arith

pub lifted-requires-clause-readable : goal.lifted-requires-clause-readable
lifted-requires-clause-readable c i lt =
    let all : c.positions-columns.result ≡ positions c.args.trace.now (tree_at c.args.table.now c.args.root) =
    c.positions-columns.ensures ∙ (c.in_ok-values.ensures.ok c.args.root (Here c.args.root refl)).count in
    readable c.args.table.now c.args.root c.args.trace.now (record { new = c.in_ok-new.new; sources = c.in_ok-sources.sources; values = c.in_ok-values.values })
    c.in_ok-values.ensures.ok c.in_ok-sources.ensures c.args.removed.now.names c.requires.removed.names_are c.in_ok-new.ensures
    (few_where_small (tree_at c.args.table.now c.args.root) c.requires.removed.small) i (omega arith)

pub lifted-requires-in-Infinite-clause-readable : goal.lifted-requires-in-Infinite-clause-readable
lifted-requires-in-Infinite-clause-readable c i lt =
    let all : c.positions-columns.result ≡ positions c.args.trace.now (tree_at c.args.table.now c.args.root) =
    c.positions-columns.ensures ∙ (c.in_ok-values.ensures.ok c.args.root (Here c.args.root refl)).count in
    readable c.args.table.now c.args.root c.args.trace.now (record { new = c.in_ok-new.new; sources = c.in_ok-sources.sources; values = c.in_ok-values.values })
    c.in_ok-values.ensures.ok c.in_ok-sources.ensures c.args.removed.now.names c.requires.removed.names_are c.in_ok-new.ensures
    (few_where_small (tree_at c.args.table.now c.args.root) c.requires.removed.small) i (omega arith)

pub lifted-requires-in-Finite-clause-readable : goal.lifted-requires-in-Finite-clause-readable
lifted-requires-in-Finite-clause-readable c i lt =
    let all : c.positions-columns.result ≡ positions c.args.trace.now (tree_at c.args.table.now c.args.root) =
    c.positions-columns.ensures ∙ (c.in_ok-values.ensures.ok c.args.root (Here c.args.root refl)).count in
    readable c.args.table.now c.args.root c.args.trace.now (record { new = c.in_ok-new.new; sources = c.in_ok-sources.sources; values = c.in_ok-values.values })
    c.in_ok-values.ensures.ok c.in_ok-sources.ensures c.args.removed.now.names c.requires.removed.names_are c.in_ok-new.ensures
    (few_where_small (tree_at c.args.table.now c.args.root) c.requires.removed.small) i (omega arith)

pub returns-in-Infinite-clause-ok : goal.returns-in-Infinite-clause-ok
returns-in-Infinite-clause-ok c =
    let all : c.positions-columns.result ≡ length c.in-Infinite.stem
    + (past_depth (tree_at c.args.table.now c.args.root) + 1) * length c.in-Infinite.loop_part = c.positions-columns.ensures
    ∙ ((c.in_ok-values.ensures.ok c.args.root (Here c.args.root refl)).count ∙ ap (λ u. positions u (tree_at c.args.table.now c.args.root)) c.in-Infinite.is) in
    let slice : length c.as_slice.result.now ≡ length c.in-Infinite.loop_part = ap length c.as_slice.ensures in
    let start = c.positions-columns.result - length c.as_slice.result.now in
    let is = c.in-Infinite.is in
    let some : 0 < length c.in-Infinite.loop_part = subst IsTrace c.in-Infinite.is c.requires.trace in
    subst (λ u. IsLifted (tree_at c.args.table.now c.args.root) u (Infinite c.in_ok-stem-in-Infinite.stem c.in_ok-loop_part-in-Infinite.loop_part))
    (sym c.in-Infinite.is)
    (infinite_read c.args.table.now c.args.root (record { new = c.in_ok-new.new; sources = c.in_ok-sources.sources; values = c.in_ok-values.values })
    c.in_ok-sources.ensures c.args.removed.now.names c.requires.removed.names_are c.in_ok-new.ensures (few_where_small (tree_at c.args.table.now c.args.root)
    c.requires.removed.small) c.in-Infinite.stem c.in-Infinite.loop_part c.in_ok-stem-in-Infinite.stem c.in_ok-loop_part-in-Infinite.loop_part
    (c.positions-columns.result - length c.as_slice.result.now) some
    (subst (λ u. AreValues c.args.table.now c.args.root u c.in_ok-values.values) c.in-Infinite.is c.in_ok-values.ensures.ok) (omega arith)
    (subst (λ u. AreLiftedStates (record {
      new = c.in_ok-new.new;
      sources = c.in_ok-sources.sources;
      values = c.in_ok-values.values;
    }) c.args.removed.now.names u 0 (c.positions-columns.result - length c.as_slice.result.now) c.in_ok-stem-in-Infinite.stem) c.in-Infinite.is
    (c.in_ok-stem-in-Infinite.ensures (c.positions-columns.result - length c.as_slice.result.now) (omega arith)))
    (subst (λ u. AreLiftedStates (record { new = c.in_ok-new.new; sources = c.in_ok-sources.sources; values = c.in_ok-values.values }) c.args.removed.now.names
    u (c.positions-columns.result - length c.as_slice.result.now) (length c.in-Infinite.loop_part) c.in_ok-loop_part-in-Infinite.loop_part) c.in-Infinite.is
    (c.in_ok-loop_part-in-Infinite.ensures (length c.in-Infinite.loop_part) (omega arith))))

pub returns-clause-ok : goal.returns-clause-ok
returns-clause-ok c =
    let all : c.positions-columns.result ≡ length c.in-Finite.states = c.positions-columns.ensures
    ∙ ((c.in_ok-values.ensures.ok c.args.root (Here c.args.root refl)).count ∙ ap (λ u. positions u (tree_at c.args.table.now c.args.root)) c.in-Finite.is) in
    subst (λ u. IsLifted (tree_at c.args.table.now c.args.root) u (Finite c.in_ok-states-in-Finite.states)) (sym c.in-Finite.is)
    (finite_read c.args.table.now c.args.root (record { new = c.in_ok-new.new; sources = c.in_ok-sources.sources; values = c.in_ok-values.values })
    c.in_ok-sources.ensures c.args.removed.now.names c.requires.removed.names_are c.in_ok-new.ensures (few_where_small (tree_at c.args.table.now c.args.root)
    c.requires.removed.small) c.in-Finite.states c.in_ok-states-in-Finite.states c.positions-columns.result
    (subst (λ u. AreValues c.args.table.now c.args.root u c.in_ok-values.values) c.in-Finite.is c.in_ok-values.ensures.ok) all
    (subst (λ u. AreLiftedStates (record { new = c.in_ok-new.new; sources = c.in_ok-sources.sources; values = c.in_ok-values.values }) c.args.removed.now.names
    u 0 c.positions-columns.result c.in_ok-states-in-Finite.states) c.in-Finite.is (c.in_ok-states-in-Finite.ensures c.positions-columns.result (omega arith))))
