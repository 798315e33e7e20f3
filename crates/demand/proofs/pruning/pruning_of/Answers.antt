use Rattle.std.proofs.Common.{ap, sym, ◌∙◌}
use Rattle.demand.specs.declared.pruning.Pruning.TheVariants as prunings
use Rattle.demand.specs.Rows.{rows_in}
use Rattle.demand.specs.Closing.{is_one_carry}
use Rattle.demand.specs.Pruning.{pruning_at}
use Rattle.demand.proofs.Reach.{mapped, nearest_mapped}
use Rattle.demand.proofs.pruning.pruning_of.Goals as goal

pub returns-in_err-first-in-Finite : goal.returns-in_err-first-in-Finite
returns-in_err-first-in-Finite c =
    let rows = rows_in c.args.rows.now in
    let i = c.args.state in
    c.from_residual.ensures
    ∙ (ap (mapped prunings.Pair) (sym c.in_err-first-in-Finite.was ∙ c.nearest_equal.ensures)
    ∙ (sym (nearest_mapped i (λ j. is_one_carry rows j i) prunings.Pair) ∙ ap (λ kind. pruning_at kind rows i) (sym c.in-Finite.is)))

pub returns-in_ok-first-in-Finite : goal.returns-in_ok-first-in-Finite
returns-in_ok-first-in-Finite c =
    let rows = rows_in c.args.rows.now in
    let i = c.args.state in
    ap (mapped prunings.Pair) (sym c.in_ok-first-in-Finite.was ∙ c.nearest_equal.ensures)
    ∙ (sym (nearest_mapped i (λ j. is_one_carry rows j i) prunings.Pair) ∙ ap (λ kind. pruning_at kind rows i) (sym c.in-Finite.is))
