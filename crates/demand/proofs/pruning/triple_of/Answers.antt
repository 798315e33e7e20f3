use Rattle.std.proofs.Common.{◌≡◌, ℕ, ◌-◌, Some, None, arith, ap, sym, ◌∙◌}
use Rattle.demand.specs.declared.pruning.Pruning.{Pruning}
use Rattle.demand.specs.declared.pruning.Pruning.TheVariants as prunings
use Rattle.demand.specs.Rows.{rows_in}
use Rattle.demand.specs.Nearest.{nearest, where_true}
use Rattle.demand.specs.Closing.{is_one_carry}
use Rattle.demand.specs.Pruning.{is_nothing_new, triple_with, triple_from}
use Rattle.demand.proofs.Finding.{nearest_here, nearest_past}
use Rattle.demand.proofs.Reach.{mapped, nearest_before}
use Rattle.demand.proofs.pruning.triple_of.Goals as goal

pub returns-in-Some : goal.returns-in-Some
returns-in-Some c =
    let rows = rows_in c.args.rows.now in
    let i = c.args.state in
    let j = c.walk.second - 1 in
    let old = c.old_before.ensures in
    let with : ℕ → Pruning = λ l. prunings.Triple l j in
    let first : nearest j (triple_with rows i j) ≡ Some (with c.in-Some.first) =
    nearest_before j c.old_before.result (λ l. is_one_carry rows l j) (λ l. is_nothing_new rows l j i) with old.before old.old
    ∙ ap (mapped with) (sym c.nearest_equal-first.ensures ∙ c.in-Some.is) in
    let one = sym c.is_one_carry.ensures ∙ c.if-is_one_carry.true in
    let here = ap (λ t. where_true t (nearest j (triple_with rows i j))) one ∙ first in
    sym (c.walk.invariant.same ∙ nearest_here c.walk.second (triple_from rows i) (with c.in-Some.first) c.walk-test.true here)

pub walk-preserved-in_default : goal.walk-preserved-in_default
walk-preserved-in_default c =
    let rows = rows_in c.args.rows.now in
    let i = c.args.state in
    let j = c.walk.second - 1 in
    let old = c.old_before.ensures in
    let with : ℕ → Pruning = λ l. prunings.Triple l j in
    let first : nearest j (triple_with rows i j) ≡ None =
    nearest_before j c.old_before.result (λ l. is_one_carry rows l j) (λ l. is_nothing_new rows l j i) with old.before old.old
    ∙ ap (mapped with) (sym c.nearest_equal-first.ensures ∙ c.in_default.is) in
    let one = sym c.is_one_carry.ensures ∙ c.if-is_one_carry.true in
    let here = ap (λ t. where_true t (nearest j (triple_with rows i j))) one ∙ first in
    let within = c.walk.invariant.within in record {
      within = omega arith;
      same = c.walk.invariant.same ∙ nearest_past c.walk.second (triple_from rows i) c.walk-test.true here;
    }
