use Rattle.std.proofs.Common.{◌++◌, map, ap₂, ◌∙◌}
use Rattle.ltl_closure.specs.Entries.{entry_at}
use Rattle.demand.specs.declared.entries.Operand.TheVariants as operands
use Rattle.demand.specs.Entries.{operand_by}
use Rattle.demand.proofs.Operands.{carry_numbers, pending_numbers, fulfilled_numbers}
use Rattle.demand.proofs.entries.row_entries.Goals as goal

pub returns : goal.returns
returns c =
    let names = c.args.closure.now.names in
    let f = c.args.closure.now.formula in
    let entries = c.entries-entries.result.now in
    let are = c.entries-entries.ensures.closure in
    record {
      carry = c.in_ok-push_operands.ensures
          ∙ (ap₂ (λ xs ys. xs ++ map (λ t. operand_by operands.Argument t (entry_at entries t)) ys)
          (c.in_ok-carry.ensures.items_if_clones_equal (λ x y e. e) ∙ c.nexts.ensures.numbers) c.yesterdays.ensures.numbers
          ∙ carry_numbers names f entries are);
      pending = c.in_ok-push_operands-2.ensures
          ∙ (ap₂ (λ xs ys. xs ++ map (λ t. operand_by operands.Request t (entry_at entries t)) ys) c.new-pending.ensures.items c.eventualities.ensures.numbers
          ∙ pending_numbers names f entries are);
      fulfilled = c.in_ok-push_operands-3.ensures
          ∙ (ap₂ (λ xs ys. xs ++ map (λ t. operand_by operands.Right t (entry_at entries t)) ys) c.new-fulfilled.ensures.items c.eventualities-2.ensures.numbers
          ∙ fulfilled_numbers names f entries are);
      refused = c.in_ok-refused.ensures;
    }
