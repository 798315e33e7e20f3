use Rattle.std.proofs.Common.{◌++◌, ◌∙◌, ap, arith, append_assoc, sym}
use Rattle.requirement_report.specs.Walk.{stack_letters, stack_size}
use Rattle.requirement_report.proofs.Stacks.{letters_push, size_push, nodes_split}
use Rattle.requirement_report.proofs.walks.put_letters.Goals as goal

pub step-requires-clause-node : goal.step-requires-clause-node
step-requires-clause-node c =
    (nodes_split c.args.table.now c.pop.new.self.items c.in-Some.number (rw c.in-Some.ensures.items at c.loop-number.invariant.nodes)).1

pub step-requires-clause-nodes : goal.step-requires-clause-nodes
step-requires-clause-nodes c =
    (nodes_split c.args.table.now c.pop.new.self.items c.in-Some.number (rw c.in-Some.ensures.items at c.loop-number.invariant.nodes)).0

pub loop-number-smaller : goal.loop-number-smaller
loop-number-smaller c =
    omega (
      arith,
      c.in_ok-step.ensures.size,
      ap (stack_size c.args.table.now) c.in-Some.ensures.items ∙ size_push c.args.table.now c.pop.new.self.items c.in-Some.number,
    )

pub loop-number-preserved : goal.loop-number-preserved
loop-number-preserved c = record {
  letters = c.in_ok-step.ensures.letters ∙ append_assoc c.loop-number.names.items _ _ ∙ ap (λ ls. c.loop-number.names.items ++ ls)
      (sym (ap (stack_letters c.args.table.now) c.in-Some.ensures.items ∙ letters_push c.args.table.now c.pop.new.self.items c.in-Some.number))
      ∙ c.loop-number.invariant.letters;
  nodes = c.in_ok-step.ensures.nodes;
}
