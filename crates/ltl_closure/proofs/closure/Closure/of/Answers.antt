use Rattle.std.proofs.Common.{◌≡◌, ◌∙◌, filter}
use Rattle.ltl_syntax.specs.Table.{tree_at}
use Rattle.ltl_closure.specs.Closure.{closure}
use Rattle.ltl_closure.specs.Entries.{numbers_of}
use Rattle.ltl_closure.specs.Groups.{is_of, group_numbers}
use Rattle.ltl_closure.specs.declared.group.Group.{Group}
use Rattle.ltl_closure.specs.declared.group.Group.TheVariants as groups
use Rattle.ltl_closure.proofs.Grouping.{group_is}
use Rattle.ltl_closure.proofs.closure.Closure.of.Goals as goal

pub invariant_of-result : goal.invariant_of-result
invariant_of-result c = record {
  there = c.requires;
  entries = c.in_ok-walked.ensures.entries;
  few = c.in_ok-walked.ensures.few;
  root = c.in_ok-walked.ensures.root;
  nexts = rw c.deref.ensures.value at c.in_ok-nexts.ensures ∙ is groups.Nexts;
  yesterdays = rw c.deref-2.ensures.value at c.in_ok-yesterdays.ensures ∙ is groups.Yesterdays;
  eventualities = rw c.deref-3.ensures.value at c.in_ok-eventualities.ensures ∙ is groups.Eventualities;
}
  where
    is : (g : Group) → group_numbers g 1 c.in_ok-walked.walked.entries.items ≡ numbers_of (tree_at c.args.table.now c.args.root)
        (filter (is_of g) (closure (tree_at c.args.table.now c.args.root)))
    is g = group_is c.args.table.now.names (tree_at c.args.table.now c.args.root) g c.in_ok-walked.walked.entries.items c.in_ok-walked.ensures.entries
