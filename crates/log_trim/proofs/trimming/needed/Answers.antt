use Rattle.std.proofs.Common.{arith, refl, false, ◌∙◌, length-set, true, ◌-◌, get_or, length, ◌<◌}
use Rattle.clause_log.specs.LogValue.{hints_at}
use Rattle.log_trim.specs.Marking.{marked}
use Rattle.log_trim.proofs.Steps.{target_on, line_on, all_needed, hints_within, read_at}
use Rattle.log_trim.proofs.trimming.needed.Goals as goal

pub targets-preserved : goal.targets-preserved
targets-preserved c =
    let w = target_on c.args.log.now c.args.targets.now c.targets.target-index c.targets.flags.items c.targets-test.true c.requires.targets
    c.targets.invariant.long c.targets.invariant.needed c.targets.invariant.has in
    record {
      needed = w.0;
      has = w.1;
      long = length-set c.targets.flags.items (get_or c.args.targets.now c.targets.target-index 0 - 1) true ∙ c.targets.invariant.long;
    }

pub mark_hints-requires : goal.mark_hints-requires
mark_hints-requires c = record {
  from_one = c.lines-test.true;
  in_list = c.lines.invariant.left;
  lines = λ m h.
      let w = hints_within c.args.log.now c.lines.left m (hints_at c.args.log.now.hints c.lines.left)
      c.invariant.ensures c.lines-test.true c.lines.invariant.left refl h in
      (w.0, omega (arith, w.1, c.lines.invariant.long));
}

pub lines-preserved-then-index : goal.lines-preserved-then-index
lines-preserved-then-index c =
    let lt : c.lines.left - 1 < length c.lines.flags.items = omega (arith, c.lines-test.true, c.lines.invariant.left, c.lines.invariant.long) in
    record {
      marked = line_on c.args.log.now c.args.targets.now c.lines.left c.lines.flags.items c.mark_hints.new.flags.items
          (hints_at c.args.log.now.hints c.lines.left) c.invariant.ensures c.lines-test.true c.lines.invariant.left
          (read_at c.lines.flags.items (c.lines.left - 1) c.index.result.now false lt c.index.ensures ∙ c.if-index.true)
          refl c.mark_hints.ensures.adds c.lines.invariant.marked;
      long = c.mark_hints.ensures.long ∙ c.lines.invariant.long;
      left = omega (arith, c.lines.invariant.left);
    }

pub returns-clause-needed : goal.returns-clause-needed
returns-clause-needed c =
    all_needed c.args.log.now c.args.targets.now c.lines.left (marked c.lines.flags.items) c.invariant.ensures c.lines-test.false c.lines.invariant.marked
