use Rattle.std.proofs.Common.{◌∙◌, ◌<◌, get_or, sym, subst, arith}
use Rattle.batch_run.specs.Grouping.{AreOutcomes}
use Rattle.batch_run.proofs.Grouped.{next_lines, all_answered, none_left}
use Rattle.batch_run.proofs.groups.answers.Goals as goal

pub groups-preserved : goal.groups-preserved
groups-preserved g c =
    let before = c.groups.rest in
    let after = c.fill-in-groups.new.rest in
    let done = c.decide_groups.ensures in
    let filled = c.in_ok-fill-2.ensures in
    let lanes = c.decide_groups.new.lanes.items in
    let old = c.groups.invariant in
    record {
      way = next_lines c.args.kind c.args.asked c.args.text.now c.groups.answers.items lanes c.groups.lines.items before.number before.text.now
          c.collect.new.answers.items c.fill-in-groups.new.lines.items after.number after.text.now
          old.way (omega (arith, done.count, old.lanes, c.requires.some))
          (λ worker d low. subst (λ n. AreOutcomes c.args.kind c.args.asked c.groups.lines.items worker n (get_or lanes worker d))
          (sym (done.count ∙ old.lanes)) (done.done worker d (subst (λ n. worker < n) done.count low)))
          c.in_ok-collect.ensures filled.lines filled.all filled.room filled.pieces;
      lanes = done.count ∙ old.lanes;
    }

pub returns : goal.returns
returns g c =
    let lines = c.groups.lines in
    all_answered c.args.kind c.args.asked c.args.text.now c.groups.answers.items lines.items c.groups.rest.number c.groups.rest.text.now
    (none_left lines.items _ lines.ok.0 (sym c.is_empty.ensures ∙ c.groups-test.false)) c.groups.invariant.way
