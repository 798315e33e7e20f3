use Rattle.std.proofs.Common.{◌≡◌, arith, length}
use Rattle.core_extract.specs.Testing.{marked}
use Rattle.core_extract.proofs.Rounds.{going_first, going_none, under_left, going_left, under_taken, going_taken, taken_on, passed, last_within}
use Rattle.core_extract.proofs.passing.pass.Goals as goal

pub groups-init : goal.groups-init
groups-init g c = record {
  marks = c.requires.marks;
  under = going_first c.args.task.now c.requires.task (marked c.args.marks.now.items);
  going = going_none c.args.task.now c.requires.task (marked c.args.marks.now.items) c.args.settled;
  end = c.requires.within;
}

pub groups-preserved-in-Left : goal.groups-preserved-in-Left
groups-preserved-in-Left g c =
    let task = c.args.task.now in
    let is = c.requires.task in
    let first = marked c.args.marks.now.items in
    let before = marked c.groups.marks.items in
    let after = marked c.step.new.marks.items in
    let old = c.groups.invariant in
    let step = rw c.in-Left.is at c.in_ok-advance.ensures.step in
    record {
      marks = c.in_ok-advance.ensures.marks;
      under = under_left task is first before after c.groups.at old.under c.in-Left.next step;
      going = going_left task is first before after c.groups.at old.under c.groups.end c.args.settled c.in-Left.next c.groups.last step old.going;
      end = old.end;
    }

pub groups-preserved : goal.groups-preserved
groups-preserved g c =
    let task = c.args.task.now in
    let is = c.requires.task in
    let first = marked c.args.marks.now.items in
    let before = marked c.groups.marks.items in
    let after = marked c.step.new.marks.items in
    let old = c.groups.invariant in
    let step = rw c.in-Taken.is at c.in_ok-advance.ensures.step in
    let end : c.len-end.result ≡ length task.order.items = omega (arith, c.len-end.ensures) in
    record {
      marks = c.in_ok-advance.ensures.marks;
      under = under_taken task is first before after c.groups.at old.under c.in-Taken.next step;
      going = going_taken task is first before after c.groups.at old.under c.in-Taken.next step c.len-end.result c.args.settled end;
      end = omega (arith, end);
    }

pub groups-smaller-in-Left : goal.groups-smaller-in-Left
groups-smaller-in-Left g c =
    let step = rw c.in-Left.is at c.in_ok-advance.ensures.step in
    omega (arith, step.0, c.groups-test.true, c.groups.invariant.end)

pub groups-smaller : goal.groups-smaller
groups-smaller g c =
    let step = rw c.in-Taken.is at c.in_ok-advance.ensures.step in
    let on = taken_on c.args.task.now (marked c.groups.marks.items) (marked c.step.new.marks.items) c.groups.at c.in-Taken.next step in
    omega (arith, on, c.groups-test.true, c.groups.invariant.end)

pub returns-clause-passed : goal.returns-clause-passed
returns-clause-passed g c = passed c.args.task.now c.requires.task (marked c.args.marks.now.items) (marked c.groups.marks.items) c.groups.at c.groups.end
    c.args.settled c.groups.last c.groups.invariant.under c.groups.invariant.going (omega (arith, c.groups-test.false)) c.requires.settled

pub returns-clause-within : goal.returns-clause-within
returns-clause-within g c = last_within c.args.task.now c.requires.task (marked c.args.marks.now.items) (marked c.groups.marks.items)
    c.groups.at c.groups.end c.args.settled c.groups.last c.groups.invariant.under c.groups.invariant.going
