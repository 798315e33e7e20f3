use Rattle.std.proofs.Common.{◌≡◌, ◌<◌, Some, arith, length, get_or}
use Rattle.core_extract.specs.Testing.{IsFirstClosed, formula_of, marked}
use Rattle.core_extract.proofs.Members.{read}
use Rattle.core_extract.proofs.Tasks.{size_within}
use Rattle.core_extract.proofs.Marks.{added_marks}
use Rattle.core_extract.proofs.Rounds.{all_kept, index_within, place_within, place_taken, step_left, step_taken}
use Rattle.core_extract.proofs.passing.step.Goals as goal
use Rattle.core_extract.proofs.passing.step.Goals.{After-index-place}

pub test_group-requires-clause-group : goal.test_group-requires-clause-group
test_group-requires-clause-group g c κs within = record {
  is_task = c.requires.task;
  are_marks = c.requires.marks;
  few = omega (arith, c.in_ok-stop.ensures.few, c.requires.few);
  kept = all_kept (formula_of c.args.task.now) (marked c.args.marks.now.items) c.args.at c.in_ok-stop.stop c.gather.new.places.items c.in_ok-stop.ensures.next;
}

pub index-place-requires : goal.index-place-requires
index-place-requires g c =
    let first = rw c.in-Some.is at c.in_ok-first.ensures in
    omega (arith, index_within c.requires.task c.in_ok-found.ensures c.in_ok-stop.ensures.next c.in-Some.index first)

-- the first of the group that the formula can do without, and its place
first : (g : _) (c : After-index-place g) → IsFirstClosed c.in_ok-found.found.items (Some c.in-Some.index)
first g c = rw c.in-Some.is at c.in_ok-first.ensures

place_is : (g : _) (c : After-index-place g) → get_or c.gather.new.places.items c.in-Some.index 0 ≡ c.index-place.result.now
place_is g c =
    read c.gather.new.places.items c.in-Some.index c.index-place.result.now 0
    (index_within c.requires.task c.in_ok-found.ensures c.in_ok-stop.ensures.next c.in-Some.index (first g c)) c.index-place.ensures

inside : (g : _) (c : After-index-place g) → c.index-place.result.now < length c.args.task.now.order.items
inside g c = place_within c.requires.task c.in_ok-found.ensures c.in_ok-stop.ensures.next c.in-Some.index (first g c) c.index-place.result.now (place_is g c)

sized : (g : _) (c : After-index-place g) → c.index-place.result.now < length c.args.task.now.sizes.items
sized g c = omega (arith, inside g c, c.requires.task.long)

pub mark-requires-clause-place : goal.mark-requires-clause-place
mark-requires-clause-place g c = inside g (goal.at.mark-requires-clause-place g c).After-index-place

pub mark-requires-clause-long : goal.mark-requires-clause-long
mark-requires-clause-long g c = c.requires.marks.long

pub index-size-requires : goal.index-size-requires
index-size-requires g c = omega (arith, sized g (goal.at.index-size-requires g c).After-index-place)

pub overflow_add-result : goal.overflow_add-result
overflow_add-result g c =
    let p = (goal.at.overflow_add-result g c).After-index-place in
    omega (
      arith,
      read c.args.task.now.sizes.items c.index-place.result.now c.index-size.result.now 0 (sized g p) c.index-size.ensures,
      size_within c.args.task.now c.requires.task c.index-place.result.now (inside g p),
      c.requires.task.few,
    )

pub returns-clause-step : goal.returns-clause-step
returns-clause-step g c =
    let p = (goal.at.returns-clause-step g c).After-index-place in
    step_taken c.requires.task c.in_ok-found.ensures c.in_ok-stop.ensures.next c.in-Some.index (first g p) c.index-place.result.now (place_is g p)
    c.index-size.result.now c.mark.new.marks.items
    (read c.args.task.now.sizes.items c.index-place.result.now c.index-size.result.now 0 (sized g p) c.index-size.ensures) c.mark.ensures.added

pub returns-clause-marks : goal.returns-clause-marks
returns-clause-marks g c =
    let p = (goal.at.returns-clause-marks g c).After-index-place in
    let kept = (place_taken c.requires.task c.in_ok-found.ensures c.in_ok-stop.ensures.next c.in-Some.index (first g p) c.index-place.result.now
    (place_is g p)).0 in
    added_marks c.args.task.now c.requires.task c.args.marks.now.items c.mark.new.marks.items c.index-place.result.now c.requires.marks kept
    c.mark.ensures.long c.mark.ensures.added

pub returns-in_default-clause-step : goal.returns-in_default-clause-step
returns-in_default-clause-step g c =
    step_left c.requires.task c.in_ok-found.ensures c.in_ok-stop.ensures.next c.in_ok-stop.ensures.on c.in_ok-stop.ensures.within
    c.in_ok-stop.ensures.clear (rw c.in_default.is at c.in_ok-first.ensures)
