use Rattle.std.proofs.Common.{◌≡◌, ◌∙◌, ◌<◌, ◌≤◌, ap, arith, false, length, replicate}
use Rattle.core_extract.proofs.Members.{read}
use Rattle.core_extract.proofs.Tasks.{size_some}
use Rattle.requirement_questions.proofs.Passing.{before_none, before_kept, before_next, before_marked}
use Rattle.requirement_questions.proofs.replacing.pass.Goals as goal

pub places-init : goal.places-init
places-init c =
    let task = c.args.task.now in
    let items = c.in_ok-marks.ensures.items_if_clones_equal (λ y h. h) in
    let count : c.len.result ≡ length task.order.items = omega (arith, c.len.ensures) in
    let within : c.min-at.result ≤ length task.order.items = omega (arith, c.min-at.ensures, c.len-2.ensures) in
    record {
      before = before_none task c.requires c.in_ok-marks.marks.items c.min-at.result (items ∙ ap (λ n. replicate n false) count) within;
      held = tt;
    }

pub with_one-requires : goal.with_one-requires
with_one-requires c =
    let task = c.args.task.now in
    let before = c.places.invariant.before in
    let low : c.places.at < length task.order.items = omega (arith, c.places-test.true, c.len-end.ensures) in
    record {
      task = c.requires;
      marks = before.are;
      kept = before_kept task c.requires c.places.marks.items c.places.at before low;
    }

pub mark-requires : goal.mark-requires
mark-requires c =
    let task = c.args.task.now in
    let low : c.places.at < length task.order.items = omega (arith, c.places-test.true, c.len-end.ensures) in
    record {
      task = c.requires;
      place = low;
      long = c.places.invariant.before.are.long;
    }

pub places-preserved : goal.places-preserved
places-preserved c =
    let task = c.args.task.now in
    let before = c.places.invariant.before in
    let low : c.places.at < length task.order.items = omega (arith, c.places-test.true, c.len-end.ensures) in
    let sized : c.places.at < length task.sizes.items = omega (arith, low, c.requires.long) in
    let size = read task.sizes.items c.places.at c.index.result.now 0 sized c.index.ensures in
    record {
      before = before_marked task c.requires c.places.marks.items c.places.at before low c.mark.new.marks.items c.index.result.now c.mark.ensures.long
          c.mark.ensures.added size;
      held = rw c.in-Some.is at c.in_ok-more.ensures;
    }

pub places-preserved-in_default : goal.places-preserved-in_default
places-preserved-in_default c =
    let task = c.args.task.now in
    let before = c.places.invariant.before in
    let low : c.places.at < length task.order.items = omega (arith, c.places-test.true, c.len-end.ensures) in
    record {
      before = before_next task c.requires c.places.marks.items c.places.at before low;
      held = c.places.invariant.held;
    }

pub overflow_add-at-in-places : goal.overflow_add-at-in-places
overflow_add-at-in-places c =
    let task = c.args.task.now in
    let before = c.places.invariant.before in
    let low : c.places.at < length task.order.items = omega (arith, c.places-test.true, c.len-end.ensures) in
    let sized : c.places.at < length task.sizes.items = omega (arith, low, c.requires.long) in
    let size = read task.sizes.items c.places.at c.index.result.now 0 sized c.index.ensures in
    let after = before_marked task c.requires c.places.marks.items c.places.at before low c.mark.new.marks.items c.index.result.now c.mark.ensures.long
    c.mark.ensures.added size in
    omega (arith, after.within, c.requires.few)

pub places-smaller : goal.places-smaller
places-smaller c =
    let task = c.args.task.now in
    let low : c.places.at < length task.order.items = omega (arith, c.places-test.true, c.len-end.ensures) in
    let sized : c.places.at < length task.sizes.items = omega (arith, low, c.requires.long) in
    let size = read task.sizes.items c.places.at c.index.result.now 0 sized c.index.ensures in
    let some = size_some task c.requires c.places.at low in
    omega (arith, low, size, some)
