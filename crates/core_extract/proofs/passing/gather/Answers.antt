use Rattle.std.proofs.Common.{◌≡◌, ◌+◌, ◌≤◌, ◌<◌, ◌∷◌, ◌∙◌, [], ap, arith, false, true, get_or, length, length-append, subst, sym}
use Rattle.core_extract.specs.Testing.{AreNext, formula_of, marked}
use Rattle.core_extract.proofs.Members.{read}
use Rattle.core_extract.proofs.Tasks.{size_some}
use Rattle.core_extract.proofs.Rounds.{next_none, passes_over, clear_over, ends_within, is_next, clear_next_to}
use Rattle.core_extract.proofs.passing.gather.Goals as goal
use Rattle.core_extract.proofs.passing.gather.Goals.{After-index, After-index-then-index}

pub places-init : goal.places-init
places-init c = record {
  next = next_none (formula_of c.args.task.now) (marked c.args.marks.now.items) c.args.at c.args.places.now.items c.requires.none;
  clear = c.requires.clear;
  on = omega arith;
  within = omega (arith, c.requires.before, c.requires.end);
  few = omega (arith, c.requires.none);
}

-- the place is one of the order's
low : (c : After-index) → c.places.stop < length c.args.task.now.order.items
low c = omega (arith, c.places-test.true, c.requires.end)

pub places-preserved : goal.places-preserved
places-preserved c =
    let p = (goal.at.places-preserved c).After-index in
    let marks = c.args.marks.now.items in
    let old = c.places.invariant in
    let here = read marks c.places.stop c.index.result.now false (omega (arith, low p, c.requires.marks.long)) c.index.ensures ∙ c.if-index.false in
    let items = c.in_ok-push.ensures.items in
    let longer = ap length items ∙ length-append c.places.places.items (c.places.stop ∷ []) in
    record {
      next = subst (AreNext (formula_of c.args.task.now) (marked marks) c.args.at (c.places.stop + 1)) (sym items)
          (is_next c.requires.task c.requires.marks old.next old.clear old.on (low p) here);
      clear = clear_next_to c.requires.task c.requires.marks old.next old.clear old.on (low p) here;
      on = omega (arith, old.on);
      within = omega (arith, low p);
      few = omega (arith, longer, c.if-len-workers.true, c.len.ensures);
    }

-- a marked place, how much is under it, and where that ends
marked_low : (c : After-index-then-index) → c.places.stop < length c.args.task.now.order.items
marked_low c = omega (arith, c.places-test.true, c.requires.end)

here : (c : After-index-then-index) → marked c.args.marks.now.items c.places.stop ≡ true
here c = read c.args.marks.now.items c.places.stop c.index.result.now false (omega (arith, marked_low c, c.requires.marks.long)) c.index.ensures
    ∙ c.if-index.true

size : (c : After-index-then-index) → get_or c.args.task.now.sizes.items c.places.stop 0 ≡ c.index-then-index.result.now
size c = read c.args.task.now.sizes.items c.places.stop c.index-then-index.result.now 0 (omega (arith, marked_low c, c.requires.task.long))
    c.index-then-index.ensures

ends : (c : After-index-then-index) → c.places.stop + c.index-then-index.result.now ≤ length c.args.task.now.order.items
ends c =
    let old = c.places.invariant in
    ends_within c.requires.task c.requires.marks old.next old.clear old.on (marked_low c) c.index-then-index.result.now (size c) (here c)

pub overflow_add-stop : goal.overflow_add-stop
overflow_add-stop c = omega (arith, ends (goal.at.overflow_add-stop c).After-index-then-index, c.requires.task.few)

pub places-smaller-then-index : goal.places-smaller-then-index
places-smaller-then-index c =
    let p = (goal.at.places-smaller-then-index c).After-index-then-index in
    omega (arith, marked_low p, size p, size_some c.args.task.now c.requires.task c.places.stop (marked_low p))

pub places-preserved-then-index : goal.places-preserved-then-index
places-preserved-then-index c =
    let p = (goal.at.places-preserved-then-index c).After-index-then-index in
    let old = c.places.invariant in
    let under = c.index-then-index.result.now in
    record {
      next = passes_over c.requires.task c.requires.marks old.next old.clear old.on (marked_low p) under (size p) (here p);
      clear = clear_over c.requires.task c.requires.marks old.next old.clear old.on (marked_low p) under (size p) (here p);
      on = omega (arith, old.on);
      within = ends p;
      few = old.few;
    }
