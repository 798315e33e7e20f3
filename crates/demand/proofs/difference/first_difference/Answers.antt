use Rattle.std.proofs.Common.{◌≡◌, inl, inr, sym, subst, arith, length}
use Rattle.std.proofs.lemmas.Bool.{cases_lt}
use Rattle.demand.specs.Values.{value_at}
use Rattle.demand.proofs.ValueLists.{difference_is, left_ends, right_ends, difference_of_same, equal, unequal, same_values}
use Rattle.demand.proofs.difference.first_difference.Goals as goal

pub loop-place-init : goal.loop-place-init
loop-place-init c = λ j lt. absurd (omega arith)

pub returns-then-left-place : goal.returns-then-left-place
returns-then-left-place c =
    let left = c.args.left.now in
    let right = c.args.right.now in
    let i = c.loop-place.place in
    sym (difference_is left right i (omega arith) (omega arith) c.loop-place.invariant (unequal (value_at left i) (value_at right i) c.if-left-place.true))

pub loop-place-preserved : goal.loop-place-preserved
loop-place-preserved c = λ j lt.
    let left = c.args.left.now in
    let right = c.args.right.now in
    let i = c.loop-place.place in
    elim (cases_lt j i) [
      | inl before ↦ c.loop-place.invariant j before
      | inr here ↦
          let e : i ≡ j = omega arith in
          subst (λ n. value_at left n ≡ value_at right n) e (equal (value_at left i) (value_at right i) c.if-left-place.false)
    ]

pub returns-then-left-right : goal.returns-then-left-right
returns-then-left-right c =
    let left = c.args.left.now in
    let right = c.args.right.now in
    elim (cases_lt (length left) (length right)) [
      | inl shorter ↦ sym (left_ends left right c.min-shorter.result (omega arith) (omega arith) (λ j lt. c.loop-place.invariant j (omega arith)))
      | inr longer ↦ sym (right_ends left right c.min-shorter.result (omega arith) (omega arith) (λ j lt. c.loop-place.invariant j (omega arith)))
    ]

pub returns : goal.returns
returns c =
    let left = c.args.left.now in
    let right = c.args.right.now in
    sym (difference_of_same left right (same_values left right c.if-left-right.false (λ j lt. c.loop-place.invariant j (omega arith))))
