use Rattle.std.proofs.Common.{ℕ, ◌+◌, ◌≤◌, List, length, take, ap, subst, arith}
use Rattle.std.proofs.lemmas.List.{take_all, length-take-le}
use Rattle.cert_text.specs.declared.scanning.Head.{Head}
use Rattle.cert_text.specs.declared.scanning.Place.{Place}
use Rattle.cert_text.proofs.Machine.{left_none, left_some}
use Rattle.cert_text.proofs.Forming.{IsAt, at_start, at_range, at_lines, at_fault, at_byte, at_end, at_none}
use Rattle.cert_text.proofs.Skips.{at_behind}
use Rattle.cert_text.proofs.scanning.form.Goals as goal

pub bytes-init : goal.bytes-init
bytes-init c = (omega arith, at_start)

pub advance-requires-clause-range : goal.advance-requires-clause-range
advance-requires-clause-range c = at_range (take c.bytes.index c.args.bytes.now) c.bytes.left.now c.bytes.place c.bytes.invariant.1

pub advance-requires-clause-lines : goal.advance-requires-clause-lines
advance-requires-clause-lines c none =
    let before = take c.bytes.index c.args.bytes.now in
    let low = at_lines before c.bytes.left.now c.bytes.place c.bytes.invariant.1 none in
    let count = length-take-le c.bytes.index c.args.bytes.now c.bytes.invariant.0 in
    omega (arith, low, count, c.bytes-test.true)

pub returns-in_default : goal.returns-in_default
returns-in_default c =
    at_fault c.args.bytes.now c.bytes.left.now c.bytes.place c.bytes.index c.bytes-test.true c.bytes.invariant.1 c.in_default.ensures

pub bytes-preserved : goal.bytes-preserved
bytes-preserved c =
    let at = at_byte c.args.bytes.now c.bytes.left.now c.in-Some.found.0.now c.bytes.place c.in-Some.found.1 c.bytes.index c.bytes-test.true c.bytes.invariant.1
    c.in-Some.ensures in (
      c.skip-index.ensures.within,
      at_behind c.args.bytes.now c.in-Some.found.0.now c.in-Some.found.1 (c.bytes.index + 1)
          c.skip-index.result c.skip-index.ensures.from c.skip-index.ensures.same at,
    )

-- the loop has gone to the end
all_read : (bytes left : List ℕ) (place : Place) (i : ℕ) → i ≤ length bytes → length bytes ≤ i → IsAt (take i bytes) left place → IsAt bytes left place
all_read bytes left place i within end at = subst (λ w. IsAt w left place) (take_all i bytes end) at

pub returns-then-not-is_empty : goal.returns-then-not-is_empty
returns-then-not-is_empty c =
    let at = all_read c.args.bytes.now c.bytes.left.now c.bytes.place c.bytes.index c.bytes.invariant.0 c.bytes-test.false c.bytes.invariant.1 in
    at_none c.args.bytes.now c.bytes.left.now c.bytes.place
    at (λ h none end. left_some c.bytes.left.now c.is_empty.result c.is_empty.ensures c.if-not-is_empty.true none)

pub returns-in_default-place : goal.returns-in_default-place
returns-in_default-place c =
    let at = all_read c.args.bytes.now c.bytes.left.now c.bytes.place c.bytes.index c.bytes.invariant.0 c.bytes-test.false c.bytes.invariant.1 in
    at_none c.args.bytes.now c.bytes.left.now c.bytes.place at (λ h none end. c.in_default-place.not-End h end)

pub returns : goal.returns
returns c =
    let at = all_read c.args.bytes.now c.bytes.left.now c.bytes.place c.bytes.index c.bytes.invariant.0 c.bytes-test.false c.bytes.invariant.1 in
    let none = left_none c.bytes.left.now c.is_empty.result c.is_empty.ensures c.if-not-is_empty.false in
    let whole = at_end c.args.bytes.now c.bytes.left.now c.bytes.place c.in-End.head at none c.in-End.is in
    (whole.0, whole.1, ap (λ (h : Head). record { version = h.version; kind = h.kind; depth = h.depth; lines = h.lines }) whole.2)
