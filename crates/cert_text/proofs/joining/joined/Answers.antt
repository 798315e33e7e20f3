use Rattle.std.proofs.Common.{◌≡◌, ◌+◌, ◌<◌, length, Some, subst, sym, arith, rules}
use Rattle.cert_text.specs.Passes.{IsPassed, with_lines}
use Rattle.cert_text.specs.declared.scanning.Place.TheVariants as places
use Rattle.cert_text.proofs.Joins.{came_to, at_join, join_part, join_lines, join_end, whole_text}
use Rattle.cert_text.proofs.joining.joined.Goals as goal

pub overflow_add-lines : goal.overflow_add-lines
overflow_add-lines c =
    let bytes = c.args.bytes.now in
    let piece = c.index-piece.result.now in
    let found = c.in-Some-Part.found in
    let is : piece.came ≡ Some (places.Part found) = search rules in
    let low : c.pieces.index < length c.args.pieces.now.items = omega (arith, c.pieces-test.true, c.len-index-end.ensures) in
    let passed = subst (IsPassed bytes c.args.head) (sym c.index-piece.ensures) (c.requires.passed c.pieces.index piece low) in
    let came = at_join bytes c.args.head piece (places.Part found) c.pieces.at c.if-piece-at.false
    (came_to bytes c.args.head piece (places.Part found) passed is) in
    let led = join_part bytes c.args.head found c.pieces.at piece.to c.pieces.lines c.requires.none c.if-piece-at-2.false c.pieces.invariant.1 came
    (c.is_under.ensures (search rules)) in
    let few : length bytes < 18446744073709551616 = search rules in
    omega (arith, few, join_lines bytes (places.Part (with_lines c.args.head (c.pieces.lines + found.lines))) piece.to c.if-piece-bytes.false led)

pub pieces-preserved : goal.pieces-preserved
pieces-preserved c =
    let bytes = c.args.bytes.now in
    let piece = c.index-piece.result.now in
    let found = c.in-Some-Part.found in
    let is : piece.came ≡ Some (places.Part found) = search rules in
    let low : c.pieces.index < length c.args.pieces.now.items = omega (arith, c.pieces-test.true, c.len-index-end.ensures) in
    let passed = subst (IsPassed bytes c.args.head) (sym c.index-piece.ensures) (c.requires.passed c.pieces.index piece low) in
    let came = at_join bytes c.args.head piece (places.Part found) c.pieces.at c.if-piece-at.false
    (came_to bytes c.args.head piece (places.Part found) passed is) in
    let led = join_part bytes c.args.head found c.pieces.at piece.to c.pieces.lines c.requires.none c.if-piece-at-2.false c.pieces.invariant.1 came
    (c.is_under.ensures (search rules)) in
    (c.if-piece-bytes.false, led)

pub overflow_add-result : goal.overflow_add-result
overflow_add-result c =
    let bytes = c.args.bytes.now in
    let piece = c.index-piece.result.now in
    let found = c.in-Some-End.found in
    let is : piece.came ≡ Some (places.End found) = search rules in
    let low : c.pieces.index < length c.args.pieces.now.items = omega (arith, c.pieces-test.true, c.len-index-end.ensures) in
    let passed = subst (IsPassed bytes c.args.head) (sym c.index-piece.ensures) (c.requires.passed c.pieces.index piece low) in
    let came = at_join bytes c.args.head piece (places.End found) c.pieces.at c.if-piece-at.false
    (came_to bytes c.args.head piece (places.End found) passed is) in
    let led = join_end bytes c.args.head found c.pieces.at piece.to c.pieces.lines c.requires.none c.if-piece-at-2.false c.pieces.invariant.1 came in
    let few : length bytes < 18446744073709551616 = search rules in
    omega (arith, few, join_lines bytes (places.End (with_lines found (c.pieces.lines + found.lines))) piece.to c.if-piece-bytes.false led)

pub returns-in-Some-End : goal.returns-in-Some-End
returns-in-Some-End c =
    let bytes = c.args.bytes.now in
    let piece = c.index-piece.result.now in
    let found = c.in-Some-End.found in
    let is : piece.came ≡ Some (places.End found) = search rules in
    let low : c.pieces.index < length c.args.pieces.now.items = omega (arith, c.pieces-test.true, c.len-index-end.ensures) in
    let passed = subst (IsPassed bytes c.args.head) (sym c.index-piece.ensures) (c.requires.passed c.pieces.index piece low) in
    let came = at_join bytes c.args.head piece (places.End found) c.pieces.at c.if-piece-at.false
    (came_to bytes c.args.head piece (places.End found) passed is) in
    let led = join_end bytes c.args.head found c.pieces.at piece.to c.pieces.lines c.requires.none c.if-piece-at-2.false c.pieces.invariant.1 came in
    whole_text bytes (with_lines found (c.pieces.lines + found.lines)) piece.to (omega (arith, c.if-piece-bytes-2.true)) led
