use Rattle.std.proofs.Common.{◌+◌, Some, take, refl, sym, ap, ◌∙◌, arith, length-append}
use Rattle.std.proofs.lemmas.List.{take_all, length-take-le}
use Rattle.cert_text.specs.Passes.{small_move, small_run}
use Rattle.cert_text.proofs.Machine.{run_more, left_none}
use Rattle.cert_text.proofs.Runs.{run_behind, led_range, led_lines}
use Rattle.cert_text.proofs.passing.pass.Goals as goal

pub bytes-init : goal.bytes-init
bytes-init c = (omega arith, refl)

pub advance-requires-clause-range : goal.advance-requires-clause-range
advance-requires-clause-range c =
    led_range c.requires.0 (take c.bytes.index c.args.bytes.now) c.args.first.now c.bytes.left.now c.args.from c.bytes.place c.requires.1 c.bytes.invariant.1

pub advance-requires-clause-lines : goal.advance-requires-clause-lines
advance-requires-clause-lines c none =
    let read = take c.bytes.index c.args.bytes.now in
    let low = led_lines c.requires.0 read c.args.first.now c.bytes.left.now c.args.from c.bytes.place c.requires.1 c.bytes.invariant.1 none in
    omega (arith, low, length-append c.requires.0 read, length-take-le c.bytes.index c.args.bytes.now c.bytes.invariant.0, c.bytes-test.true, c.requires.2)

pub bytes-preserved : goal.bytes-preserved
bytes-preserved c =
    let bytes = c.args.bytes.now in
    let one = run_more small_move (c.args.first.now, c.args.from) (c.bytes.left.now, c.bytes.place) (c.in-Some.found.0.now, c.in-Some.found.1)
    bytes c.bytes.index c.bytes-test.true c.bytes.invariant.1 c.in-Some.ensures in (
      c.skip-index.ensures.within,
      run_behind bytes c.requires.0 c.args.first.now c.in-Some.found.0.now c.args.from c.in-Some.found.1 (c.bytes.index + 1)
          c.skip-index.result c.skip-index.ensures.from c.skip-index.ensures.same c.requires.1 one,
    )

pub returns : goal.returns
returns c =
    let none = left_none c.bytes.left.now c.is_empty.result c.is_empty.ensures c.if-not-is_empty.false in
    let all = take_all c.bytes.index c.args.bytes.now c.bytes-test.false in
    ap (small_run c.args.first.now c.args.from) (sym all) ∙ c.bytes.invariant.1 ∙ ap (λ l. Some (l, c.bytes.place)) none
