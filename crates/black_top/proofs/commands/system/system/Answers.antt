use Rattle.report.specs.declared.fault.Fault.TheVariants as faults
use Rattle.black_top.specs.Answer.{refused}
use Rattle.black_top.specs.System.{IsSystemAnswer, unparted}
use Rattle.black_top.proofs.Showing.{shown}
use Rattle.black_top.proofs.SystemReading.{small_places, text_shown}
use Rattle.black_top.proofs.commands.system.system.Goals as goal

pub returns-in_default : goal.returns-in_default
returns-in_default c = shown (IsSystemAnswer c.args.options.depth c.args.options.cert c.args.input.now) (refused faults.NoSeparator) c.refusal.result
    (unparted c.in_default.ensures) c.refusal.ensures

pub returns-then-parts-gt-MAX_TEXT : goal.returns-then-parts-gt-MAX_TEXT
returns-then-parts-gt-MAX_TEXT c =
    text_shown c.args.options.depth c.args.options.cert c.in-Some.parts c.refusal-then-parts-gt-MAX_TEXT.result c.args.input.now c.in-Some.ensures
    c.if-parts-gt-MAX_TEXT.true c.refusal-then-parts-gt-MAX_TEXT.ensures

pub read_start-requires-clause-places : goal.read_start-requires-clause-places
read_start-requires-clause-places c = small_places c.args.input.now c.in-Some.parts c.in-Some.ensures c.if-parts-gt-MAX_TEXT.false
