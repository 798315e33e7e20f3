use Rattle.report.specs.declared.fault.Fault.TheVariants as faults
use Rattle.black_top.specs.Answer.{refused, batched}
use Rattle.black_top.specs.Batch.{IsBatched, too_many}
use Rattle.black_top.proofs.Batched.{lines_answered}
use Rattle.black_top.proofs.Showing.{shown}
use Rattle.black_top.proofs.commands.batch.batch.Goals as goal

pub returns-then-text-gt-MAX_BATCH : goal.returns-then-text-gt-MAX_BATCH
returns-then-text-gt-MAX_BATCH g c = shown (IsBatched c.args.options.kind c.args.options.depth c.args.text.now) (refused faults.Batch) c.refusal.result
    (too_many c.if-text-gt-MAX_BATCH.true) c.refusal.ensures

pub returns : goal.returns
returns g c =
    let kind = c.args.options.kind in
    let wanted = c.args.options.depth in
    let text = c.args.text.now in
    shown (IsBatched kind wanted text) (batched c.deref.result.now) c.batched.result
    (lines_answered kind wanted text c.unwrap_or-asked.result c.deref.result.now c.in_ok-found.found.items c.unwrap_or-asked.ensures
    c.if-text-gt-MAX_BATCH.false c.in_ok-found.ensures c.deref.ensures.value) c.batched.ensures
