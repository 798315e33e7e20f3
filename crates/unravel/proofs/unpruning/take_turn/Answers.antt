use Rattle.std.proofs.Common.{sym, ◌∙◌}
use Rattle.enc_layout.specs.Letters.{Unpruned}
use Rattle.unravel.specs.declared.assuming.Question.TheVariants as questions
use Rattle.unravel.proofs.Putting.{still_more, still_then}
use Rattle.unravel.proofs.Looked.{found_if, prunings_are, unpruned}
use Rattle.unravel.proofs.unpruning.take_turn.Goals as goal

pub returns-then-len-eq0-clause-answer : goal.returns-then-len-eq0-clause-answer
returns-then-len-eq0-clause-answer c =
    let f = c.args.closure.now.formula in
    let kind = c.args.closure.now.kind in
    let k = c.args.depth in
    let i = c.is_found.new.inputs in
    let found = found_if f kind k questions.Unpruned i.solver c.in_ok-found.found c.if-not-found.false c.in_ok-found.ensures.answer in
    let rows = c.in_ok-rows.rows.items in
    let pruned = c.in_ok-pruned.pruned.items in
    let are = prunings_are kind c.kind.result rows c.deref.result.now c.kind.ensures c.deref.ensures.value pruned c.in_ok-pruned.ensures in
    unpruned f kind k i c.in_ok-found.ensures.still.through Unpruned found rows c.in_ok-rows.ensures.count c.in_ok-rows.ensures.rows pruned are
    (sym c.in_ok-pruned.pruned.ok.0 ∙ (sym c.len.ensures ∙ c.if-len-eq0.true))

pub returns-clause-still : goal.returns-clause-still
returns-clause-still c = still_then c.in_ok-found.ensures.still (still_more c.in_ok-found.ensures.still.through c.in_ok-add_prunings.ensures)
