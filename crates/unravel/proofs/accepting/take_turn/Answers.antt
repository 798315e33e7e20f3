use Rattle.enc_layout.specs.Letters.{Accepted}
use Rattle.unravel.specs.declared.assuming.Question.TheVariants as questions
use Rattle.unravel.proofs.Putting.{still_more, still_then}
use Rattle.unravel.proofs.Looked.{found_if, close_is, shows}
use Rattle.unravel.proofs.accepting.take_turn.Goals as goal

pub returns-in-Some-clause-answer : goal.returns-in-Some-clause-answer
returns-in-Some-clause-answer c =
    let f = c.args.closure.now.formula in
    let kind = c.args.closure.now.kind in
    let k = c.args.depth in
    let i = c.is_found.new.inputs in
    let found = found_if f kind k questions.Accepted i.solver c.in_ok-found.found c.if-not-found.false c.in_ok-found.ensures.answer in
    let rows = c.in_ok-rows.rows.items in
    let is = close_is kind c.kind.result rows c.deref.result.now c.kind.ensures c.deref.ensures.value c.close_of.result c.close_of.ensures in
    shows f kind k i c.in_ok-found.ensures.still.through (Accepted k)
    found rows c.in_ok-rows.ensures.count c.in_ok-rows.ensures.rows c.close_of.result c.in-Some.close is c.in-Some.is

pub returns-clause-still : goal.returns-clause-still
returns-clause-still c = still_then c.in_ok-found.ensures.still (still_more c.in_ok-found.ensures.still.through c.in_ok-add_constraints-in-None.ensures)
