use Rattle.std.proofs.Common.{refl}
use Rattle.enc_layout.specs.Letters.{Accepted}
use Rattle.unravel.specs.declared.assuming.Question.TheVariants as questions
use Rattle.unravel.specs.Putting.{up_to, list_of}
use Rattle.unravel.proofs.Putting.{kept_trans, ready_still, still_more, still_then}
use Rattle.unravel.proofs.Looked.{found_if, close_is, shows, some_rule}
use Rattle.unravel.proofs.accepting.end.Goals as goal

pub is_found-requires-clause-ready : goal.is_found-requires-clause-ready
is_found-requires-clause-ready c = ready_still c.requires.ready (still_more c.requires.ready.through c.in_ok-add_rest.ensures.more)

pub returns-then-not-found-clause-still : goal.returns-then-not-found-clause-still
returns-then-not-found-clause-still c = still_then (still_more c.requires.ready.through c.in_ok-add_rest.ensures.more) c.in_ok-found.ensures.still

pub returns-clause-still : goal.returns-clause-still
returns-clause-still c = still_then (still_more c.requires.ready.through c.in_ok-add_rest.ensures.more) c.in_ok-found.ensures.still

pub returns-clause-answer : goal.returns-clause-answer
returns-clause-answer c =
    let f = c.args.closure.now.formula in
    let kind = c.args.closure.now.kind in
    let k = c.args.depth in
    let i = c.is_found.new.inputs in
    let found = found_if f kind k questions.Accepted i.solver c.in_ok-found.found c.if-not-found.false c.in_ok-found.ensures.answer in
    let rows = c.in_ok-rows.rows.items in
    let is = close_is kind c.kind.result rows c.deref.result.now c.kind.ensures c.deref.ensures.value c.close_of.result c.close_of.ensures in
    shows f kind k i c.in_ok-found.ensures.still.through (Accepted k)
    found rows c.in_ok-rows.ensures.count c.in_ok-rows.ensures.rows c.close_of.result c.in-Some.close is c.in-Some.is

pub unreachable-requires : goal.unreachable-requires
unreachable-requires c =
    let f = c.args.closure.now.formula in
    let kind = c.args.closure.now.kind in
    let k = c.args.depth in
    let i = c.is_found.new.inputs in
    let found = found_if f kind k questions.Accepted i.solver c.in_ok-found.found c.if-not-found.false c.in_ok-found.ensures.answer in
    let whole = kept_trans (list_of (up_to f kind k))
    c.add_rest.new.inputs.solver.log.inputs i.solver.log.inputs c.in_ok-add_rest.ensures.whole c.in_ok-found.ensures.still.kept in
    let rows = c.in_ok-rows.rows.items in
    let is = close_is kind c.kind.result rows c.deref.result.now c.kind.ensures c.deref.ensures.value c.close_of.result c.close_of.ensures in
    some_rule f kind k i c.in_ok-found.ensures.still.through (Accepted k)
    found whole rows c.in_ok-rows.ensures.count c.in_ok-rows.ensures.rows refl c.close_of.result is c.in-None.is
