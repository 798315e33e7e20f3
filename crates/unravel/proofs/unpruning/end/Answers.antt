use Rattle.std.proofs.Common.{refl}
use Rattle.enc_layout.specs.Letters.{Unpruned}
use Rattle.unravel.specs.Putting.{up_to, list_of}
use Rattle.unravel.proofs.Putting.{kept_trans, ready_still, still_more, still_then}
use Rattle.unravel.proofs.Looked.{unpruned_answer, whole_unpruned}
use Rattle.unravel.proofs.unpruning.end.Goals as goal

pub is_found-requires-clause-ready : goal.is_found-requires-clause-ready
is_found-requires-clause-ready c = ready_still c.requires.ready (still_more c.requires.ready.through c.in_ok-add_rest.ensures.more)

pub returns-clause-still : goal.returns-clause-still
returns-clause-still c = still_then (still_more c.requires.ready.through c.in_ok-add_rest.ensures.more) c.in_ok-found.ensures.still

pub returns-clause-answer : goal.returns-clause-answer
returns-clause-answer c =
    let f = c.args.closure.now.formula in
    let kind = c.args.closure.now.kind in
    let k = c.args.depth in
    let i = c.is_found.new.inputs in
    let whole = kept_trans (list_of (up_to f kind k))
    c.add_rest.new.inputs.solver.log.inputs i.solver.log.inputs c.in_ok-add_rest.ensures.whole c.in_ok-found.ensures.still.kept in
    unpruned_answer f kind k i.solver c.in_ok-found.found (λ found. whole_unpruned f kind k i c.in_ok-found.ensures.still.through Unpruned found whole refl)
    c.in_ok-found.ensures.answer
