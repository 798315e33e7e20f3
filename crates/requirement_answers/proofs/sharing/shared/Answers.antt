use Rattle.std.proofs.Common.{◌∙◌, ℕ, ◌<◌, length, get_or, Result, IfOk, sym, subst, rules}
use Rattle.std.specs.Global.{Vec}
use Rattle.std.specs.List.{All}
use Rattle.std.specs.declared.alloc.AllocError.{AllocError}
use Rattle.std.specs.Fork.{slice_chunk}
use Rattle.requirement_document.specs.Values.{document_in}
use Rattle.requirement_answers.specs.declared.asking.Reply.{Reply}
use Rattle.requirement_answers.specs.Inner.{IsAbout, AreReplies}
use Rattle.requirement_answers.proofs.Shared.{about_part, shared_out}
use Rattle.requirement_answers.proofs.sharing.shared.Goals as goal
use Rattle.requirement_answers.proofs.sharing.shared.Goals.{After-joined}

pub map_chunks-requires-clause-accepts : goal.map_chunks-requires-clause-accepts
map_chunks-requires-clause-accepts g c κs within start p chunk κs' pointer same ranges long u v w κ =
    let d = document_in c.args.document.now in
    (c.requires.left, subst (All (IsAbout d)) (sym chunk.value) (about_part d start c.args.size c.args.asks.now c.requires.about))

each : (g : _) (c : After-joined g) (n : ℕ) (e : Result (Vec Reply) AllocError) → n < length c.in_ok-pieces.pieces.items
    → IfOk (get_or c.in_ok-pieces.pieces.items n e)
    (λ v. AreReplies (document_in c.args.document.now) c.args.left.now (slice_chunk c.args.asks.now c.args.size n) v.items)
each g c n e lt =
    let d = document_in c.args.document.now in
    let left = c.args.left.now in
    let r = get_or c.in_ok-pieces.pieces.items n e in
    let k = (c.in_ok-pieces.ensures.each n e lt).1 in
    let met : IfOk r (λ v. AreReplies d left k.argument.now v.items) = search rules in
    subst (λ xs. IfOk r (λ v. AreReplies d left xs v.items)) k.argument_is.value met

pub returns : goal.returns
returns g c =
    shared_out (document_in c.args.document.now) c.args.left.now c.args.asks.now c.args.size c.in_ok-pieces.pieces.items (each g c) c.requires.size
    (sym c.in_ok-pieces.pieces.ok.0 ∙ c.in_ok-pieces.ensures.len) c.joined.result
    c.joined.ensures
