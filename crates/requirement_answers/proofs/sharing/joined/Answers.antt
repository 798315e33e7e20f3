use Rattle.std.proofs.Common.{◌≡◌, ◌∙◌, [], ◌∷◌, ◌++◌, length, sym, ap, subst, append_assoc, arith}
use Rattle.std.specs.Vec.Iter.{into_iter_items}
use Rattle.requirement_answers.specs.Inner.{AreJoined}
use Rattle.requirement_answers.proofs.Shared.{piece_more}
use Rattle.requirement_answers.proofs.sharing.joined.Goals as goal

pub pieces-preserved : goal.pieces-preserved
pieces-preserved c =
    let at = c.pieces in
    let piece = c.in-Some.piece in
    let steps : into_iter_items at.piece-iterator ≡ piece ∷ into_iter_items c.next.new.self = c.in-Some.ensures.steps.0 in
    record {
      order = append_assoc at.yielded (piece ∷ []) _ ∙ (ap (λ xs. at.yielded ++ xs) (sym steps) ∙ at.invariant.order);
      so_far = subst (λ r. AreJoined (at.yielded ++ r ∷ []) c.append.new.self.items) (sym c.in_ok-whole.was)
          (piece_more at.yielded c.in_ok-whole.whole at.found.items c.append.new.self.items at.invariant.so_far c.in_ok-append.ensures.items);
      left = let was = at.invariant.left in let gone = c.in-Some.ensures.steps.1 in let short = ap length steps in omega (arith, was, gone, short);
    }
