use Rattle.std.proofs.Common.{◌∷◌, ◌++◌, [], Some, None, subst, sym, ◌∙◌, ap, append_assoc}
use Rattle.std.proofs.lemmas.List.{append-nil}
use Rattle.ltl_lexer.specs.Tokens.{Advances, AreTokens}
use Rattle.ltl_lexer.proofs.Cursors.{next_shorter, one_more}
use Rattle.ltl_lexer.proofs.cursor.tokens.Goals as goal

pub loop-next-smaller : goal.loop-next-smaller
loop-next-smaller c =
    let a = subst (λ r. Advances c.loop-next.cursor (Some r) c.next.new.self) c.in-Ok.is c.in-Some.ensures.moves in
    next_shorter c.loop-next.cursor.place c.loop-next.cursor.rest c.in-Ok.token c.next.new.self.rest a.0

pub loop-next-preserved : goal.loop-next-preserved
loop-next-preserved c ts f more =
    let a = subst (λ r. Advances c.loop-next.cursor (Some r) c.next.new.self) c.in-Ok.is c.in-Some.ensures.moves in
    let all = c.loop-next.invariant (c.in-Ok.token ∷ ts) f
    (one_more c.loop-next.cursor.place c.next.new.self.place c.loop-next.cursor.rest c.next.new.self.rest c.in-Ok.token a.0 a.1 ts f more) in
    subst (λ z. AreTokens 0 c.args.text.now z f)
    (sym (ap (λ z. z ++ ts) c.in_ok-push-in-Ok.ensures.items ∙ append_assoc c.loop-next.found.items (c.in-Ok.token ∷ []) ts)) all

pub returns-in-Err-clause-err : goal.returns-in-Err-clause-err
returns-in-Err-clause-err c =
    let a = subst (λ r. Advances c.loop-next.cursor (Some r) c.next.new.self) c.in-Err.is c.in-Some.ensures.moves in
    (c.loop-next.found.items ++ [], c.loop-next.invariant [] (Some (c.in-Err.fault.byte)) a.0)

pub returns-clause-ok : goal.returns-clause-ok
returns-clause-ok c =
    subst (λ z. AreTokens 0 c.args.text.now z None) (append-nil c.loop-next.found.items) (c.loop-next.invariant [] None c.in_default.ensures.moves.0)
