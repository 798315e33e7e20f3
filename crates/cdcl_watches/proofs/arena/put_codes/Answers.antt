use Rattle.std.proofs.Common.{◌≡◌, length, take, sym, ◌∙◌, subst, arith}
use Rattle.std.proofs.lemmas.List.{take_at}
use Rattle.cdcl_watches.specs.Watching.{code}
use Rattle.cdcl_watches.proofs.Turned.{turned_more}
use Rattle.cdcl_watches.proofs.arena.put_codes.Goals as goal

pub returns-in_err-push-clause-kept : goal.returns-in_err-push-clause-kept
returns-in_err-push-clause-kept c =
    let old = c.args.items.now.items in
    subst (λ ys. take (length old) ys ≡ old) (sym (c.in_err-push.ensures.items ∙ c.loop-place.invariant)) (take_at old _ (length old) (omega arith))

pub loop-place-preserved : goal.loop-place-preserved
loop-place-preserved c =
    turned_more code c.args.row.now c.args.items.now.items c.loop-place.items.items c.push.new.self.items c.loop-place.place c.place_of-next.result
    c.encode.result.0 _
    (omega (arith, c.loop-place-test.true)) c.loop-place.invariant c.place_of-next.ensures c.encode.ensures c.in_ok-push.ensures.items
