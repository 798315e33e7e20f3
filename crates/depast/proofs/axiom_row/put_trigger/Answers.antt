use Rattle.std.proofs.Common.{refl}
use Rattle.std.proofs.lemmas.Result.{on_ok_weaker}
use Rattle.depast.proofs.Rows.{reads_more}
use Rattle.depast.proofs.axiom_row.put_trigger.Goals as goal

pub returns : goal.returns
returns c =
    on_ok_weaker c.put_end.result (λ ends l d e f r s w v h.
    let first = c.in_ok-put_same.ensures l e r _ v h in
    let second = reads_more l c.put_same.new.axioms.items _ c.push.new.self.items r _ _ c.in_ok-push.ensures.items first refl in
    let third = c.in_ok-put_same-2.ensures l e r _ v second in
    let fourth = c.in_ok-put_otherwise.ensures l _ _ r _ third in
    let fifth = c.in_ok-put_same_joined.ensures l d e r _ w v fourth in
    ends l _ _ _ _ f r s fifth) c.put_end.ensures
