use Rattle.std.proofs.Common.{length, subst, sym}
use Rattle.std.proofs.lemmas.List.Elements.{All-contains}
use Rattle.std.proofs.lemmas.Result.{IfOk-weaker}
use Rattle.cdcl_propagate.specs.Visit.{HaveSame}
use Rattle.cdcl_state.specs.Gathered.{HasRoom, IsPut}
use Rattle.cdcl_state.proofs.Gathering.{put_same}
use Rattle.cdcl_state.proofs.gather.put.Goals as goal

pub put_apart-requires-clause-fits : goal.put_apart-requires-clause-fits
put_apart-requires-clause-fits c = λ k d below. (c.requires k d below).list

pub put_apart-requires-2-clause-fits : goal.put_apart-requires-2-clause-fits
put_apart-requires-2-clause-fits c = λ k d below.
    let same = subst (HaveSame c.args.clause.now) (sym c.deref.ensures.value) c.in_ok-distinct.ensures.same in
    (All-contains (HasRoom (length c.args.marks.now.stamps) (length c.args.watches.now.lists)) c.args.clause.now _ c.requires (same.back k d below)).list

pub returns-clause-added : goal.returns-clause-added
returns-clause-added c =
    let old = c.args.watches.now in
    let new = c.put_apart-2.new.watches in
    let same = subst (HaveSame c.args.clause.now) (sym c.deref.ensures.value) c.in_ok-distinct.ensures.same in
    IfOk-weaker c.put_apart-2.result (λ _. IsPut old new c.deref.result.now c.args.hint) (λ _. IsPut old new c.args.clause.now c.args.hint)
    (λ _ put. put_same old new c.args.clause.now c.deref.result.now c.args.hint same put) c.put_apart-2.ensures.added
