use Rattle.std.proofs.lemmas.Result.{IfOk-weaker}
use Rattle.cdcl_state.specs.State.{IsNamed}
use Rattle.cdcl_state.specs.Gathered.{IsPut}
use Rattle.cdcl_state.proofs.Gathering.{put_long}
use Rattle.cdcl_state.proofs.gather.put_apart.Goals as goal

pub returns-clause-added : goal.returns-clause-added
returns-clause-added c =
    let old = c.args.watches.now in
    let new = c.store.new.watches in
    IfOk-weaker c.store.result (λ _. IsNamed old new c.args.clause.now c.args.hint) (λ _. IsPut old new c.args.clause.now c.args.hint)
    (λ _ named. put_long old new c.args.clause.now c.args.hint c.requires.apart c.if-clause-lt2.false named) c.store.ensures.stored
