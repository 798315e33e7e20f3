use Rattle.std.proofs.Common.{◌∙◌, All, length, subst, sym, ap}
use Rattle.cdcl_watches.specs.Watching.{WatchValue}
use Rattle.cdcl_state.specs.Gathered.{MayCome, IsCopied}
use Rattle.cdcl_state.proofs.Copying.{emptied_lists, may_come}
use Rattle.cdcl_state.proofs.gather.gather.Goals as goal

pub copy-requires-clause-come : goal.copy-requires-clause-come
copy-requires-clause-come c =
    let lists = length c.in_ok-watches.watches.lists in
    subst (λ (w : WatchValue). All (MayCome lists) w.clauses) (sym c.old.view_is)
    (may_come lists c.args.old.now c.invariant.ensures.watched (sym (emptied_lists c.args.old.now c.in_ok-watches.watches c.in_ok-watches.ensures)) c.requires)

pub copy-requires-clause-clauses : goal.copy-requires-clause-clauses
copy-requires-clause-clauses c = ap (λ (w : WatchValue). w.clauses) c.in_ok-watches.ensures

pub copy-requires-clause-names : goal.copy-requires-clause-names
copy-requires-clause-names c = ap (λ (w : WatchValue). w.names) c.in_ok-watches.ensures

pub returns-clause-lists : goal.returns-clause-lists
returns-clause-lists c = c.in_ok-copy.ensures.lists ∙ emptied_lists c.args.old.now c.in_ok-watches.watches c.in_ok-watches.ensures

pub returns-clause-copied : goal.returns-clause-copied
returns-clause-copied c = subst (λ (w : WatchValue). IsCopied w.clauses w.names (length w.clauses) c.copy.new.watches) c.old.view_is c.in_ok-copy.ensures.copied
