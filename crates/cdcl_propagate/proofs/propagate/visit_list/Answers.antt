use Rattle.std.proofs.Common.{◌≡◌, ap, sym, ◌∙◌, subst}
use Rattle.cdcl_watches.specs.Watching.{code, WatchValue}
use Rattle.cdcl_watches.specs.Watchers.{numbers, walk_in, walked}
use Rattle.cdcl_watches.proofs.Gap.{closed_none}
use Rattle.cdcl_propagate.specs.Lasting.{IsLasting}
use Rattle.cdcl_propagate.specs.Visit.{IsVisiting}
use Rattle.cdcl_propagate.proofs.Ready.{begin_visit}
use Rattle.cdcl_propagate.proofs.propagate.visit_list.Goals as goal

pub along-found-requires-clause-visiting : goal.along-found-requires-clause-visiting
along-found-requires-clause-visiting c =
    let arena = c.watches.inside.arena in
    let start : walked (walk_in arena c.watches.inside.lists c.opposite-falsified.result (record { kept = 0; next = 0 })) ≡ c.args.watches.now =
    ap (λ ls. let w : WatchValue = record { clauses = arena.clauses; lists = numbers arena.heads ls; names = arena.names } in w)
    (closed_none c.watches.inside.lists (code c.opposite-falsified.result) 0) ∙ c.watches.view_is in
    subst (IsVisiting c.args.log.now.inputs c.args.log.now.lines c.args.place 0 c.args.assigned.now) (sym start)
    (begin_visit c.args.log.now.inputs c.args.log.now.lines c.args.place c.args.assigned.now c.args.watches.now c.requires.there c.requires.ready)

pub returns-clause-lasting : goal.returns-clause-lasting
returns-clause-lasting c = λ n low lasting.
    c.along-found.ensures.lasting n low (subst (λ (w : WatchValue). IsLasting w.clauses c.args.assigned.now.trail n) (sym c.watches.view_is) lasting)
