use Rattle.std.proofs.Common.{get_or, refl, ap, ◌∙◌}
use Rattle.cdcl_watches.specs.Watching.{blank, with_clause}
use Rattle.cdcl_watches.proofs.AddedWatchers.{last_number, linked_watchers, linked_value}
use Rattle.cdcl_watches.proofs.watches.Watches.add.Goals as goal

pub link-requires-clause-last : goal.link-requires-clause-last
link-requires-clause-last c =
    last_number c.self.inside.arena c.push.new.self c.args.clause.now c.in_ok-head.head c.args.name c.invariant-2.ensures.paired c.invariant-2.ensures.apart
    c.in_ok-head.ensures.pushed

pub invariant_of-self-2 : goal.invariant_of-self-2
invariant_of-self-2 c =
    linked_watchers c.self.inside.arena c.push.new.self c.args.clause.now c.in_ok-head.head c.args.name c.invariant-2.ensures.paired c.invariant-2.ensures.apart
    c.in_ok-head.ensures.pushed c.invariant-2.ensures.first
    c.note.new.self (c.note.ensures ∙ c.in_ok-link.ensures.arena) c.self.inside.lists c.link.new.lists (get_or c.args.clause.now 0 blank)
    (get_or c.args.clause.now 1 blank) refl refl
    c.in_ok-link.ensures.linked c.self.invariant c.requires.long c.requires.apart (rw (← c.self.view_is) at c.requires.fits)

pub returns : goal.returns
returns c =
    linked_value c.self.inside.arena c.push.new.self c.args.clause.now c.in_ok-head.head c.args.name c.invariant-2.ensures.paired c.invariant-2.ensures.apart
    c.in_ok-head.ensures.pushed c.invariant-2.ensures.first
    c.note.new.self (c.note.ensures ∙ c.in_ok-link.ensures.arena) c.self.inside.lists c.link.new.lists (get_or c.args.clause.now 0 blank)
    (get_or c.args.clause.now 1 blank) refl refl
    c.in_ok-link.ensures.linked c.self.invariant
    ∙ ap (λ v. with_clause v c.args.clause.now c.args.name) c.self.view_is
