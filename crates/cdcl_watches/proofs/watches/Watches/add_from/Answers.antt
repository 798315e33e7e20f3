use Rattle.std.proofs.Common.{get_or, ap, ◌∙◌}
use Rattle.cdcl_watches.specs.Watching.{blank, clause_of, with_clause}
use Rattle.cdcl_watches.specs.Heads.{number_of}
use Rattle.cdcl_watches.proofs.AddedWatchers.{last_number, linked_watchers, linked_value}
use Rattle.cdcl_watches.proofs.watches.Watches.add_from.Goals as goal

pub link-requires-clause-last : goal.link-requires-clause-last
link-requires-clause-last c =
    last_number c.self.inside.arena c.push_from.new.self _ c.in_ok-here.here _ c.invariant.ensures.paired c.invariant.ensures.apart c.in_ok-here.ensures.pushed

pub invariant_of-self-2 : goal.invariant_of-self-2
invariant_of-self-2 c =
    linked_watchers c.self.inside.arena c.push_from.new.self _ c.in_ok-here.here _ c.invariant.ensures.paired c.invariant.ensures.apart
    c.in_ok-here.ensures.pushed c.invariant.ensures.first
    c.link.new.arena c.in_ok-link.ensures.arena c.self.inside.lists c.link.new.lists c.get-first.result c.get-second.result
    (c.get-first.ensures ∙ ap (λ ls. get_or ls 0 blank) c.clause-clause.ensures) (c.get-second.ensures ∙ ap (λ ls. get_or ls 1 blank) c.clause-clause.ensures)
    c.in_ok-link.ensures.linked c.self.invariant c.requires.long c.requires.apart (rw (← c.self.view_is) at c.requires.fits)

pub returns : goal.returns
returns c =
    let n = number_of c.args.other.now.heads c.args.head in
    linked_value c.self.inside.arena c.push_from.new.self (clause_of c.args.other.now.clauses n) c.in_ok-here.here (get_or c.args.other.now.names n 0)
    c.invariant.ensures.paired c.invariant.ensures.apart c.in_ok-here.ensures.pushed c.invariant.ensures.first
    c.link.new.arena c.in_ok-link.ensures.arena c.self.inside.lists c.link.new.lists c.get-first.result c.get-second.result
    (c.get-first.ensures ∙ ap (λ ls. get_or ls 0 blank) c.clause-clause.ensures) (c.get-second.ensures ∙ ap (λ ls. get_or ls 1 blank) c.clause-clause.ensures)
    c.in_ok-link.ensures.linked c.self.invariant
    ∙ ap (λ v. with_clause v (clause_of c.args.other.now.clauses n) (get_or c.args.other.now.names n 0)) c.self.view_is
