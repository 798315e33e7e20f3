use Rattle.std.proofs.Common.{[], ap, ◌∙◌}
use Rattle.cdcl_watches.specs.Watching.{WatchValue}
use Rattle.cdcl_watches.proofs.Added.{take_back_is}
use Rattle.cdcl_watches.proofs.Numbers.{numbers_two}
use Rattle.cdcl_watches.proofs.Kept.{letter_watchers}
use Rattle.cdcl_watches.proofs.watches.Watches.letter.Goals as goal

pub invariant_of-self-in-Ok : goal.invariant_of-self-in-Ok
invariant_of-self-in-Ok c =
    rw (c.in-Ok.ensures, c.in_ok-grow.ensures) (letter_watchers c.self.inside.arena.heads c.self.inside.arena.clauses c.self.inside.lists c.self.invariant)

pub invariant_of-self-in-Err : goal.invariant_of-self-in-Err
invariant_of-self-in-Err c =
    rw (take_back_is c.self.inside.lists c.grow-2.new.self c.shrink.new.self [] c.shrink.ensures (c.in-Err.ensures ∙ c.in_ok-grow.ensures)) c.self.invariant

pub returns-in-Ok : goal.returns-in-Ok
returns-in-Ok c =
    rw (← c.self.view_is, c.in-Ok.ensures, c.in_ok-grow.ensures)
    (ap (λ ls. let v : WatchValue = record { clauses = c.self.inside.arena.clauses; lists = ls; names = c.self.inside.arena.names } in v)
    (numbers_two c.self.inside.arena.heads c.self.invariant.none c.self.inside.lists))
