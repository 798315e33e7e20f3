use Rattle.std.proofs.Common.{get_or, length, refl, sym, ap, ◌∙◌, arith}
use Rattle.cdcl_watches.specs.Watching.{code, blank}
use Rattle.cdcl_watches.specs.Heads.{number_of}
use Rattle.cdcl_propagate.specs.Visit.{watched_by}
use Rattle.cdcl_propagate.proofs.At.{faced_same, faced_turned}
use Rattle.cdcl_propagate.proofs.visit.face.Goals as goal

pub get-requires : goal.get-requires
get-requires c = omega (arith, c.requires.watch.1.long, ap length c.clause.ensures)

pub returns-then-number-clause-faced : goal.returns-then-number-clause-faced
returns-then-number-clause-faced c = λ ls.
    faced_same (watched_by c.args.arena.now ls) (number_of c.args.arena.now.heads c.args.head) c.args.literal c.requires.watch
    (sym
    (ap (λ r. code (get_or r 1 blank)) (sym c.clause.ensures) ∙ ap code (sym c.get.ensures) ∙ sym c.number.ensures ∙ c.if-number.true ∙ c.number-2.ensures))

pub returns-clause-faced : goal.returns-clause-faced
returns-clause-faced c = λ ls.
    faced_turned (watched_by c.args.arena.now ls) (watched_by c.swap.new.self ls) (number_of c.args.arena.now.heads c.args.head)
    c.args.literal c.requires.low c.requires.watch
    (λ e. c.if-number.false (c.number.ensures ∙ ap code c.get.ensures ∙ ap (λ r. code (get_or r 1 blank)) c.clause.ensures ∙ sym e ∙ sym c.number-2.ensures))
    c.swap.ensures.clauses refl c.swap.ensures.names
