use Rattle.std.proofs.Common.{◌∙◌, length, sym, ap, arith}
use mathlib.Core.Bool.{false≢true}
use Rattle.cdcl_watches.specs.Heads.{number_of}
use Rattle.cdcl_watches.specs.Watching.{clause_of, with_clause}
use Rattle.cdcl_watches.proofs.HeadNumbers.{number_low}
use Rattle.cdcl_state.proofs.Copying.{come_at, copied_left, copied_more}
use Rattle.cdcl_state.proofs.copy.copy_clause.Goals as goal

pub returns-then-not-stays-clause-copied : goal.returns-then-not-stays-clause-copied
returns-then-not-stays-clause-copied c =
    let old = c.args.old.now in
    copied_left old.clauses old.names (number_of old.heads c.args.head) c.name-name.result c.args.watches.now c.requires.begun c.name-name.ensures
    (λ n input. false≢true (sym c.if-not-stays.true ∙ c.stays.ensures n input))

pub add_from-requires-clause-long : goal.add_from-requires-clause-long
add_from-requires-clause-long c =
    (come_at (length c.args.watches.now.lists) c.args.old.now c.args.head c.requires.head c.invariant.ensures.paired c.requires.come).long

pub add_from-requires-clause-apart : goal.add_from-requires-clause-apart
add_from-requires-clause-apart c =
    (come_at (length c.args.watches.now.lists) c.args.old.now c.args.head c.requires.head c.invariant.ensures.paired c.requires.come).apart

pub add_from-requires-clause-fits : goal.add_from-requires-clause-fits
add_from-requires-clause-fits c =
    (come_at (length c.args.watches.now.lists) c.args.old.now c.args.head c.requires.head c.invariant.ensures.paired c.requires.come).fits

pub returns-clause-copied : goal.returns-clause-copied
returns-clause-copied c =
    let old = c.args.old.now in
    let low = number_low old.heads c.args.head c.requires.head in
    let n = number_of old.heads c.args.head in
    copied_more old.clauses old.names n c.name-name.result c.args.watches.now c.requires.begun c.name-name.ensures c.add_from.new.self
    (omega (arith, low.0, c.invariant.ensures.paired))
    (c.in_ok-add_from.ensures ∙ ap (with_clause c.args.watches.now (clause_of old.clauses n)) (sym c.name-name.ensures))
