use Rattle.std.proofs.Common.{false}
use Rattle.cnf_base.specs.declared.literal.Literal.{Literal}
use Rattle.claim_reading.proofs.Sizing.{too_large}
use Rattle.claim_reading.proofs.entry_sizes.is_small.Goals as goal

abbrev blank : Literal
blank = record { letter = record { 0 = 0 }; negated = false }

pub returns-then-total-gt-MOST : goal.returns-then-total-gt-MOST
returns-then-total-gt-MOST c =
    let so_far = c.literals.invariant.total in
    let more = c.literal_size-total.ensures.size in
    let gt = c.if-total-gt-MOST.true in
    too_large c.args.sizes.now.items c.args.claim.now c.literals.literal-index blank c.literals-test.true (rw (so_far, more) at gt)
