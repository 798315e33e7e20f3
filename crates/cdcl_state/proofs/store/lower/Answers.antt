use Rattle.std.proofs.Common.{Contains, sym, ◌∙◌, subst, arith}
use mathlib.Core.Bool.{false≢true}
use Rattle.cnf_base.specs.Literal.{opposite}
use Rattle.cdcl_trail.specs.Trail.{literals_of, blank_entry}
use Rattle.cdcl_trail.proofs.Assign.{entry_there}
use Rattle.cdcl_state.proofs.store.lower.Goals as goal

pub returns-then-not-holds-clause-free : goal.returns-then-not-holds-clause-free
returns-then-not-holds-clause-free c k below is =
    let trail = c.args.assigned.now.trail in
    let there : Contains (literals_of trail) (opposite c.args.literal) =
    subst (Contains (literals_of trail)) is (entry_there trail k blank_entry (omega (arith, below, c.requires.within))) in
    false≢true (sym c.if-not-holds.true ∙ c.holds.ensures.1 (subst (Contains (literals_of trail)) (sym c.opposite.ensures) there))
