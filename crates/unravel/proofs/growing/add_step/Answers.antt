use Rattle.enc_layout.specs.Clauses.{state_clauses, signed_clauses}
use Rattle.unravel.proofs.Putting.{kept_trans, more_then}
use Rattle.unravel.proofs.growing.add_step.Goals as goal

pub returns-clause-more : goal.returns-clause-more
returns-clause-more c =
    let x = c.args.listed.now in
    let two =
    more_then x c.args.inputs.now c.add_section.new.inputs c.add_section-2.new.inputs c.in_ok-add_section.ensures.more c.in_ok-add_section-2.ensures.more in
    more_then x c.args.inputs.now c.add_section-2.new.inputs c.add_first_pair.new.inputs two c.in_ok-add_first_pair.ensures

pub returns-clause-states : goal.returns-clause-states
returns-clause-states c =
    let x = c.args.listed.now in
    let own = signed_clauses x.formula x.kind (state_clauses x.formula c.args.step) in
    let first = c.add_section.new.inputs.solver.log.inputs in
    let second = c.add_section-2.new.inputs.solver.log.inputs in
    let last = c.add_first_pair.new.inputs.solver.log.inputs in
    kept_trans own second last (kept_trans own first second c.in_ok-add_section.ensures.there c.in_ok-add_section-2.ensures.more.kept)
    c.in_ok-add_first_pair.ensures.kept
