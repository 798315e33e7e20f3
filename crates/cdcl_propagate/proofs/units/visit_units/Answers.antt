use Rattle.std.proofs.Common.{refl, ◌∙◌, arith}
use Rattle.cdcl_propagate.specs.Visit.{blank_hint}
use Rattle.cdcl_propagate.proofs.Ready.{none_case, grown_more}
use Rattle.cdcl_propagate.proofs.Alone.{firm_more}
use Rattle.cdcl_propagate.proofs.units.visit_units.Goals as goal

pub up-preserved : goal.up-preserved
up-preserved c =
    let grown = c.in_ok-hint.ensures.grown in
    record {
      grown = grown_more c.args.assigned.now.trail c.up.assigned.trail c.visit_unit.new.assigned.trail c.up.invariant.grown grown;
      letters = c.in_ok-hint.ensures.letters ∙ c.up.invariant.letters;
      is_trail = c.in_ok-hint.ensures.is_trail;
      firm = firm_more c.args.log.now.inputs c.args.log.now.lines c.args.units.now c.up.index c.up.assigned.trail c.visit_unit.new.assigned.trail _ blank_hint
          grown c.up.invariant.firm refl (omega (arith, c.up-test.true))
          (none_case _ c.in_ok-hint.field-0 c.in-None.is c.in_ok-hint.ensures.found);
    }
