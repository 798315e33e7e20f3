use Rattle.std.proofs.Common.{◌≡◌, length}
use Rattle.cdcl_trail.specs.Trail.{IsTrail, literals_of}
use Rattle.cdcl_propagate.specs.Visit.{IsGrown}
use Rattle.cdcl_propagate.specs.Units.{AreFirm}
use Rattle.cdcl_propagate.proofs.units.visit_units.Given as goal

abbrev pub invariant-up : goal.invariant-up
invariant-up l = record {
  grown : IsGrown l.initial.assigned.trail l.assigned.trail;
  letters : length l.assigned.values ≡ length l.initial.assigned.values;
  is_trail : IsTrail l.log.inputs l.log.lines l.assigned.trail;
  firm : AreFirm l.log.inputs l.log.lines l.units l.index (literals_of l.assigned.trail);
}
