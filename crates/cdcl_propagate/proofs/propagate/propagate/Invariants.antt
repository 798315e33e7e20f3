use Rattle.std.proofs.Common.{◌≡◌, ◌≤◌, ◌-◌, length}
use Rattle.cdcl_propagate.specs.Visit.{IsReady, IsGrown}
use Rattle.cdcl_propagate.specs.Lasting.{IsLasting}
use Rattle.cdcl_propagate.proofs.propagate.propagate.Given as goal

abbrev pub invariant-up : goal.invariant-up
invariant-up l = record {
  ready : IsReady l.log.inputs l.log.lines l.propagated l.assigned l.watches;
  grown : IsGrown l.initial.assigned.trail l.assigned.trail;
  named : l.watches.names ≡ l.initial.watches.names;
  low : l.lasting ≤ l.propagated;
  lasting : IsLasting l.watches.clauses l.assigned.trail l.lasting;
  letters : length l.assigned.values ≡ length l.initial.assigned.values;
}

abbrev pub decreases-up : goal.decreases-up
decreases-up l = length l.assigned.values - l.propagated
