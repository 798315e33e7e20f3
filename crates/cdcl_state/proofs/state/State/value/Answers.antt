use Rattle.std.proofs.Common.{Contains, sym, subst}
use mathlib.Core.Bool.{false≢true}
use Rattle.cnf_base.specs.Literal.{opposite}
use Rattle.cdcl_state.specs.StateValue.{StateValue}
use Rattle.cdcl_trail.specs.Trail.{literals_of}
use Rattle.cdcl_state.proofs.state.State.value.Goals as goal

pub returns-then-holds : goal.returns-then-holds
returns-then-holds c = record {
  when_true = λ _. subst (λ (s : StateValue). Contains (literals_of s.trail) c.args.literal) c.self.view_is (c.holds.ensures.0 c.if-holds.true);
  when_false = λ wrong. absurd (false≢true (sym wrong));
}

pub returns-then-holds-2 : goal.returns-then-holds-2
returns-then-holds-2 c = record {
  when_true = λ wrong. absurd (false≢true wrong);
  when_false = λ _. subst (λ (s : StateValue). Contains (literals_of s.trail) (opposite c.args.literal)) c.self.view_is
      (subst (Contains (literals_of c.self.inside.assigned.trail)) c.opposite.ensures (c.holds-2.ensures.0 c.if-holds-2.true));
}
