use Rattle.std.proofs.Common.{◌≡◌, ◌-◌, inl, inr, Contains, get_or, sym, ap, ◌∙◌, subst, arith}
use Rattle.std.proofs.lemmas.Bool.{cases_lt}
use Rattle.cnf_base.specs.Literal.{opposite}
use Rattle.cdcl_trail.specs.Trail.{literals_of}
use Rattle.cdcl_watches.specs.Watching.{blank}
use Rattle.cdcl_propagate.proofs.visit.find.Goals as goal

pub down-preserved : goal.down-preserved
down-preserved c = record {
  within = omega (arith, c.down.invariant.within);
  rest = λ j from below. elim (cases_lt j c.down.end) [
    | inl low ↦
        let same : j ≡ c.down.end - 1 = omega arith in
        subst (λ n. Contains (literals_of c.args.assigned.now.trail) (opposite (get_or c.args.clause.now n blank))) (sym same)
        (subst (Contains (literals_of c.args.assigned.now.trail)) (c.opposite.ensures ∙ ap opposite c.get.ensures) (c.holds.ensures.0 c.if-not-holds.false))
    | inr old ↦ c.down.invariant.rest j old below
  ];
}
