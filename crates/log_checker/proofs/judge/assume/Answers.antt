use Rattle.std.proofs.Common.{◌-◌, length, sym, ap, ◌∙◌, subst}
use Rattle.std.proofs.lemmas.List.{length-set}
use Rattle.cnf_base.specs.Known.{IsKnown}
use Rattle.log_checker.specs.Values.{false_of}
use Rattle.log_checker.proofs.Named.{known_within}
use Rattle.log_checker.proofs.Assuming.{IsAssuming, assumes_pair, assumes_again, assumes_more, assumes_all}
use Rattle.log_checker.proofs.judge.assume.Goals as goal

pub returns-in-True-clause-assumed : goal.returns-in-True-clause-assumed
returns-in-True-clause-assumed g c =
    assumes_pair _ _ _ _ _ _ c.literals.assignment c.literals.invariant.1 c.in-Some.ensures (sym c.value.ensures ∙ c.in-True.is)

pub literals-preserved-in-False : goal.literals-preserved-in-False
literals-preserved-in-False g c =
    let known = subst (λ n. IsKnown (n - 1) c.in-Some.literal) c.literals.invariant.0 (c.knows.ensures.0 c.if-not-knows.false) in
    (c.literals.invariant.0, assumes_again _ _ _ _ _ _ c.literals.invariant.1 c.in-Some.ensures known (sym c.value.ensures ∙ c.in-False.is))

pub literals-preserved : goal.literals-preserved
literals-preserved g c =
    let here = c.knows.ensures.0 c.if-not-knows.false in
    let known = subst (λ n. IsKnown (n - 1) c.in-Some.literal) c.literals.invariant.0 here in
    let values = c.literals.assignment in
    let l = c.in-Some.literal in (
      ap length c.falsify.ensures ∙ length-set values l.letter.0 (false_of l.negated) ∙ c.literals.invariant.0,
      subst (IsAssuming _ _ _) (sym c.falsify.ensures)
          (assumes_more _ _ _ _ _ _ c.literals.invariant.1 c.in-Some.ensures known (known_within values l here) (sym c.value.ensures ∙ c.in-Unset.is)),
    )

pub returns-clause-assumed : goal.returns-clause-assumed
returns-clause-assumed g c = assumes_all _ _ _ _ c.literals.invariant.1 c.in_default.ensures.0
