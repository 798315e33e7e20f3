use Rattle.std.proofs.Common.{◌≡◌, [], length, sym, ap, ◌∙◌, subst}
use Rattle.std.proofs.lemmas.List.{length-replicate}
use Rattle.log_checker.specs.Values.{falses_in}
use Rattle.log_checker.specs.declared.assignment.Truth.TheVariants.{Unset}
use Rattle.log_checker.proofs.Falses.{falses_none}
use Rattle.log_checker.proofs.Refuting.{judged}
use Rattle.log_checker.proofs.judge.judge.Goals as goal

pub assume-requires : goal.assume-requires
assume-requires g c = subst (λ vs. falses_in vs ≡ []) (sym c.clear.ensures) (falses_none (length c.args.assignment.now) 0)

pub returns-clause-judged : goal.returns-clause-judged
returns-clause-judged g c =
    judged _ _ _ _ _ _ _ _ (ap length c.clear.ensures ∙ length-replicate (length c.args.assignment.now) Unset)
    c.assume.ensures.size c.if-not-assume.ensures.assumed c.refute.ensures.refuted
