use Rattle.std.proofs.Common.{subst, arith}
use Rattle.std.proofs.lemmas.List.{take_all}
use Rattle.std.proofs.lemmas.List.Elements.{All-contains_itself}
use Rattle.cdcl_state.specs.Named.{AreOf}
use Rattle.cdcl_state.proofs.Naming.{kept_both, of_next}
use Rattle.cdcl_state.proofs.lettered.name.Goals as goal

pub loop-literal-init : goal.loop-literal-init
loop-literal-init c = record { there = λ k d below. absurd (omega (arith, below)); kept = All-contains_itself c.args.named.now }

pub returns-in_err-name-clause-kept : goal.returns-in_err-name-clause-kept
returns-in_err-name-clause-kept c = kept_both c.args.named.now c.loop-literal.named c.name.new.self c.loop-literal.invariant.kept c.in_err-name.ensures.kept

pub loop-literal-preserved : goal.loop-literal-preserved
loop-literal-preserved c =
    let old = c.loop-literal.named in
    let new = c.name.new.self in
    let clause = c.args.clause.now in
    record {
      there = of_next old new clause c.loop-literal.literal-index _ c.loop-literal-test.true c.in_ok-name.ensures.kept c.in_ok-name.ensures.there
          c.loop-literal.invariant.there;
      kept = kept_both c.args.named.now old new c.loop-literal.invariant.kept c.in_ok-name.ensures.kept;
    }

pub returns-clause-there : goal.returns-clause-there
returns-clause-there c =
    subst (AreOf c.loop-literal.named) (take_all c.loop-literal.literal-index c.args.clause.now c.loop-literal-test.false) c.loop-literal.invariant.there
