use Rattle.std.proofs.Common.{All, Contains, subst, arith}
use mathlib.Core.Bool.{false}
use Rattle.std.proofs.lemmas.List.{take_all}
use Rattle.std.proofs.lemmas.List.Elements.{All-more}
use Rattle.cnf_base.specs.declared.literal.Literal.{Literal}
use Rattle.cdcl_trail.specs.Trail.{literals_of}
use Rattle.cdcl.proofs.choice.choose.Goals as goal

abbrev blank : Literal
blank = record { letter = record { 0 = 0 }; negated = false }

pub loop-assumption-preserved : goal.loop-assumption-preserved
loop-assumption-preserved c =
    All-more (Contains (literals_of c.args.state.now.trail)) c.args.assumptions.now c.loop-assumption.assumption-index blank (omega arith)
    c.loop-assumption.invariant
    (c.in-Some.ensures.when_true c.if-not-value.false)

pub returns-in-Some-free : goal.returns-in-Some-free
returns-in-Some-free c = (
  subst (All (Contains (literals_of c.args.state.now.trail))) (take_all c.loop-assumption.assumption-index c.args.assumptions.now (omega arith))
      c.loop-assumption.invariant,
  c.in-Some-free.ensures.0,
  c.in-Some-free.ensures.1,
)

pub returns-in-None-free : goal.returns-in-None-free
returns-in-None-free c = (
  subst (All (Contains (literals_of c.args.state.now.trail))) (take_all c.loop-assumption.assumption-index c.args.assumptions.now (omega arith))
      c.loop-assumption.invariant,
  c.in-None-free.ensures,
)
