use Rattle.std.proofs.Common.{All, Contains, get_or, refl, sym, ◌∙◌, subst, arith}
use mathlib.Core.Bool.{false≢true}
use Rattle.std.proofs.lemmas.List.{take_all}
use Rattle.std.proofs.lemmas.List.Elements.{All-contains, All-more, Contains-get_or}
use Rattle.cnf_base.specs.Literal.{opposite}
use Rattle.cdcl_trail.specs.Trail.{blank_entry}
use Rattle.cdcl.proofs.known.are_consistent.Goals as goal

pub loop-literal-preserved : goal.loop-literal-preserved
loop-literal-preserved c =
    All-more (λ m. ¬ Contains c.args.literals.now (opposite m)) c.args.literals.now c.loop-literal.literal-index blank_entry.literal
    (omega (arith, c.loop-literal-test.true)) c.loop-literal.invariant
    (λ there. false≢true (sym c.if-has.false ∙ c.has.ensures.1 (subst (Contains c.args.literals.now) (sym c.opposite.ensures) there)))

pub returns : goal.returns
returns c = (
  (λ _ l there. All-contains (λ m. ¬ Contains c.args.literals.now (opposite m)) c.args.literals.now l
      (subst (All (λ m. ¬ Contains c.args.literals.now (opposite m))) (take_all c.loop-literal.literal-index c.args.literals.now (omega arith))
      c.loop-literal.invariant) there),
  (λ _. refl),
)

pub returns-then-has : goal.returns-then-has
returns-then-has c =
    let literals = c.args.literals.now in
    let l = get_or literals c.loop-literal.literal-index blank_entry.literal in (
      (λ yes. absurd (false≢true yes)),
      (λ consistent. absurd (consistent l (Contains-get_or literals c.loop-literal.literal-index blank_entry.literal c.loop-literal-test.true)
          (subst (Contains literals) c.opposite.ensures (c.has.ensures.0 c.if-has.true)))),
    )
