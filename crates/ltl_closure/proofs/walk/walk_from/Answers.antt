use Rattle.std.proofs.Common.{◌≡◌, ℕ, [], ◌∷◌, List, length, reverse, refl, sym, arith, ◌∙◌}
use Rattle.ltl_closure.specs.declared.plan.Work.{Work}
use Rattle.ltl_closure.proofs.Counted.{closure_few}
use Rattle.ltl_closure.proofs.Walks.{ended}
use Rattle.ltl_closure.proofs.walk.walk_from.Goals as goal

none_left : (ws : List Work) → length ws ≡ 0 → reverse ws ≡ []
none_left [] e = refl
none_left (w ∷ ws) e = absurd (cc)

head_is : (x y : ℕ) (xs : List ℕ) → x ∷ xs ≡ y ∷ [] → x ≡ y
head_is x y xs e = cc

pub returns-clause-entries : goal.returns-clause-entries
returns-clause-entries c =
    (ended c.args.table.now c.args.root _ _ _ _ (rw (
      c.loop-work.invariant.root,
      none_left c.loop-work.walk.work.items (omega (
        arith,
        c.in_default.ensures.cases.0,
      )),
    ) at c.loop-work.invariant.at)).0

pub returns-clause-few : goal.returns-clause-few
returns-clause-few c =
    let all = closure_few c.args.table.now c.args.root c.loop-work.invariant.at.few in
    let long = (returns-clause-entries c).long in
    omega arith

pub returns-clause-root : goal.returns-clause-root
returns-clause-root c =
    head_is _ _ _ (sym c.pop_number-root.ensures ∙ (ended c.args.table.now c.args.root _ _ _ _ (rw (
      c.loop-work.invariant.root,
      none_left c.loop-work.walk.work.items (omega (arith, c.in_default.ensures.cases.0)),
    ) at c.loop-work.invariant.at)).1)
