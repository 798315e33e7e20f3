use Rattle.std.proofs.Common.{◌≡◌, Bool, true, false, [], ◌∷◌, refl, reverse, arith, slice_index_or}
use mathlib.Core.Bool.{beq}
use Rattle.ltl_syntax.specs.Formula.{Formula, Name, Fresh, Const}
use Rattle.ltl_syntax.specs.Table.{tree_at}
use Rattle.ltl_closure.specs.Norm.{NConst, norm}
use Rattle.ltl_closure.specs.Plan.{unary_plan}
use Rattle.ltl_closure.specs.declared.key.Key.TheVariants as keys
use Rattle.ltl_closure.specs.declared.plan.Work.TheVariants as works
use Rattle.ltl_closure.proofs.Counted.{walking_few}
use Rattle.ltl_closure.proofs.Walks.{visit_known, visit_unary, visit_binary}
use Rattle.ltl_closure.proofs.Plans.{unary_less, weights-append}
use Rattle.ltl_closure.proofs.Steps.{on_ok, reverse-push, visit_const_put, visit_letter_put, cost_positive}
use Rattle.ltl_closure.proofs.walk.Walk.visit.Goals as goal

pub returns-then-known-ne0-clause-at : goal.returns-then-known-ne0-clause-at
returns-then-known-ne0-clause-at c =
    rw (c.in_ok-push.ensures.items, reverse-push c.args.self.now.numbers.items c.get-known.result, c.get-known.ensures)
    (visit_known c.args.table.now c.args.self.now.root _ _ c.args.self.now.memo _ c.args.node c.args.positive _ c.requires
    (rw (← c.get-known.ensures) c.if-known-ne0.true))

pub returns-then-known-ne0-clause-less : goal.returns-then-known-ne0-clause-less
returns-then-known-ne0-clause-less c = omega (arith, cost_positive (tree_at c.args.table.now c.args.node))

norm_const : (s b : Bool) (f : Formula) → f ≡ Const b → norm s f ≡ NConst (beq b s)
norm_const true true f e = rw e refl
norm_const true false f e = rw e refl
norm_const false true f e = rw e refl
norm_const false false f e = rw e refl

pub returns-in-Const-clause-at : goal.returns-in-Const-clause-at
returns-in-Const-clause-at c =
    on_ok c.put.result c.put.ensures (λ p. visit_const_put c.args.table.now _ c.put.new.self c.args.node c.args.positive _ p
    (norm_const c.args.positive c.in-Const.value (tree_at c.args.table.now c.args.node) c.in-Const.ensures.tree) c.requires)

pub returns-in-Letter-clause-at : goal.returns-in-Letter-clause-at
returns-in-Letter-clause-at c =
    on_ok c.put_letter.result c.put_letter.ensures (λ p. visit_letter_put c.args.table.now _ c.put_letter.new.self c.args.node c.args.positive
    (Name (slice_index_or c.args.table.now.names c.in-Letter.letter [])) (keys.Letter c.in-Letter.letter) p
    c.in-Letter.ensures.tree (λ kept. (c.in-Letter.letter, refl, c.in-Letter.ensures.below, refl)) c.requires)

pub returns-in-Fresh-clause-at : goal.returns-in-Fresh-clause-at
returns-in-Fresh-clause-at c =
    on_ok c.put_letter-in-Fresh.result c.put_letter-in-Fresh.ensures (λ p.
    visit_letter_put c.args.table.now _ c.put_letter-in-Fresh.new.self c.args.node c.args.positive (Fresh c.in-Fresh.letter) (keys.Fresh c.in-Fresh.letter) p
    c.in-Fresh.ensures.tree (λ kept. refl) c.requires)

pub returns-in_ok-push-in-Unary-clause-at : goal.returns-in_ok-push-in-Unary-clause-at
returns-in_ok-push-in-Unary-clause-at c =
    on_ok c.plan_unary.result c.plan_unary.ensures (λ p.
    rw (p, c.in_ok-push-in-Unary.ensures.items, reverse-push c.args.self.now.work.items (works.Keep c.args.node c.args.positive))
    (visit_unary c.args.table.now c.args.self.now.root _ _ c.args.self.now.memo (reverse c.args.self.now.work.items)
    c.args.node c.args.positive c.in-Unary.op c.in-Unary.a _ c.requires c.in-Unary.ensures.tree c.in-Unary.ensures.below))

pub returns-in_ok-push-in-Binary-clause-at : goal.returns-in_ok-push-in-Binary-clause-at
returns-in_ok-push-in-Binary-clause-at c =
    on_ok c.plan_binary.result c.plan_binary.ensures (λ p.
    rw (p, c.in_ok-push-in-Binary.ensures.items, reverse-push c.args.self.now.work.items (works.Keep c.args.node c.args.positive))
    (visit_binary c.args.table.now c.args.self.now.root _ _ c.args.self.now.memo (reverse c.args.self.now.work.items) c.args.node c.args.positive c.in-Binary.op
    c.in-Binary.a c.in-Binary.b _ c.requires c.in-Binary.ensures.tree c.in-Binary.ensures.below.0 c.in-Binary.ensures.below.1))

pub put-requires : goal.put-requires
put-requires c = walking_few c.args.table.now c.args.self.now.root c.args.self.now.shared.keys.keys c.args.self.now.shared.entries.items
    (reverse c.args.self.now.numbers.items) c.args.self.now.memo _ c.requires

pub put_letter-requires : goal.put_letter-requires
put_letter-requires c = walking_few c.args.table.now c.args.self.now.root c.args.self.now.shared.keys.keys c.args.self.now.shared.entries.items
    (reverse c.args.self.now.numbers.items) c.args.self.now.memo _ c.requires

pub put_letter-requires-in-Fresh : goal.put_letter-requires-in-Fresh
put_letter-requires-in-Fresh c = walking_few c.args.table.now c.args.self.now.root c.args.self.now.shared.keys.keys c.args.self.now.shared.entries.items
    (reverse c.args.self.now.numbers.items) c.args.self.now.memo _ c.requires

pub returns-in_ok-push-in-Unary-clause-less : goal.returns-in_ok-push-in-Unary-clause-less
returns-in_ok-push-in-Unary-clause-less c =
    on_ok c.plan_unary.result c.plan_unary.ensures (λ p.
    rw (p, c.in_ok-push-in-Unary.ensures.items, reverse-push c.args.self.now.work.items (works.Keep c.args.node c.args.positive), c.in-Unary.ensures.tree)
    (omega (
      arith,
      unary_less c.args.table.now c.args.positive c.in-Unary.op c.in-Unary.a,
      weights-append c.args.table.now (unary_plan c.args.positive c.in-Unary.op c.in-Unary.a)
          (works.Keep c.args.node c.args.positive ∷ reverse c.args.self.now.work.items),
    )))
