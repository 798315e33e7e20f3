-- The pieces of work over the walk's state.
use Rattle.std.proofs.Common.{◌≡◌, ℕ, ◌<◌, Bool, true, false, ◌++◌, ◌∷◌, [], List, reverse, OnOk, Result, Ok, Err, arith}
use Rattle.std.proofs.lemmas.List.{reverse-append}
use Rattle.ltl_syntax.specs.Shape.{Shape, Negation, Somewhere, Everywhere, shape}
use Rattle.ltl_syntax.specs.Formula.{Atom, Formula, Const, Letter, Unary, Binary}
use Rattle.ltl_syntax.specs.Table.{Table, tree_at}
use Rattle.ltl_closure.specs.Norm.{Norm, NConst, NLetter, norm}
use Rattle.ltl_closure.specs.Keys.{IsKey, Enters}
use Rattle.ltl_closure.specs.Plan.{cost, shape_cost, IsWalking}
use Rattle.ltl_closure.specs.Walking.{IsAt, letter_work, Puts}
use Rattle.ltl_closure.specs.declared.key.Request.{Request}
use Rattle.ltl_closure.specs.declared.key.Connective.{Connective}
use Rattle.ltl_closure.specs.declared.key.Key.{Key}
use Rattle.ltl_closure.specs.declared.key.Key.TheVariants as keys
use Rattle.ltl_closure.specs.declared.plan.Work.{Work}
use Rattle.ltl_closure.specs.declared.plan.Work.TheVariants as works
use Rattle.ltl_closure.specs.declared.walk.Walk.{Walk}
use Rattle.ltl_closure.proofs.Walks.{const_at, ask_at, join_at, negate_at, visit_const, visit_letter, visit_negated}

pub on_ok : {A E P Q : Type 0} (r : Result A E) → OnOk r P → (P → Q) → OnOk r Q
on_ok (Ok v) h f = f h
on_ok (Err e) h f = tt

pub reverse-push : {X : Type 0} (xs : List X) (x : X) → reverse (xs ++ x ∷ []) ≡ x ∷ reverse xs
reverse-push xs x = reverse-append xs (x ∷ [])

-- the walk with these numbers and this work
abbrev IsWalk : Table → Walk → List ℕ → List Work → Type 0
IsWalk t w numbers todo = IsWalking t w.root w.shared.keys.keys w.shared.entries.items numbers w.memo todo

module _ (t : Table) (old new : Walk) where
  at_new : (key : Key) (todo : List Work) → Puts old key todo new
      → ((n : ℕ) → Enters old.shared.keys.keys old.shared.entries.items key new.shared.keys.keys new.shared.entries.items n
      → IsWalking t old.root new.shared.keys.keys new.shared.entries.items (n ∷ reverse old.numbers.items) old.memo todo)
      → IsAt t new (reverse new.work.items)
  at_new key todo p f = rw (p.root, p.numbers, p.memo, p.work) (f p.number p.entered)

  pub const_put : (b : Bool) → Puts old (keys.Const b) (reverse old.work.items) new → IsAt t old (works.Const b ∷ reverse old.work.items)
      → IsAt t new (reverse new.work.items)
  const_put b p w = at_new (keys.Const b) _ p
      (λ n e. const_at t old.root old.shared.keys.keys old.shared.entries.items old.memo (reverse old.work.items) b (reverse old.numbers.items) _ _ n w e)

  pub ask_put : (r : Request) (a : ℕ) → Puts old (keys.Asks r a) (reverse old.work.items) new
      → IsWalk t old (a ∷ reverse old.numbers.items) (works.Ask r ∷ reverse old.work.items) → IsAt t new (reverse new.work.items)
  ask_put r a p w = at_new (keys.Asks r a) _ p
      (λ n e. ask_at t old.root old.shared.keys.keys old.shared.entries.items old.memo (reverse old.work.items) r a (reverse old.numbers.items) _ _ n w e)

  pub join_put : (c : Connective) (b a : ℕ) → Puts old (keys.Joins c a b) (reverse old.work.items) new
      → IsWalk t old (b ∷ a ∷ reverse old.numbers.items) (works.Join c ∷ reverse old.work.items) → IsAt t new (reverse new.work.items)
  join_put op b a p w = at_new (keys.Joins op a b) _ p
      (λ n e. join_at t old.root old.shared.keys.keys old.shared.entries.items old.memo (reverse old.work.items) op b a (reverse old.numbers.items) _ _ n w e)

  pub negate_put : (a : ℕ) → Puts old (keys.NotLetter a) (reverse old.work.items) new
      → IsWalk t old (a ∷ reverse old.numbers.items) (works.Negate ∷ reverse old.work.items) → IsAt t new (reverse new.work.items)
  negate_put a p w = at_new (keys.NotLetter a) _ p
      (λ n e. negate_at t old.root old.shared.keys.keys old.shared.entries.items old.memo (reverse old.work.items) a (reverse old.numbers.items) _ _ n w e)

  pub visit_const_put : (i : ℕ) (s b : Bool) → Puts old (keys.Const b) (reverse old.work.items) new → norm s (tree_at t i) ≡ NConst b
      → IsAt t old (works.Visit i s ∷ reverse old.work.items) → IsAt t new (reverse new.work.items)
  visit_const_put i s b p is w = at_new (keys.Const b) _ p (λ n e. visit_const t old.root old.shared.keys.keys old.shared.entries.items old.memo
      (reverse old.work.items) i s b b (reverse old.numbers.items) _ _ n w is e)

  pub visit_letter_put : (i : ℕ) (s : Bool) (a : Atom) (key : Key) → Puts old key (letter_work s (reverse old.work.items)) new → tree_at t i ≡ Letter a
      → ((kept : List Norm) → IsKey t.names kept (NLetter a) key) → IsAt t old (works.Visit i s ∷ reverse old.work.items) → IsAt t new (reverse new.work.items)
  visit_letter_put i true a key p is fits w = at_new key _ p (λ n e. visit_letter t old.root old.shared.keys.keys old.shared.entries.items old.memo
      (reverse old.work.items) i a key (reverse old.numbers.items) _ _ n w is fits e)
  visit_letter_put i false a key p is fits w = at_new key _ p (λ n e. visit_negated t old.root old.shared.keys.keys old.shared.entries.items old.memo
      (reverse old.work.items) i a key (reverse old.numbers.items) _ _ n w is fits e)

shape_costs : (look : Shape) (d : ℕ) → 0 < shape_cost look d
shape_costs Negation d = omega arith
shape_costs (Somewhere side range) d = omega arith
shape_costs (Everywhere side range) d = omega arith

pub cost_positive : (f : Formula) → 0 < cost f
cost_positive (Unary op a) = shape_costs (shape op) (cost a)
cost_positive other = omega arith
