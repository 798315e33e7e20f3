-- Whether a formula holds at a number is decided on each trace.
use Rattle.std.proofs.Common.{ℕ, ◌+◌, ◌*◌, ◌↔◌, arith, length}
use native.Mathlib.Decide.{dec_lt}
use Rattle.ltl_syntax.specs.Shape.{Direction, Future, Range, Ever, shape}
use Rattle.ltl_syntax.specs.declared.node.UnaryOp.TheVariants.{Not}
use Rattle.ltl_syntax.specs.Formula.{Formula, Const, Letter, Unary, Binary}
use Rattle.ltl_syntax.specs.declared.node.BinaryOp.TheVariants.{And, Iff, Implies, Or, Release, Since, StrongRelease, Trigger, Until, WeakUntil}
use Rattle.ltl_word.specs.declared.trace.Trace.{Trace}
use Rattle.ltl_word.specs.declared.trace.Trace.TheVariants.{Infinite, Finite}
use Rattle.ltl_word.specs.Trace.{IsTrace, IsPosition, state_at}
use Rattle.ltl_word.specs.Claims.{Claim, Always', IsSomewhere, IsEverywhere}
use Rattle.ltl_word.specs.Holds.{Holds, name_of}
use Rattle.ltl_word.specs.Depth.{past_depth}
use Rattle.ltl_word.proofs.Repeats.{horizon_of_period}
use Rattle.ltl_word.proofs.Periodicity.{Holds-repeats, Position-repeats}
use Rattle.ltl_word.proofs.Search.{IsDecided, ×_decided, ⊎_decided, →_decided, IsTrue_decided, Contains_decided}
use Rattle.ltl_word.proofs.Expansion.{IsClosed}
use Rattle.ltl_word.proofs.Duality.{HasHorizon, Until_decided, Released_decided, Since_decided, Triggered_decided}
use Rattle.ltl_word.proofs.Reached.{HasBound, ever_bound, Somewhere_decided, Everywhere-from_none, OfShape_decided}

-- what stands before a position is one
pub position_below : (t : Trace) → IsClosed (IsPosition t)
position_below (Infinite stem loop_part) i j le at = tt
position_below (Finite states) i j le at = omega arith

pub Position_decided : (t : Trace) → IsDecided (IsPosition t)
Position_decided (Infinite stem loop_part) i = yes tt
Position_decided (Finite states) i = dec_lt i (length states)

-- until has a horizon on each trace: a period after which its right operand repeats, or the end
pub horizon : (t : Trace) → IsTrace t → (A : Claim) (b : Formula) (i : ℕ) → HasHorizon (IsPosition t) A (Holds t b) i
horizon (Infinite stem loop_part) some A b i =
    horizon_of_period _ A _ (length loop_part) (length stem + past_depth b * length loop_part) some (Position-repeats stem loop_part some _)
    (Holds-repeats stem loop_part some b (past_depth b) (omega arith)) i
horizon (Finite states) some A b i = (length states, λ w. (w.0, w.2, w.1, w.2, w.3, w.4))

-- and so what it is to be true of some later position
pub near : (t : Trace) → IsTrace t → (a : Formula) (i : ℕ) → HasBound (IsPosition t) Future Ever (Holds t a) i
near t good a i = ever_bound (IsPosition t) (Holds t a) i (horizon t good Always' a i)

module _ (t : Trace) (good : IsTrace t) where
  pub Holds_decided : (f : Formula) → IsDecided (Holds t f)
  Holds_decided (Const b) i = IsTrue_decided b
  Holds_decided (Letter p) i = Contains_decided (state_at t i) (name_of p)
  Holds_decided (Unary op a) i =
      OfShape_decided (IsPosition t) (Holds t a) (Position_decided t) (Holds_decided a) (near t good a) (near t good (Unary Not a)) (shape op) i
  Holds_decided (Binary And a b) i = ×_decided (Holds_decided a i) (Holds_decided b i)
  Holds_decided (Binary Or a b) i = ⊎_decided (Holds_decided a i) (Holds_decided b i)
  Holds_decided (Binary Implies a b) i = →_decided (Holds_decided a i) (Holds_decided b i)
  Holds_decided (Binary Iff a b) i = ×_decided (→_decided (Holds_decided a i) (Holds_decided b i)) (→_decided (Holds_decided b i) (Holds_decided a i))
  Holds_decided (Binary Until a b) i = Until_decided _ _ _ (Position_decided t) (Holds_decided a) (Holds_decided b) i (horizon t good _ b i)
  Holds_decided (Binary Release a b) i = Released_decided _ _ _ (Position_decided t) (Holds_decided a) (Holds_decided b) i (horizon t good _ (Unary Not b) i)
  Holds_decided (Binary WeakUntil a b) i = Released_decided _ _ _ (Position_decided t) (Holds_decided b)
      (λ j. ⊎_decided (Holds_decided a j) (Holds_decided b j)) i (horizon t good _ (Unary Not (Binary Or a b)) i)
  Holds_decided (Binary StrongRelease a b) i = Until_decided _ _ _ (Position_decided t) (Holds_decided b)
      (λ j. ×_decided (Holds_decided a j) (Holds_decided b j)) i (horizon t good _ (Binary And a b) i)
  Holds_decided (Binary Since a b) i = Since_decided _ _ (Holds_decided a) (Holds_decided b) i
  Holds_decided (Binary Trigger a b) i = Triggered_decided _ _ (Holds_decided a) (Holds_decided b) i

-- the dual of an operator, over the negation
module _ (t : Trace) (a : Formula) (d : Direction) (r : Range) (i : ℕ) where
  pub no_somewhere : (IsSomewhere (IsPosition t) d r (Holds t a) i → ⊥) ↔ IsEverywhere (IsPosition t) d r (Holds t (Unary Not a)) i
  no_somewhere = (λ h j w x. h (j, w, x), λ f w. f w.0 w.1 w.2)

  pub no_everywhere : IsTrace t → (IsEverywhere (IsPosition t) d r (Holds t a) i → ⊥) ↔ IsSomewhere (IsPosition t) d r (Holds t (Unary Not a)) i
  no_everywhere good = (
    λ h. elim (Somewhere_decided (IsPosition t) (Holds t (Unary Not a)) (Position_decided t) (Holds_decided t good (Unary Not a))
        (near t good (Unary Not a)) d r i) [
          | yes w ↦ w
          | no none ↦ absurd (h (Everywhere-from_none (IsPosition t) (Holds t a) (Position_decided t) (Holds_decided t good a) d r i none))
        ],
    λ w f. w.2 (f w.0 w.1),
  )
