-- The normal form nests past operators no deeper than the formula.
use Rattle.std.proofs.Common.{◌≤◌, ◌+◌, ◌*◌, ℕ, zero, suc, max, arith, Bool, true, false, not}
use Rattle.ltl_syntax.specs.Shape.{Direction, Future, Past, Range, Step, Ever, Exactly, Between, Shape, Negation, Somewhere, Everywhere, shape}
use Rattle.ltl_syntax.specs.Formula.{Formula, Const, Letter, Unary, Binary}
use Rattle.ltl_syntax.specs.declared.node.BinaryOp.TheVariants.{And, Iff, Implies, Or, Release, Since, StrongRelease, Trigger, Until, WeakUntil}
use Rattle.ltl_word.specs.Depth.{looked_back, steps_back, past_depth}
use Rattle.ltl_closure.specs.Norm.{Norm, NConst, conjunction, disjunction, request, until, times, in_range, looking, under, over, formula_of, norm}

abbrev depth : Norm → ℕ
depth g = past_depth (formula_of g)

conjunction_depth : (s : Bool) (a b : Norm) → depth (conjunction s a b) ≤ max (depth a) (depth b)
conjunction_depth true a b = omega arith
conjunction_depth false a b = omega arith

until_depth : (some : Bool) (side : Direction) (a b : Norm) → depth (until some side a b) ≤ looked_back side Ever + max (depth a) (depth b)
until_depth true Future a b = omega arith
until_depth false Future a b = omega arith
until_depth true Past a b = omega arith
until_depth false Past a b = omega arith

request_depth : (some : Bool) (side : Direction) (c : Norm) → depth (request some side c) ≤ looked_back side Step + depth c
request_depth true Future c = omega arith
request_depth false Future c = omega arith
request_depth true Past c = omega arith
request_depth false Past c = omega arith

-- several times over, and over a range
module _ (some : Bool) (side : Direction) where
  times_depth : (n : ℕ) (c : Norm) → depth (times (request some side) n c) ≤ n * looked_back side Step + depth c
  times_depth zero c = omega arith
  times_depth (suc n) c = let r = times_depth n c in omega (arith, request_depth some side (times (request some side) n c))

  range_depth : (a b : ℕ) (c : Norm) → depth (in_range some (request some side) a b c) ≤ b * looked_back side Step + depth c
  range_depth zero zero c = omega arith
  range_depth zero (suc b) c =
      let rest = in_range some (request some side) zero b c in
      let r = range_depth zero b c in
      omega (arith, request_depth some side rest, conjunction_depth (not some) c (request some side rest))
  range_depth (suc a) (suc b) c = let r = range_depth a b c in omega (arith, request_depth some side (in_range some (request some side) a b c))
  range_depth (suc a) zero c = omega arith

looking_depth : (some : Bool) (side : Direction) (range : Range) (c : Norm) → depth (looking some side range c) ≤ looked_back side range + depth c
looking_depth some side Step c = request_depth some side c
looking_depth some side Ever c = omega (arith, until_depth some side (NConst some) c)
looking_depth some Future (Exactly n) c = omega (arith, times_depth some Future n c)
looking_depth some Past (Exactly n) c = omega (arith, times_depth some Past n c)
looking_depth some Future (Between a b) c = omega (arith, range_depth some Future a b c)
looking_depth some Past (Between a b) c = omega (arith, range_depth some Past a b c)

shape_depth : (s : Bool) (look : Shape) (c : Norm) → depth (over s look c) ≤ steps_back look + depth c
shape_depth s Negation c = omega arith
shape_depth s (Somewhere side range) c = looking_depth s side range c
shape_depth s (Everywhere side range) c = looking_depth (not s) side range c

leaf_depth : (s b : Bool) → depth (norm s (Const b)) ≤ 0
leaf_depth true b = omega arith
leaf_depth false b = omega arith

pub norm_depth : (f : Formula) (s : Bool) → past_depth (formula_of (norm s f)) ≤ past_depth f
norm_depth (Const b) s = leaf_depth s b
norm_depth (Letter p) true = omega arith
norm_depth (Letter p) false = omega arith
norm_depth (Unary op a) s = omega (arith, shape_depth s (shape op) (norm (under s (shape op)) a), norm_depth a (under s (shape op)))
norm_depth (Binary And a b) s = omega (arith, norm_depth a s, norm_depth b s, conjunction_depth s (norm s a) (norm s b))
norm_depth (Binary Or a b) s = omega (arith, norm_depth a s, norm_depth b s, conjunction_depth (not s) (norm s a) (norm s b))
norm_depth (Binary Implies a b) s = omega (arith, norm_depth a (not s), norm_depth b s, conjunction_depth (not s) (norm (not s) a) (norm s b))
norm_depth (Binary Iff a b) s = omega (arith, norm_depth a true, norm_depth a false, norm_depth b s, norm_depth b (not s))
norm_depth (Binary Until a b) s = omega (arith, norm_depth a s, norm_depth b s, until_depth s Future (norm s a) (norm s b))
norm_depth (Binary Release a b) s = omega (arith, norm_depth a s, norm_depth b s, until_depth (not s) Future (norm s a) (norm s b))
norm_depth (Binary WeakUntil a b) s = let inner = disjunction s (norm s a) (norm s b) in
    omega (arith, norm_depth a s, norm_depth b s, conjunction_depth (not s) (norm s a) (norm s b), until_depth (not s) Future (norm s b) inner)
norm_depth (Binary StrongRelease a b) s = let inner = conjunction s (norm s a) (norm s b) in
    omega (arith, norm_depth a s, norm_depth b s, conjunction_depth s (norm s a) (norm s b), until_depth s Future (norm s b) inner)
norm_depth (Binary Since a b) s = omega (arith, norm_depth a s, norm_depth b s, until_depth s Past (norm s a) (norm s b))
norm_depth (Binary Trigger a b) s = omega (arith, norm_depth a s, norm_depth b s, until_depth (not s) Past (norm s a) (norm s b))
