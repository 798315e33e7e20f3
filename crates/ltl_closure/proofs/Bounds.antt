-- A bound of ten requests is more than 1,000.
use Rattle.std.proofs.Common.{ℕ, ◌+◌, ◌*◌, ◌^◌, ◌≤◌, arith, length, lit<}
use Rattle.std.proofs.Math.Nat.{pow-le-pow_right}
use Rattle.ltl_syntax.specs.declared.node.Kind.{Kind}
use Rattle.ltl_syntax.specs.declared.node.Kind.TheVariants as Kinds
use Rattle.ltl_syntax.specs.Formula.{Formula}
use Rattle.ltl_closure.specs.Closure.{nexts, yesterdays, eventualities}
use Rattle.ltl_closure.specs.Run.{bound}

power : (n : ℕ) → 10 ≤ n → 1024 ≤ 2 ^ n
power n h = pow-le-pow_right {n = 2} (lit< tt) h

times : (e p : ℕ) → 1024 ≤ p → 1024 ≤ (e + 1) * p
times e p h = omega arith

pub bound_large : (f : Formula) (kind : Kind) (limit : ℕ) → 10 ≤ length (nexts f) + length (yesterdays f) → limit ≤ 1000 → bound f kind ≤ limit → ⊥
bound_large f Kinds.Infinite limit many small le =
    let p = times (length (eventualities f)) (2 ^ (length (nexts f) + length (yesterdays f))) (power _ many) in
    omega arith
bound_large f Kinds.Finite limit many small le =
    let p = power (length (nexts f) + length (yesterdays f)) many in
    omega arith
