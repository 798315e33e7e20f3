-- The size of a formula without past operators, from the sizes of its parts.
use Rattle.std.specs.Prelude.{◌≡◌, ℕ, zero, suc, ◌+◌, ◌-◌, ◌*◌, ◌<◌, ◌≤◌, nat_lt, if◌then◌else◌, List, length, slice_index_or}
use Rattle.ltl_syntax.specs.declared.node.UnaryOp.{UnaryOp}
use Rattle.ltl_syntax.specs.declared.node.BinaryOp.{BinaryOp}
use Rattle.ltl_syntax.specs.declared.node.UnaryOp.TheVariants.{Always, AlwaysIn, Eventually, EventuallyIn, Historically, HistoricallyIn, Next, NextTimes, Not}
use Rattle.ltl_syntax.specs.declared.node.UnaryOp.TheVariants.{Once, OnceIn, WeakNext, WeakYesterday, Yesterday, YesterdayTimes}
use Rattle.ltl_syntax.specs.declared.node.BinaryOp.TheVariants.{And, Iff, Implies, Or, Release, Since, StrongRelease, Trigger, Until, WeakUntil}
use Rattle.ltl_syntax.specs.Formula.{Formula, Const, Letter, Unary, Binary}
use Rattle.ltl_syntax.specs.Size.{operator_size, formula_size}
use Rattle.ltl_syntax.specs.Table.{Table, tree_at}
use Rattle.depast.specs.declared.counts.Counts.{Counts}
use Rattle.depast.specs.Names.{most_leading}

-- the size of this number of steps back, where no step back is an operand of this size
abbrev pub step_size : ℕ → ℕ → ℕ
step_size zero r = r
step_size (suc m) r = 1

-- the size of a range of steps back
abbrev pub range_size : ℕ → ℕ → ℕ → ℕ
range_size m n r = if nat_lt n m then 1 else step_size m r + 2 * (n - m)

-- the size of a residue, over a residue of this size
abbrev pub residue_size₁ : UnaryOp → ℕ → ℕ
residue_size₁ Not r = r + 1
residue_size₁ Next r = r + 1
residue_size₁ WeakNext r = r + 1
residue_size₁ Eventually r = r + 1
residue_size₁ Always r = r + 1
residue_size₁ Yesterday r = 1
residue_size₁ WeakYesterday r = 1
residue_size₁ Once r = 1
residue_size₁ Historically r = 1
residue_size₁ (NextTimes n) r = r + operator_size (NextTimes n)
residue_size₁ (YesterdayTimes n) r = step_size n r
residue_size₁ (EventuallyIn m n) r = r + operator_size (EventuallyIn m n)
residue_size₁ (AlwaysIn m n) r = r + operator_size (AlwaysIn m n)
residue_size₁ (OnceIn m n) r = range_size m n r
residue_size₁ (HistoricallyIn m n) r = range_size m n r

abbrev pub residue_size₂ : BinaryOp → ℕ → ℕ → ℕ
residue_size₂ And r q = r + q + 1
residue_size₂ Or r q = r + q + 1
residue_size₂ Implies r q = r + q + 1
residue_size₂ Iff r q = r + q + 1
residue_size₂ Until r q = r + q + 1
residue_size₂ Release r q = r + q + 1
residue_size₂ WeakUntil r q = r + q + 1
residue_size₂ StrongRelease r q = r + q + 1
residue_size₂ Since r q = 1
residue_size₂ Trigger r q = 1

-- the size of a number of axioms, each joined to what is before it, of which each takes this much beside twice its operand
abbrev pub chain_size : ℕ → ℕ → ℕ → ℕ
chain_size each zero r = 0
chain_size each (suc n) r = each * suc n + 2 * r + 2 * n

abbrev pub axioms_size₁ : UnaryOp → ℕ → ℕ
axioms_size₁ Not r = 0
axioms_size₁ Next r = 0
axioms_size₁ WeakNext r = 0
axioms_size₁ Eventually r = 0
axioms_size₁ Always r = 0
axioms_size₁ Yesterday r = 14 + 2 * r
axioms_size₁ WeakYesterday r = 13 + 2 * r
axioms_size₁ Once r = 19 + 3 * r
axioms_size₁ Historically r = 19 + 3 * r
axioms_size₁ (NextTimes n) r = 0
axioms_size₁ (YesterdayTimes n) r = chain_size 14 n r
axioms_size₁ (EventuallyIn m n) r = 0
axioms_size₁ (AlwaysIn m n) r = 0
axioms_size₁ (OnceIn m n) r = chain_size 14 n r
axioms_size₁ (HistoricallyIn m n) r = chain_size 13 n r

abbrev pub axioms_size₂ : BinaryOp → ℕ → ℕ → ℕ
axioms_size₂ And r q = 0
axioms_size₂ Or r q = 0
axioms_size₂ Implies r q = 0
axioms_size₂ Iff r q = 0
axioms_size₂ Until r q = 0
axioms_size₂ Release r q = 0
axioms_size₂ WeakUntil r q = 0
axioms_size₂ StrongRelease r q = 0
axioms_size₂ Since r q = 18 + r + 3 * q
axioms_size₂ Trigger r q = 18 + r + 3 * q

-- the size of the residue of a formula, and that of its axioms, each joined to what is before it
abbrev pub residue_size : Formula → ℕ
residue_size (Const b) = 1
residue_size (Letter p) = 1
residue_size (Unary op a) = residue_size₁ op (residue_size a)
residue_size (Binary op a b) = residue_size₂ op (residue_size a) (residue_size b)

abbrev pub axioms_size : Formula → ℕ
axioms_size (Const b) = 0
axioms_size (Letter p) = 0
axioms_size (Unary op a) = axioms_size a + axioms_size₁ op (residue_size a)
axioms_size (Binary op a b) = axioms_size a + axioms_size b + axioms_size₂ op (residue_size a) (residue_size b)

-- what is counted of a formula
pub record IsCount (f : Formula) (c : Counts) : Type 0 where
  pub residue_is : c.residue ≡ residue_size f
  pub axioms_is : c.axioms ≡ axioms_size f
  pub underscores_are : c.underscores ≡ most_leading f

-- where no node is counted
abbrev pub blank_count : Counts
blank_count = record { residue = 0; axioms = 0; underscores = 0 }

-- what is counted of the first nodes, each of which has no more than the greatest size
pub record AreCounts (t : Table) (counts : List Counts) : Type 0 where
  pub each : (i : ℕ) → i < length counts → IsCount (tree_at t i) (slice_index_or counts i blank_count)
  pub small : (i : ℕ) → i < length counts → formula_size (tree_at t i) ≤ 16384
