-- The limit in force: the depth up to which a formula's letters are few enough.
use Rattle.std.specs.Prelude.{ℕ, ◌≤◌}
use Rattle.ltl_syntax.specs.declared.node.Kind.{Kind}
use Rattle.ltl_syntax.specs.Formula.{Formula}
use Rattle.enc_layout.specs.Letters.{LayoutValue, Fits}
use Rattle.enc_layout.specs.Clauses.{counts}

-- the layout of the letters of a formula's clauses
abbrev pub layout : Formula → Kind → LayoutValue
layout f kind = record { kind = kind; counts = counts f }

-- the limit in force: the greatest depth up to n whose letters are within their limit
pub record IsInForce (f : Formula) (kind : Kind) (n d : ℕ) : Type 0 where
  pub below : d ≤ n
  pub fits : Fits (layout f kind) d
  pub greatest : (e : ℕ) → e ≤ n → Fits (layout f kind) e → e ≤ d
