-- What the law of verdicts says.
use Rattle.std.specs.Prelude.{ℕ}
use Rattle.ltl_syntax.specs.declared.node.Kind.{Kind}
use Rattle.ltl_syntax.specs.Formula.{Formula}
use Rattle.ltl_closure.specs.Run.{Verdict, IsVerdict}

-- at each limit a formula has a verdict
abbrev pub VerdictIsThere : Type 0
VerdictIsThere = (f : Formula) (kind : Kind) (limit : ℕ) → (v : Verdict) × IsVerdict f kind limit v
