-- What a checker knows of a target that keeps the live lines alone.
use Rattle.std.specs.Prelude.{◌≡◌, ℕ, List, All, Contains, Some}
use Rattle.ltl_syntax.specs.declared.node.Kind.{Kind}
use Rattle.ltl_syntax.specs.Formula.{Formula}
use Rattle.cnf_base.specs.declared.literal.Literal.{Literal as Signed}
use Rattle.log_checker.specs.Judging.{LiveLine, found}
use Rattle.cert_check.specs.Lawful.{target_literals}

-- target i + 1 names this line, and it is kept and has only its literals
abbrev pub IsGoodKept : Formula → Kind → ℕ → List LiveLine → ℕ → ℕ → Type 0
IsGoodKept f kind depth kept i target = (line : List Signed) × (found kept target ≡ Some line) × All (Contains (target_literals f kind depth i)) line
