-- What the laws of verdicts say.
use Rattle.std.specs.Prelude.{◌≡◌}
use Rattle.ltl_syntax.specs.declared.node.Kind.{Kind}
use Rattle.ltl_syntax.specs.Formula.{Formula}
use Rattle.claims.specs.Certificate.{Certificate}
use Rattle.claim_check.specs.Reasons.{IsVerdict}
use Rattle.claim_check.specs.declared.reason.ClaimVerdict.{ClaimVerdict}

-- there is a verdict on each certificate
abbrev pub VerdictIsThere : Type 0
VerdictIsThere = (f : Formula) (kind : Kind) (c : Certificate) → (v : ClaimVerdict) × IsVerdict f kind c v

-- and one only: it is lawful, or has one first reason
abbrev pub VerdictIsOne : Type 0
VerdictIsOne = (f : Formula) (kind : Kind) (c : Certificate) (a b : ClaimVerdict) → IsVerdict f kind c a → IsVerdict f kind c b → a ≡ b
