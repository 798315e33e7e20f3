-- What two searches come to for one formula.
use Rattle.std.specs.Prelude.{◌≡◌, ⊤}
use Rattle.ltl_syntax.specs.declared.node.Kind.{Kind}
use Rattle.ltl_syntax.specs.Formula.{Formula}
use Rattle.ltl_closure.specs.Entries.{ClosureValue}
use Rattle.unravel.specs.Decision.{IsModel}
use Rattle.claims.specs.Lawful.{IsLawful}
use Rattle.claim_check.specs.Data.{certificate_in}
use Rattle.requirement_questions.specs.declared.asking.SearchOutcome.{SearchOutcome}
use Rattle.requirement_questions.specs.declared.asking.SearchOutcome.TheVariants as outcomes
use Rattle.requirement_questions.specs.declared.turns.Attempted.{Attempted}
use Rattle.requirement_questions.specs.declared.turns.Attempted.TheVariants as attempted

-- a trace of the kind that satisfies the formula, or a certificate that is lawful for it; it may be open for each formula
abbrev pub IsOutcome : Formula → Kind → SearchOutcome → Type 0
IsOutcome f kind (outcomes.Possible t) = IsModel f kind t
IsOutcome f kind (outcomes.Impossible c) = IsLawful f kind (certificate_in c)
IsOutcome f kind outcomes.Undecided = ⊤

-- what one turn more comes to: one of these, or the same attempt goes on, or it has ended
abbrev pub IsAttempted : ClosureValue → Attempted → Type 0
IsAttempted c (attempted.Possible t) = IsModel c.formula c.kind t
IsAttempted c (attempted.Impossible certificate) = IsLawful c.formula c.kind (certificate_in certificate)
IsAttempted c (attempted.Open next) = next ≡ c
IsAttempted c attempted.Ended = ⊤
