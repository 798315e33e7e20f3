use Rattle.ltl_syntax.specs.Formula.{Formula, Unary}
use Rattle.ltl_syntax.specs.declared.node.UnaryOp.TheVariants.{Not}
use Rattle.ltl_word.specs.declared.trace.Trace.{Trace}
use Rattle.ltl_word.specs.Claims.{Claim}
use Rattle.ltl_word.specs.Holds.{Holds}
use Rattle.ltl_word.proofs.Agreement.{Same-self, both_back, Same-no_and, Same-no_implies, Same-no_iff}
use Rattle.ltl_word.proofs.Decided.{Holds_decided}
use Rattle.ltl_word.proofs.laws.propositional_duality.Goals as goal

abbrev not_of : Trace → Formula → Claim
not_of t a = Holds t (Unary Not a)

pub returns-clause-negation : goal.returns-clause-negation
returns-clause-negation c a t i good = (λ h. elim (Holds_decided t good a i) [ yes x ↦ x | no n ↦ absurd (h n) ], λ x n. n x)

pub returns-clause-and : goal.returns-clause-and
returns-clause-and c a b t i good =
    both_back (Same-no_and (Holds t a) (Holds t b) _ _ (Holds_decided t good a) (Same-self (not_of t a)) (Same-self (not_of t b))) i

pub returns-clause-implies : goal.returns-clause-implies
returns-clause-implies c a b t i good =
    both_back (Same-no_implies (Holds t a) (Holds t b) _ _ (Holds_decided t good a) (Same-self (not_of t a)) (Same-self (not_of t b))) i

pub returns-clause-iff : goal.returns-clause-iff
returns-clause-iff c a b t i good =
    both_back (Same-no_iff (Holds t a) (Holds t b) _ _ (Holds_decided t good a) (Same-self (not_of t a)) (Same-self (not_of t b)) (Holds_decided t good b)) i
