use Rattle.ltl_syntax.specs.Shape.{Future, Step, Ever}
use Rattle.ltl_syntax.specs.Formula.{Formula, Unary, Binary}
use Rattle.ltl_syntax.specs.declared.node.UnaryOp.TheVariants.{Not}
use Rattle.ltl_syntax.specs.declared.node.BinaryOp.TheVariants.{And, Or}
use Rattle.ltl_word.specs.declared.trace.Trace.{Trace}
use Rattle.ltl_word.specs.Trace.{IsPosition}
use Rattle.ltl_word.specs.Claims.{Claim}
use Rattle.ltl_word.specs.Holds.{Holds}
use Rattle.ltl_word.proofs.Agreement.{all_numbers, Same-self, both_back, Same-no_and, Same-no_or, Same-no_until}
use Rattle.ltl_word.proofs.Agreement.{Same-no_release}
use Rattle.ltl_word.proofs.Decided.{Holds_decided, Position_decided, horizon, no_somewhere, no_everywhere}
use Rattle.ltl_word.proofs.laws.future_duality.Goals as goal

abbrev not_of : Trace → Formula → Claim
not_of t a = Holds t (Unary Not a)

pub returns-clause-next : goal.returns-clause-next
returns-clause-next c a t i good = no_somewhere t a Future Step i

pub returns-clause-weak_next : goal.returns-clause-weak_next
returns-clause-weak_next c a t i good = no_everywhere t a Future Step i good

pub returns-clause-eventually : goal.returns-clause-eventually
returns-clause-eventually c a t i good = no_somewhere t a Future Ever i

pub returns-clause-always : goal.returns-clause-always
returns-clause-always c a t i good = no_everywhere t a Future Ever i good

pub returns-clause-until : goal.returns-clause-until
returns-clause-until c a b t i good = both_back (Same-no_until (all_numbers (IsPosition t)) (Holds t a) (Holds t b) _ _ (Holds_decided t good a)
    (Holds_decided t good b) (Same-self (not_of t a)) (Same-self (not_of t b))) i

pub returns-clause-release : goal.returns-clause-release
returns-clause-release c a b t i good = both_back (Same-no_release (all_numbers (IsPosition t)) (Holds t a) (Holds t b) _ _ (Position_decided t)
    (Holds_decided t good a) (Holds_decided t good b) (horizon t good _ (Unary Not b)) (Same-self (not_of t a)) (Same-self (not_of t b))) i

pub returns-clause-weak_until : goal.returns-clause-weak_until
returns-clause-weak_until c a b t i good = both_back (Same-no_release (all_numbers (IsPosition t)) (Holds t b) (Holds t (Binary Or a b)) _ _
    (Position_decided t) (Holds_decided t good b) (Holds_decided t good (Binary Or a b)) (horizon t good _ (Unary Not (Binary Or a b))) (Same-self (not_of t b))
    (Same-no_or (Holds t a) (Holds t b) _ _ (Holds_decided t good a) (Same-self (not_of t a)) (Same-self (not_of t b)))) i

pub returns-clause-strong_release : goal.returns-clause-strong_release
returns-clause-strong_release c a b t i good = both_back
    (Same-no_until (all_numbers (IsPosition t)) (Holds t b) (Holds t (Binary And a b)) _ _ (Holds_decided t good b) (Holds_decided t good (Binary And a b))
    (Same-self (not_of t b)) (Same-no_and (Holds t a) (Holds t b) _ _ (Holds_decided t good a) (Same-self (not_of t a)) (Same-self (not_of t b)))) i
