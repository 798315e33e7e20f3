use Rattle.ltl_syntax.specs.Shape.{Past, Step, Ever}
use Rattle.ltl_syntax.specs.Formula.{Formula, Unary}
use Rattle.ltl_syntax.specs.declared.node.UnaryOp.TheVariants.{Not}
use Rattle.ltl_word.specs.declared.trace.Trace.{Trace}
use Rattle.ltl_word.specs.Claims.{Claim}
use Rattle.ltl_word.specs.Trace.{IsPosition}
use Rattle.ltl_word.specs.Holds.{Holds}
use Rattle.ltl_word.proofs.Agreement.{all_numbers, Same-self, both_back, Same-no_since, Same-no_trigger}
use Rattle.ltl_word.proofs.Decided.{Holds_decided, no_somewhere, no_everywhere}
use Rattle.ltl_word.proofs.laws.past_duality.Goals as goal

abbrev not_of : Trace → Formula → Claim
not_of t a = Holds t (Unary Not a)

pub returns-clause-yesterday : goal.returns-clause-yesterday
returns-clause-yesterday c a t i good = no_somewhere t a Past Step i

pub returns-clause-weak_yesterday : goal.returns-clause-weak_yesterday
returns-clause-weak_yesterday c a t i good = no_everywhere t a Past Step i good

pub returns-clause-once : goal.returns-clause-once
returns-clause-once c a t i good = no_somewhere t a Past Ever i

pub returns-clause-historically : goal.returns-clause-historically
returns-clause-historically c a t i good = no_everywhere t a Past Ever i good

pub returns-clause-since : goal.returns-clause-since
returns-clause-since c a b t i good = both_back (Same-no_since (all_numbers (IsPosition t)) (Holds t a) (Holds t b) _ _ (Holds_decided t good a)
    (Holds_decided t good b) (Same-self (not_of t a)) (Same-self (not_of t b))) i

pub returns-clause-trigger : goal.returns-clause-trigger
returns-clause-trigger c a b t i good = both_back (Same-no_trigger (all_numbers (IsPosition t)) (Holds t a) (Holds t b) _ _ (Holds_decided t good a)
    (Holds_decided t good b) (Same-self (not_of t a)) (Same-self (not_of t b))) i
