use Rattle.std.proofs.Common.{arith}
use Rattle.ltl_syntax.specs.Shape.{Future, Past}
use Rattle.ltl_syntax.specs.Formula.{Binary}
use Rattle.ltl_syntax.specs.declared.node.BinaryOp.TheVariants.{And, Or}
use Rattle.ltl_word.specs.Trace.{IsPosition}
use Rattle.ltl_word.specs.Holds.{Holds}
use Rattle.ltl_word.proofs.Expansion.{until_in, until_out, release_in, release_out, since_in, since_out, trigger_in, trigger_out}
use Rattle.ltl_word.proofs.Steps.{ever_peels, some_first, every_first}
use Rattle.ltl_word.proofs.Decided.{Holds_decided, position_below}
use Rattle.ltl_word.proofs.laws.expansion.Goals as goal

pub returns-clause-until : goal.returns-clause-until
returns-clause-until c a b t i good at =
    (until_out (IsPosition t) (Holds t a) (Holds t b) (position_below t) i, until_in (IsPosition t) (Holds t a) (Holds t b) (position_below t) i at)

pub returns-clause-release : goal.returns-clause-release
returns-clause-release c a b t i good at = (
  release_out (IsPosition t) (Holds t a) (Holds t b) (position_below t) i at (Holds_decided t good a i),
  release_in (IsPosition t) (Holds t a) (Holds t b) (position_below t) i,
)

pub returns-clause-weak_until : goal.returns-clause-weak_until
returns-clause-weak_until c a b t i good at = (
  release_out (IsPosition t) (Holds t b) (Holds t (Binary Or a b)) (position_below t) i at (Holds_decided t good b i),
  release_in (IsPosition t) (Holds t b) (Holds t (Binary Or a b)) (position_below t) i,
)

pub returns-clause-strong_release : goal.returns-clause-strong_release
returns-clause-strong_release c a b t i good at = (
  until_out (IsPosition t) (Holds t b) (Holds t (Binary And a b)) (position_below t) i,
  until_in (IsPosition t) (Holds t b) (Holds t (Binary And a b)) (position_below t) i at,
)

pub returns-clause-eventually : goal.returns-clause-eventually
returns-clause-eventually c a t i good at = some_first (IsPosition t) (Holds t a) (position_below t) Future ever_peels i (omega arith, at)

pub returns-clause-always : goal.returns-clause-always
returns-clause-always c a t i good at = every_first (IsPosition t) (Holds t a) (position_below t) Future ever_peels i (omega arith, at)

pub returns-clause-since : goal.returns-clause-since
returns-clause-since c a b t i good = (since_out (Holds t a) (Holds t b) i, since_in (Holds t a) (Holds t b) i)

pub returns-clause-trigger : goal.returns-clause-trigger
returns-clause-trigger c a b t i good = (trigger_out (Holds t a) (Holds t b) i (Holds_decided t good a i), trigger_in (Holds t a) (Holds t b) i)

pub returns-clause-once : goal.returns-clause-once
returns-clause-once c a t i good = some_first (IsPosition t) (Holds t a) (position_below t) Past ever_peels i (omega arith)

pub returns-clause-historically : goal.returns-clause-historically
returns-clause-historically c a t i good = every_first (IsPosition t) (Holds t a) (position_below t) Past ever_peels i (omega arith)
