use Rattle.ltl_syntax.specs.Shape.{Future, Past, Exactly, Between}
use Rattle.ltl_syntax.specs.Formula.{Unary}
use Rattle.ltl_syntax.specs.declared.node.UnaryOp.TheVariants.{Not}
use Rattle.ltl_word.specs.Trace.{IsPosition}
use Rattle.ltl_word.specs.Holds.{Holds}
use Rattle.ltl_word.proofs.Reached.{every_exactly}
use Rattle.ltl_word.proofs.Decided.{no_somewhere, no_everywhere}
use Rattle.ltl_word.proofs.laws.bounded_duality.Goals as goal

pub returns-clause-next : goal.returns-clause-next
returns-clause-next c n a t i good =
    let e = every_exactly (IsPosition t) (Holds t (Unary Not a)) Future n i in
    let d = no_somewhere t a Future (Exactly n) i in
    (λ h. e.0 (d.0 h), λ f. d.1 (e.1 f))

pub returns-clause-yesterday : goal.returns-clause-yesterday
returns-clause-yesterday c n a t i good =
    let e = every_exactly (IsPosition t) (Holds t (Unary Not a)) Past n i in
    let d = no_somewhere t a Past (Exactly n) i in
    (λ h. e.0 (d.0 h), λ f. d.1 (e.1 f))

pub returns-clause-eventually : goal.returns-clause-eventually
returns-clause-eventually c m n a t i good = no_somewhere t a Future (Between m n) i

pub returns-clause-always : goal.returns-clause-always
returns-clause-always c m n a t i good = no_everywhere t a Future (Between m n) i good

pub returns-clause-once : goal.returns-clause-once
returns-clause-once c m n a t i good = no_somewhere t a Past (Between m n) i

pub returns-clause-historically : goal.returns-clause-historically
returns-clause-historically c m n a t i good = no_everywhere t a Past (Between m n) i good
