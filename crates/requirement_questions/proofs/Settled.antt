-- What the answer to one formula says of those that it joins.
use Rattle.std.proofs.Common.{◌≡◌, List, subst}
use Rattle.ltl_syntax.specs.declared.node.Kind.{Kind}
use Rattle.ltl_syntax.specs.Formula.{Formula}
use Rattle.ltl_word.specs.declared.trace.Trace.{Trace}
use Rattle.ltl_word.specs.Holds.{Satisfies}
use Rattle.unravel.specs.Decision.{IsModel}
use Rattle.requirement_questions.specs.Formulas.{all_of, SatisfiesEach}
use Rattle.requirement_questions.proofs.Conjunctions.{all_says_each}

pub model_each : (kind : Kind) (f : Formula) (fs : List Formula) (t : Trace) → f ≡ all_of fs → IsModel f kind t → SatisfiesEach kind fs t
model_each kind f fs t e m = record { trace = m.0; of_kind = m.1; each = all_says_each t fs (subst (Satisfies t) e m.2) }
