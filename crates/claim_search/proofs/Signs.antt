-- Literals whose signs are written at their letters do not contradict one another.
use Rattle.std.proofs.Common.{◌≡◌, Bool, true, false, not, sym, ◌∙◌, List, All}
use mathlib.Core.Bool.{false≢true}
use Rattle.std.proofs.lemmas.List.Elements.{All-contains}
use Rattle.cnf_base.specs.declared.literal.Literal.{Literal}
use Rattle.cnf_base.specs.Literal.{opposite}
use Rattle.cdcl.specs.Solving.{IsConsistent}
use Rattle.claim_search.specs.Signs.{HasSign}

not_its_own : (b : Bool) → b ≡ not b → ⊥
not_its_own true h = false≢true (sym h)
not_its_own false h = false≢true h

pub consistent : (signs : List Bool) (literals : List Literal) → All (HasSign signs) literals → IsConsistent literals
consistent signs literals h l here there = not_its_own l.negated
    (sym (All-contains (HasSign signs) literals l h here) ∙ All-contains (HasSign signs) literals (opposite l) h there)
