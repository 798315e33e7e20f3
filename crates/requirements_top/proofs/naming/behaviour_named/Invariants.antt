use Rattle.std.proofs.Common.{◌<◌, ℕ}
use Rattle.requirement_document.specs.Values.{document_in}
use Rattle.requirements_top.specs.Naming.{behaviour_names, StandsAt}
use Rattle.requirements_top.proofs.naming.behaviour_named.Given as goal

abbrev pub invariant-behaviours : goal.invariant-behaviours
invariant-behaviours l = record { before : (n : ℕ) → n < l.number → ¬ (StandsAt (behaviour_names (document_in l.document)) l.name n) }
