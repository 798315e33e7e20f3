use Rattle.std.proofs.Common.{◌<◌, ℕ}
use Rattle.requirement_document.specs.Values.{document_in}
use Rattle.requirements_top.specs.Naming.{item_names, StandsAt}
use Rattle.requirements_top.proofs.naming.item_named.Given as goal

abbrev pub invariant-items : goal.invariant-items
invariant-items l = record { before : (n : ℕ) → n < l.number → ¬ (StandsAt (item_names (document_in l.document)) l.name n) }
