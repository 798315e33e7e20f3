use Rattle.std.proofs.Common.{◌≡◌}
use Rattle.std.specs.List.{filter, flat_map, range_with_len}
use Rattle.requirement_document.specs.Values.{document_in}
use Rattle.requirement_answers.specs.Asking.{asks_about, covers_item}
use Rattle.requirement_answers.proofs.planning.questions.Given as goal

abbrev pub invariant-items : goal.invariant-items
invariant-items l =
    record { so_far : l.asks.items ≡ flat_map (asks_about (document_in l.document) l.left) (filter (covers_item l.scope) (range_with_len 0 l.number)) }
