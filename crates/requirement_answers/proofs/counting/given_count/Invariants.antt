use Rattle.std.proofs.Common.{◌≡◌, ◌≤◌, length}
use Rattle.std.specs.List.{filter, range_with_len}
use Rattle.requirement_document.specs.Values.{document_in}
use Rattle.requirement_answers.specs.Items.{role_of, is_given}
use Rattle.requirement_answers.proofs.counting.given_count.Given as goal

abbrev pub invariant-items : goal.invariant-items
invariant-items l = record {
  so_far : l.count ≡ length (filter (λ n. is_given (role_of (document_in l.document) n)) (range_with_len 0 l.number));
  few : l.count ≤ l.number;
}
