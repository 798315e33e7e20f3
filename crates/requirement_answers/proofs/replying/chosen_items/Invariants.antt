use Rattle.std.proofs.Common.{◌≡◌, take, map, All}
use Rattle.requirement_document.specs.Values.{document_in}
use Rattle.requirement_questions.specs.Formulas.{formula_in, IsThere}
use Rattle.requirement_answers.specs.Items.{formulas_of}
use Rattle.requirement_answers.proofs.replying.chosen_items.Given as goal

abbrev pub invariant-numbers : goal.invariant-numbers
invariant-numbers l = record {
  there : All IsThere l.given.items;
  so_far : map formula_in l.given.items ≡ formulas_of (document_in l.document) (take l.k l.numbers);
}
