use Rattle.std.proofs.Common.{◌≡◌, ◌∙◌, ◌++◌, [], ◌∷◌, map, sym, ap, ap₂, subst}
use Rattle.std.specs.List.{All}
use Rattle.std.proofs.lemmas.List.{map_more, map_push}
use Rattle.std.proofs.lemmas.List.Elements.{All-append, All-cons, All-nil}
use Rattle.requirement_document.specs.Values.{document_in}
use Rattle.requirement_questions.specs.Formulas.{formula_in, IsThere}
use Rattle.requirement_answers.specs.Items.{formula_of}
use Rattle.requirement_answers.proofs.replying.chosen_items.Goals as goal

pub numbers-preserved : goal.numbers-preserved
numbers-preserved c =
    let d = document_in c.args.document.now in
    let xs = c.args.numbers.now in
    let old = c.numbers.given.items in
    let one = c.item_at.result in
    let grown : c.push.new.self.items ≡ old ++ one ∷ [] = c.in_ok-push.ensures.items in
    record {
      there = subst (All IsThere) (sym grown)
          (All-append IsThere old (one ∷ []) c.numbers.invariant.there (All-cons IsThere one [] c.item_at.ensures.there (All-nil IsThere)));
      so_far = ap (map formula_in) grown ∙ (map_push formula_in old one
          ∙ (ap₂ (λ fs f. fs ++ f ∷ []) c.numbers.invariant.so_far c.item_at.ensures.formula
          ∙ sym (map_more (formula_of d) xs c.numbers.k 0 c.numbers-test.true)));
    }
