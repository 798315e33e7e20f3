use Rattle.std.proofs.Common.{[], ◌∙◌, ap}
use Rattle.std.proofs.lemmas.Option.{get_or_from_slice_get}
use Rattle.ltl_syntax.specs.Formula.{Letter, Name}
use Rattle.ltl_syntax.specs.Table.{tree_at}
use Rattle.requirement_document.proofs.Judging.{letter_is}
use Rattle.requirement_document.proofs.accepting.is_letter_of.Goals as goal

pub returns-in-Letter : goal.returns-in-Letter
returns-in-Letter c =
    rw c.eq.ensures (letter_is (tree_at c.args.table.now c.args.root) c.name_of.result.now c.args.name.now
    (c.in-Letter.ensures.tree ∙ ap (λ n. Letter (Name n))
    (get_or_from_slice_get c.args.table.now.names c.in-Letter.letter c.name_of.result.now [] c.name_of.ensures.name)))
