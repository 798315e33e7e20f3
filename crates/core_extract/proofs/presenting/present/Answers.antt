use Rattle.std.proofs.Common.{◌≡◌, ◌∙◌, ap, subst, IfOk}
use Rattle.ltl_syntax.specs.Table.{tree_at}
use Rattle.ltl_syntax.specs.Flat.{places_of}
use Rattle.ltl_syntax.specs.Replacement.{rep}
use Rattle.ltl_syntax.proofs.Places.{one_set}
use Rattle.core_extract.specs.Testing.{formula_of, marked}
use Rattle.core_extract.proofs.presenting.present.Goals as goal

pub returns-clause-tree : goal.returns-clause-tree
returns-clause-tree c =
    let t = c.args.task.now.table.now in
    let root = c.args.task.now.root in
    let numbers = places_of t root c.in_ok-numbers.numbers.items in
    subst (λ X. IfOk c.replace.result (λ r. tree_at r.0 r.1 ≡ rep (formula_of c.args.task.now) X))
    (ap (places_of t root) c.deref.ensures.value ∙ one_set numbers (marked c.args.marks.now.items) c.in_ok-numbers.ensures.places) c.replace.ensures.tree
