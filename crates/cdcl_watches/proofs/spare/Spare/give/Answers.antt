use Rattle.std.proofs.Common.{ℕ, [], ◌∷◌, ◌++◌, List, ap, ◌∙◌, arith, Vec, Global}
use Rattle.cdcl_watches.proofs.ListEdits.{row_edited, row_other}
use Rattle.cdcl_watches.proofs.spare.Spare.give.Goals as goal

abbrev items_of : Vec ℕ Global → List ℕ
items_of v = v.items

pub returns-in-Ok-clause-ok : goal.returns-in-Ok-clause-ok
returns-in-Ok-clause-ok c =
    rw (← c.self.view_is) (row_edited items_of c.lengthen.new.rows.items c.args.class (λ xs. xs ++ c.args.from ∷ []) c.push.new.self c.index_mut.result.now
    (omega (arith, c.in_ok-lengthen.ensures.long)) c.index_mut.ensures.value c.in-Ok.ensures.items
    ∙ ap (λ xs. xs ++ c.args.from ∷ []) (c.in_ok-lengthen.ensures.same c.args.class))

pub returns-in-Ok-clause-others : goal.returns-in-Ok-clause-others
returns-in-Ok-clause-others c d off =
    rw (← c.self.view_is) (row_other items_of c.lengthen.new.rows.items c.args.class d c.push.new.self off ∙ c.in_ok-lengthen.ensures.same d)

pub returns-in-Err-clause-err : goal.returns-in-Err-clause-err
returns-in-Err-clause-err c =
    rw (← c.self.view_is) (row_edited items_of c.lengthen.new.rows.items c.args.class (λ xs. xs) c.push.new.self c.index_mut.result.now (omega (
      arith,
      c.in_ok-lengthen.ensures.long,
    )) c.index_mut.ensures.value c.in-Err.ensures.items
    ∙ c.in_ok-lengthen.ensures.same c.args.class)

pub returns-in-Err-clause-others : goal.returns-in-Err-clause-others
returns-in-Err-clause-others c d off =
    rw (← c.self.view_is) (row_other items_of c.lengthen.new.rows.items c.args.class d c.push.new.self off ∙ c.in_ok-lengthen.ensures.same d)
