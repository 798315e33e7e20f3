use Rattle.std.proofs.Common.{◌∙◌, subst, length, All}
use Rattle.ltl_syntax.specs.Table.{tree_at}
use Rattle.ltl_closure.specs.Closure.{closure, yesterdays}
use Rattle.ltl_closure.specs.Entries.{numbers_of, IsNumber}
use Rattle.ltl_closure.proofs.Known.{all_known, yesterdays_known}
use Rattle.ltl_closure.proofs.closure.Closure.yesterdays.Goals as goal

pub returns-clause-known : goal.returns-clause-known
returns-clause-known c =
    let f = tree_at c.self.inside.table.now c.self.inside.node in
    let is = c.deref.ensures.value ∙ c.self.invariant.yesterdays in
    subst (λ s. All (IsNumber (length (closure s.formula))) c.deref.result.now) c.self.view_is
    (all_known (length (closure f)) c.deref.result.now (numbers_of f (yesterdays f)) is (yesterdays_known f))
