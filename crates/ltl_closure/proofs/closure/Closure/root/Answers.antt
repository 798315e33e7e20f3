use Rattle.std.proofs.Common.{subst, sym, length}
use Rattle.ltl_syntax.specs.Table.{tree_at}
use Rattle.ltl_closure.specs.Closure.{closure}
use Rattle.ltl_closure.specs.Entries.{IsNumber}
use Rattle.ltl_closure.proofs.Known.{root_number}
use Rattle.ltl_closure.proofs.closure.Closure.root.Goals as goal

pub returns-clause-known : goal.returns-clause-known
returns-clause-known c =
    let f = tree_at c.self.inside.table.now c.self.inside.node in
    subst (λ s. IsNumber (length (closure s.formula)) c.self.inside.root) c.self.view_is
    (subst (IsNumber (length (closure f))) (sym c.self.invariant.root) (root_number f))
