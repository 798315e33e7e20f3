use Rattle.std.proofs.Common.{◌≢◌, ◌<◌, ℕ, subst, [], length, get_or}
use Rattle.ltl_syntax.specs.Table.{Table, IsPlain}
use Rattle.ltl_syntax.proofs.table.FormulaTable.letters.Goals as goal

pub returns-clause-distinct : goal.returns-clause-distinct
returns-clause-distinct c =
    subst (λ (t : Table). (i j : ℕ) → i < j → j < length t.names → get_or t.names i [] ≢ get_or t.names j []) c.self.view_is c.self.invariant.0.distinct

pub returns-clause-plain : goal.returns-clause-plain
returns-clause-plain c = subst (λ (t : Table). (i : ℕ) → i < length t.names → IsPlain (get_or t.names i [])) c.self.view_is c.self.invariant.0.plain
