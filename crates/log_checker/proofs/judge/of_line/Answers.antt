use Rattle.std.proofs.Common.{sym, ◌∙◌}
use mathlib.Core.Bool.{false≢true}
use Rattle.log_checker.proofs.Named.{read_more, read_neither, read_unknown, read_all}
use Rattle.log_checker.proofs.judge.of_line.Goals as goal

pub returns-then-not-knows : goal.returns-then-not-knows
returns-then-not-knows g c =
    read_unknown _ _ _ _ _ _ _ c.literals.invariant c.in-Some.ensures (λ known. false≢true (sym c.if-not-knows.true ∙ c.knows.ensures.1 known))

pub returns-in-Neither : goal.returns-in-Neither
returns-in-Neither g c =
    read_neither _ _ _ _ _
    (read_more _ _ _ _ _ _ _ _ c.literals.invariant c.in-Some.ensures (c.knows.ensures.0 c.if-not-knows.false) c.with_literal-outcome.ensures) c.in-Neither.is

pub literals-preserved : goal.literals-preserved
literals-preserved g c =
    (read_more _ _ _ _ _ _ _ _ c.literals.invariant c.in-Some.ensures (c.knows.ensures.0 c.if-not-knows.false) c.with_literal-outcome.ensures)

pub returns : goal.returns
returns g c = read_all _ _ _ _ _ c.literals.invariant c.in_default.ensures.0
