use Rattle.std.proofs.Common.{sym, subst, arith}
use Rattle.log_checker.specs.Values.{letters_in, falses_in}
use Rattle.log_checker.specs.Judging.{IsHintOutcome}
use Rattle.log_checker.proofs.Refuting.{named_clause, named_line}
use Rattle.log_checker.proofs.judge.of_hint.Goals as goal

pub returns-else-number-last_number : goal.returns-else-number-last_number
returns-else-number-last_number g c =
    let clauses = g.C.NamedClauses.clauses c.args.clauses.now in
    let lines = g.L.NamedLines.lines c.args.lines.now in
    let is = named_clause clauses lines (letters_in c.args.assignment.now) (falses_in c.args.assignment.now) c.in-Clause.number _
    (omega (arith, c.if-number-lt1.false)) (omega (arith, c.if-number-last_number.false, c.last_number.ensures)) c.outcome.ensures in
    subst (λ h. IsHintOutcome clauses lines (letters_in c.args.assignment.now) (falses_in c.args.assignment.now) h c.outcome.result) (sym c.in-Clause.is) is

pub returns-in-Some : goal.returns-in-Some
returns-in-Some g c =
    let clauses = g.C.NamedClauses.clauses c.args.clauses.now in
    let lines = g.L.NamedLines.lines c.args.lines.now in
    let is = named_line clauses lines (letters_in c.args.assignment.now) (falses_in c.args.assignment.now)
    c.in-Line.number _ _ c.in-Some.ensures c.of_line.ensures in
    subst (λ h. IsHintOutcome clauses lines (letters_in c.args.assignment.now) (falses_in c.args.assignment.now) h c.of_line.result) (sym c.in-Line.is) is
