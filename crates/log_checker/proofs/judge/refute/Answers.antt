use Rattle.std.proofs.Common.{◌≡◌, ◌-◌, ◌<◌, length, get_or, set, sym, ap, ◌∙◌, subst}
use Rattle.std.proofs.lemmas.List.{length-set}
use mathlib.Core.Bool.{false≢true}
use Rattle.cnf_base.specs.declared.literal.Literal.{Literal}
use Rattle.cnf_base.specs.Known.{AreKnown}
use Rattle.log_checker.specs.Values.{false_of, letters_in, falses_in}
use Rattle.log_checker.specs.Judging.{IsHintOutcome}
use Rattle.log_checker.specs.declared.assignment.Truth.TheVariants.{Unset}
use Rattle.log_checker.proofs.Named.{known_within}
use Rattle.log_checker.proofs.Refuting.{Remain, remain_neither, remain_false, remain_forces, forced_known, forced_unset, ends_here}
use Rattle.log_checker.proofs.judge.refute.Goals as goal

pub returns-in-AllFalse-clause-refuted : goal.returns-in-AllFalse-clause-refuted
returns-in-AllFalse-clause-refuted g c =
    let clauses = g.C.NamedClauses.clauses c.args.clauses.now in
    let lines = g.L.NamedLines.lines c.args.lines.now in
    let F = falses_in c.hints.assignment in
    let is = subst (λ n. IsHintOutcome clauses lines (n - 1) F c.in-Some.hint c.of_hint.result) c.hints.invariant.0 c.of_hint.ensures in
    let law = remain_false clauses lines (letters_in c.args.assignment.now) F _ _ _ _ _ _ c.hints.invariant.1 c.in-Some.ensures is c.in-AllFalse.is in
    let ends = ends_here (g.H.Listed.items c.take.new.self) _ _ _ c.take-in-AllFalse.ensures c.is_none.ensures in
    (λ yes. law.0 (ends.0 yes), λ it. ends.1 (law.1 it))

pub falsify-requires-clause-known : goal.falsify-requires-clause-known
falsify-requires-clause-known g c =
    let clauses = g.C.NamedClauses.clauses c.args.clauses.now in
    let lines = g.L.NamedLines.lines c.args.lines.now in
    let values = c.hints.assignment in
    let is = subst (IsHintOutcome clauses lines (letters_in values) (falses_in values) c.in-Some.hint) c.in-Forces.is c.of_hint.ensures in
    let all = subst (λ n. AreKnown (n - 1) clauses) (sym c.hints.invariant.0) c.requires in
    subst (λ (l : Literal). l.letter.0 < length values) (sym c.opposite.ensures)
    (known_within values c.in-Forces.literal (forced_known clauses lines (letters_in values) (falses_in values) c.in-Some.hint c.in-Forces.literal all is))

pub falsify-requires-clause-unset : goal.falsify-requires-clause-unset
falsify-requires-clause-unset g c =
    let clauses = g.C.NamedClauses.clauses c.args.clauses.now in
    let lines = g.L.NamedLines.lines c.args.lines.now in
    let values = c.hints.assignment in
    let is = subst (IsHintOutcome clauses lines (letters_in values) (falses_in values) c.in-Some.hint) c.in-Forces.is c.of_hint.ensures in
    subst (λ (l : Literal). get_or values l.letter.0 Unset ≡ Unset) (sym c.opposite.ensures)
    (forced_unset clauses lines (letters_in values) values c.in-Some.hint c.in-Forces.literal is)

pub hints-preserved : goal.hints-preserved
hints-preserved g c =
    let clauses = g.C.NamedClauses.clauses c.args.clauses.now in
    let lines = g.L.NamedLines.lines c.args.lines.now in
    let values = c.hints.assignment in
    let u = c.in-Forces.literal in
    let is = subst (IsHintOutcome clauses lines (letters_in values) (falses_in values) c.in-Some.hint) c.in-Forces.is c.of_hint.ensures in
    let here = subst (λ n. IsHintOutcome clauses lines (n - 1) (falses_in values) c.in-Some.hint c.of_hint.result) c.hints.invariant.0 c.of_hint.ensures in
    let all = subst (λ n. AreKnown (n - 1) clauses) (sym c.hints.invariant.0) c.requires in
    let low = known_within values u (forced_known clauses lines (letters_in values) (falses_in values) c.in-Some.hint u all is) in
    let none = forced_unset clauses lines (letters_in values) values c.in-Some.hint u is in
    let remain = remain_forces clauses lines (letters_in c.args.assignment.now)
    values _ _ _ _ _ _ u c.hints.invariant.1 c.in-Some.ensures here c.in-Forces.is low none in
    let next = c.falsify.ensures ∙ ap (λ (l : Literal). set values l.letter.0 (false_of l.negated)) c.opposite.ensures in (
      ap length c.falsify.ensures ∙ length-set values c.opposite.result.letter.0 (false_of c.opposite.result.negated) ∙ c.hints.invariant.0,
      subst (λ vs. Remain clauses lines (letters_in c.args.assignment.now) (falses_in vs) (g.H.Listed.items c.take.new.self) (falses_in c.args.assignment.now)
          (g.H.Listed.items c.args.hints)) (sym next) remain,
    )

pub returns-in-Neither-clause-refuted : goal.returns-in-Neither-clause-refuted
returns-in-Neither-clause-refuted g c =
    let clauses = g.C.NamedClauses.clauses c.args.clauses.now in
    let lines = g.L.NamedLines.lines c.args.lines.now in
    let F = falses_in c.hints.assignment in
    let is = subst (λ n. IsHintOutcome clauses lines (n - 1) F c.in-Some.hint c.of_hint.result) c.hints.invariant.0 c.of_hint.ensures in
    let never = remain_neither clauses lines (letters_in c.args.assignment.now) F _ _ _ _ _ _ c.hints.invariant.1 c.in-Some.ensures is c.in-Neither.is in
    (λ yes. absurd (false≢true yes), λ it. absurd (never it))
