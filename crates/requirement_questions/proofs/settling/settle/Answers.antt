use Rattle.std.proofs.Common.{Some, sym, subst}
use Rattle.ltl_syntax.specs.Table.{tree_at}
use Rattle.requirement_questions.specs.Formulas.{some_formulas}
use Rattle.requirement_questions.specs.Members.{places}
use Rattle.requirement_questions.specs.Joining.{IsJoining}
use Rattle.requirement_questions.specs.Settling.{IsRefuted}
use Rattle.requirement_questions.specs.Outcome.{IsOutcome}
use Rattle.requirement_questions.proofs.Settled.{model_each}
use Rattle.requirement_questions.proofs.settling.settle.Goals as goal

pub ask_of-requires : goal.ask_of-requires
ask_of-requires c =
    let fs = some_formulas c.args.question.now (places c.args.members.now) in
    let joined : IsJoining fs (Some c.in-Some.joined) = subst (IsJoining fs) c.in-Some.is c.in_ok-joined.ensures in
    joined.0

pub returns-in-Possible : goal.returns-in-Possible
returns-in-Possible c =
    let q = c.args.question.now in
    let fs = some_formulas q (places c.args.members.now) in
    let j = c.in-Some.joined in
    let joined : IsJoining fs (Some j) = subst (IsJoining fs) c.in-Some.is c.in_ok-joined.ensures in
    let outcome = subst (IsOutcome (tree_at j.table j.root) q.kind) c.in-Possible.is c.in_ok-trace.ensures in
    model_each q.kind (tree_at j.table j.root) fs c.in-Possible.trace joined.1 outcome

pub returns-in_ok-new-in-Impossible : goal.returns-in_ok-new-in-Impossible
returns-in_ok-new-in-Impossible c =
    let q = c.args.question.now in
    let numbers = places c.args.members.now in
    let j = c.in-Some.joined in
    let joined : IsJoining (some_formulas q numbers) (Some j) = subst (IsJoining (some_formulas q numbers)) c.in-Some.is c.in_ok-joined.ensures in
    let lawful = subst (IsOutcome (tree_at j.table j.root) q.kind) c.in-Impossible.is c.in_ok-trace.ensures in
    subst (λ r. IsRefuted q numbers r.certificate r.table r.root) (sym c.in_ok-new-in-Impossible.ensures.ok)
    (record { there = joined.0; formula = joined.1; lawful = lawful })
