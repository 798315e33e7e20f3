use Rattle.std.proofs.Common.{◌≡◌, List, All, Some, length, sym, ◌∙◌, subst}
use Rattle.std.proofs.lemmas.Option.{same_Some}
use Rattle.std.proofs.lemmas.List.Elements.{Contains-get_or}
use Rattle.cnf_base.specs.declared.literal.Literal.{Literal}
use Rattle.cnf_base.specs.Step.{named}
use Rattle.cdcl_trail.specs.Values.{IsBelow}
use Rattle.cdcl_propagate.specs.Visit.{HaveSame}
use Rattle.cdcl_analyze.specs.Graph.{GraphValue}
use Rattle.cdcl_analyze.specs.Reason.{read_literals}
use Rattle.cdcl_trail.proofs.Bridge.{named_has}
use Rattle.cdcl_analyze.proofs.Sameness.{noted_read, read_has}
use Rattle.cdcl_analyze.proofs.graph.ImplicationGraph.reason.Goals as goal

pub returns-in-Some-reason-clause-same : goal.returns-in-Some-reason-clause-same
returns-in-Some-reason-clause-same c =
    let log = c.self.inside.view in
    let read = c.in-Some-reason.clause in
    let noted =
    noted_read log.inputs log.lines c.self.inside.arena.now c.args.hint c.in-Some.name read c.self.invariant.1 c.in-Some.ensures.0 c.in-Some-reason.ensures in
    subst (λ (g : GraphValue). (clause : List Literal) → named g.log.inputs g.log.lines c.args.hint ≡ Some clause → HaveSame clause read) c.self.view_is
    (λ clause is. subst (λ r. HaveSame r read) (same_Some noted.0 clause (sym noted.1 ∙ is)) noted.2)

pub returns-in-Some-reason-clause-known : goal.returns-in-Some-reason-clause-known
returns-in-Some-reason-clause-known c =
    let log = c.self.inside.view in
    let letters = length c.self.inside.assigned.now.values in
    let read = c.in-Some-reason.clause in
    let graph = c.self.invariant.0 in
    let noted =
    noted_read log.inputs log.lines c.self.inside.arena.now c.args.hint c.in-Some.name read c.self.invariant.1 c.in-Some.ensures.0 c.in-Some-reason.ensures in
    subst (λ (g : GraphValue). All (IsBelow (length g.values)) read) c.self.view_is
    (read_has (IsBelow letters) noted.0 read noted.2
    (named_has (All (IsBelow letters)) log.inputs log.lines c.args.hint noted.0 graph.known_inputs graph.known_lines noted.1))

pub returns-clause-same : goal.returns-clause-same
returns-clause-same c = λ clause is.
    subst (HaveSame clause) (same_Some clause (read_literals c.clause.result) (sym is ∙ c.clause.ensures.is)) (record {
      there = λ k d below. Contains-get_or clause k d below;
      back = λ k d below. Contains-get_or clause k d below;
    })
