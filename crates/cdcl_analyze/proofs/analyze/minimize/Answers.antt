use Rattle.std.proofs.Common.{◌≤◌, length, arith}
use Rattle.std.proofs.lemmas.Result.{on_ok_weaker}
use Rattle.cdcl_analyze.proofs.Minimal.{walk_cited}
use Rattle.cdcl_analyze.proofs.Steps.{like_itself}
use Rattle.cdcl_analyze.proofs.analyze.minimize.Goals as goal

pub returns-clause-walked : goal.returns-clause-walked
returns-clause-walked c =
    let log = c.args.graph.now.log in
    let trail = c.args.graph.now.trail in
    let base = c.base_of-base.result in
    let marks = c.keep_rest.new.marks in
    let kept = c.keep_rest.new.learnt in
    let cited = c.cite_consequences.new.learnt in
    let fits : base ≤ c.args.from = c.base_of-base.ensures in
    let like = like_itself c.args.graph.now c.invariant.ensures base (omega (arith, fits, c.requires.can_walk.within)) in
    on_ok_weaker c.walk.result (λ walked start. walked trail like
    (walk_cited log.inputs log.lines trail c.args.graph.now.values (length c.args.graph.now.values)
    base c.args.from c.args.marks.now marks c.args.learnt.now.clause.items c.args.learnt.now.hints.items
    c.args.learnt.now.places.items kept.clause.items kept.places.items c.invariant.ensures.is_trail c.invariant.ensures.told c.invariant.ensures.known_inputs
    c.invariant.ensures.known_lines c.invariant.ensures.few fits start c.in_ok-keep_rest.ensures.rest
    cited.clause.items kept.hints.items cited.hints.items cited.places.items c.consequences.result.now c.in_ok-cite_consequences.ensures.clause
    c.in_ok-cite_consequences.ensures.places
    c.in_ok-keep_rest.ensures.hints c.consequences.ensures c.in_ok-cite_consequences.ensures.hints)) c.walk.ensures.walked
