use Rattle.std.proofs.Common.{sym, subst}
use Rattle.ltl_syntax.specs.Formula.{HasNoFresh}
use Rattle.ltl_syntax.specs.Table.{tree_at}
use Rattle.report.specs.declared.fault.Fault.TheVariants as faults
use Rattle.enc_layout.specs.Limit.{IsInForce}
use Rattle.black_top.specs.Answer.{refused}
use Rattle.black_top.specs.Solve.{IsSettled, IsDecided}
use Rattle.black_top.proofs.Settling.{refused_letters, settled_at, number_is, number_small}
use Rattle.black_top.proofs.Showing.{shown, shown_as}
use Rattle.black_top.proofs.commands.solve.settle.Goals as goal

pub decide-requires-clause-asked : goal.decide-requires-clause-asked
decide-requires-clause-asked g c κs lives = number_small c.args.options.depth c.unwrap_or-asked.result c.requires.depth c.unwrap_or-asked.ensures

pub decide-requires-clause-force : goal.decide-requires-clause-force
decide-requires-clause-force g c κs lives =
    let value = c.in_ok-closure.closure in
    subst (λ n. IsInForce value.formula value.kind n c.in-Ok.limit) (sym (number_is c.args.options.depth c.unwrap_or-asked.result c.unwrap_or-asked.ensures))
    c.in-Ok.ensures.ok.0

pub decide-requires-clause-given : goal.decide-requires-clause-given
decide-requires-clause-given g c κs lives = subst HasNoFresh (sym c.in_ok-closure.ensures.formula) c.requires.given

pub returns-in-Ok : goal.returns-in-Ok
returns-in-Ok g c =
    let f = tree_at c.args.table.now c.args.root in
    let o = c.args.options in
    let closure = c.in_ok-closure.ensures in
    let value = c.in_ok-closure.closure in
    let limit = c.in-Ok.limit in
    shown_as (IsDecided value.formula value.kind c.unwrap_or-asked.result limit o.core o.cert) (IsSettled o.kind o.depth o.core o.cert f) c.decide.result
    (settled_at value o.kind o.depth o.core o.cert f c.unwrap_or-asked.result limit closure.formula closure.kind c.unwrap_or-asked.ensures c.in-Ok.ensures.ok)
    c.decide.ensures

pub returns : goal.returns
returns g c =
    let f = tree_at c.args.table.now c.args.root in
    let o = c.args.options in
    let closure = c.in_ok-closure.ensures in
    let limit = c.in-Err.limit in
    shown (IsSettled o.kind o.depth o.core o.cert f) (refused (faults.Letters limit)) c.refusal.result
    (refused_letters c.in_ok-closure.closure o.kind o.depth o.core o.cert f limit closure.formula closure.kind c.in-Err.ensures.err) c.refusal.ensures
