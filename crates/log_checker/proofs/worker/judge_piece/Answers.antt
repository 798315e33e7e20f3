use Rattle.std.proofs.Common.{suc, length, sym, arith}
use Rattle.cert_text.specs.Live.{lines_of}
use Rattle.log_checker.proofs.Cutting.{cut_within, cut_read, next_read, judged_at}
use Rattle.log_checker.proofs.worker.judge_piece.Goals as goal

pub first_bad-area-requires-clause-order : goal.first_bad-area-requires-clause-order
first_bad-area-requires-clause-order g c =
    let cuts = c.args.cuts.now.items in
    let low = c.requires.piece in
    let begins = cut_read cuts c.args.worker c.index.result.now (omega (arith, low)) c.index.ensures in
    let ends = next_read cuts c.args.worker c.index-2.result.now low c.index-2.ensures in
    omega (arith, begins, ends, c.requires.cuts.order c.args.worker (omega (arith, low)))

pub first_bad-area-requires-clause-within : goal.first_bad-area-requires-clause-within
first_bad-area-requires-clause-within g c =
    let cuts = c.args.cuts.now.items in
    let ends = next_read cuts c.args.worker c.index-2.result.now c.requires.piece c.index-2.ensures in
    omega (arith, ends, cut_within (length (lines_of c.args.view.now.parts)) (suc c.args.worker) cuts c.requires.cuts (omega (arith, c.requires.piece)))

pub returns-clause-judged : goal.returns-clause-judged
returns-clause-judged g c =
    let cuts = c.args.cuts.now.items in
    let low = c.requires.piece in
    judged_at (g.C.NamedClauses.clauses c.args.clauses.now) c.args.view.now.parts cuts c.args.worker c.index.result.now c.index-2.result.now
    (length c.args.area.now.assignment) (length c.first_bad-area.new.assignment) c.first_bad-area.result
    (cut_read cuts c.args.worker c.index.result.now (omega (arith, low)) c.index.ensures)
    (next_read cuts c.args.worker c.index-2.result.now low c.index-2.ensures) (sym c.first_bad-area.ensures.size) c.first_bad-area.ensures.first
