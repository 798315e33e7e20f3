use Rattle.std.proofs.Common.{arith}
use Rattle.claim_text.proofs.Hinted.{lines_written, all_written}
use Rattle.claim_text.proofs.writing.push_lines.Goals as goal

pub loop-index-preserved : goal.loop-index-preserved
loop-index-preserved c =
    let l = c.args.lines.now in
    lines_written c.args.out.now.items c.loop-index.out.items c.push_line.new.out.items l.literals l.hints c.loop-index.index c.clause.result.now
    c.hints_at.result.now
    (omega (arith, c.loop-index-test.true, c.count-index-end.ensures)) c.loop-index.invariant c.clause.ensures c.hints_at.ensures c.in_ok-push_line.ensures

pub returns : goal.returns
returns c =
    let l = c.args.lines.now in
    all_written c.args.out.now.items c.loop-index.out.items l.literals l.hints c.loop-index.index
    (omega (arith, c.loop-index-test.false, c.count-index-end.ensures)) c.loop-index.invariant
