use Rattle.std.proofs.Common.{◌≤◌, length, arith}
use Rattle.cert_text.proofs.Wholly.{write_end, text_written}
use Rattle.cert_text.proofs.writing.append.Goals as goal

pub returns : goal.returns
returns c =
    let log = c.args.derivation.now in
    let end : length log.lines ≤ c.loop-index.index = omega (arith, c.loop-index-test.false, c.lines-index-end.ensures) in
    text_written c.args.kind c.args.depth log.lines log.hints c.args.targets.now c.args.out.now.items c.loop-index.out.items c.push_close.new.out.items
    (write_end log.hints c.args.targets.now log.lines c.loop-index.index c.loop-index.out.items _ end c.loop-index.invariant) c.in_ok-push_close.ensures
