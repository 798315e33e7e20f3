use Rattle.std.proofs.Common.{◌≤◌, arith}
use Rattle.ltl_io.proofs.Growth.{lost_more}
use Rattle.ltl_io.proofs.source.read_whole.Goals as goal

pub returns-in_err-extend_from_slice-in-Ok-clause-left : goal.returns-in_err-extend_from_slice-in-Ok-clause-left
returns-in_err-extend_from_slice-in-Ok-clause-left g c =
    let few : c.in-Ok.n ≤ 65536 = omega (arith, c.in-Ok.ensures.length, c.read.auto.into) in
    lost_more c.reads.bytes.items c.read.new.into c.in-Ok.n c.args.stop_after 65536 _ _ _ c.reads.invariant.taken c.in-Ok.ensures.given (omega arith) few
