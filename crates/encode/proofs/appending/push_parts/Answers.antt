use Rattle.encode.proofs.Refused.{as_before}
use Rattle.encode.proofs.appending.push_parts.Goals as goal

pub returns-in_err-append-clause-err : goal.returns-in_err-append-clause-err
returns-in_err-append-clause-err c = as_before c.from_residual.result c.args.out.now c.append.new.out (c.in_err-append.ensures.err)
