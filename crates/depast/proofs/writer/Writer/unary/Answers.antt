use Rattle.std.proofs.Common.{◌+◌, ap}
use Rattle.depast.proofs.Written.{unary_done}
use Rattle.depast.proofs.writer.Writer.unary.Goals as goal

pub returns : goal.returns
returns c l f fs done =
    unary_done l c.args.op f fs c.args.self.now.row.items c.put_residue.new.row.items c.deref.result.now c.args.self.now.starts c.in-Some.ensures.0
    c.in-Some.start c.args.self.now.axioms.items c.put_axioms.new.axioms.items c.args.self.now.next _
    done c.in-Some.ensures.1 c.deref.ensures.value (c.in_ok-put_axioms.ensures l) (c.in_ok-put_residue.ensures l)
    (ap (λ n. c.args.self.now.next + n) c.names_of.ensures)
