use Rattle.ltl_syntax.specs.declared.node.BinaryOp.TheVariants as two
use Rattle.depast.specs.Depast.{trigger_axiom}
use Rattle.depast.proofs.Written.{past_done, trigger_past}
use Rattle.depast.proofs.writer.Writer.trigger.Goals as goal

pub returns : goal.returns
returns c l a b fs done =
    past_done l two.Trigger a b fs trigger_axiom c.args.self.now.row.items c.put_name.new.row.items c.deref.result.now c.deref-2.result.now
    c.args.self.now.starts c.pop.new.self c.in-Some-top.ensures.0 c.in-Some-top.first c.in-Some.second
    c.args.self.now.axioms.items c.put_trigger.new.axioms.items c.args.self.now.next done c.in-Some.ensures c.in-Some-top.ensures.1 c.deref.ensures.value
    c.deref-2.ensures.value (c.in_ok-put_trigger.ensures l) c.in_ok-put_name.ensures trigger_past
