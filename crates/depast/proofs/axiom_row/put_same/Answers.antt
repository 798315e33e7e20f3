use Rattle.depast.proofs.AxiomRows.{same_reads}
use Rattle.depast.proofs.axiom_row.put_same.Goals as goal

pub returns : goal.returns
returns c l d r s w h =
    same_reads l c.args.name r c.args.axioms.now.items c.push.new.self.items c.extend_from_slice.new.self.items c.push-2.new.self.items c.args.operand.now d s
    c.in_ok-push.ensures.items c.in_ok-extend_from_slice.ensures.items c.in_ok-push-2.ensures.items w h
