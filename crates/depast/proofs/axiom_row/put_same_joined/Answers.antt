use Rattle.depast.proofs.AxiomRows.{joined_reads}
use Rattle.depast.proofs.axiom_row.put_same_joined.Goals as goal

pub returns : goal.returns
returns c l d e r s w v h =
    joined_reads l c.args.name r c.args.axioms.now.items c.push.new.self.items c.extend_from_slice.new.self.items c.extend_from_slice-2.new.self.items
    c.extend_from_slice-3.new.self.items c.args.first.now c.args.second.now c.args.op d e s
    c.in_ok-push.ensures.items c.in_ok-extend_from_slice.ensures.items c.in_ok-extend_from_slice-2.ensures.items c.in_ok-extend_from_slice-3.ensures.items w v h
