use Rattle.depast.proofs.AxiomRows.{stepping_reads}
use Rattle.depast.proofs.axiom_row.put_stepping.Goals as goal

pub returns : goal.returns
returns c l d b f r s w h =
    stepping_reads l c.args.name r c.args.axioms.now.items c.extend_from_slice.new.self.items c.extend_from_slice-2.new.self.items
    c.extend_from_slice-3.new.self.items c.extend_from_slice-4.new.self.items c.args.operand.now d b f s
    c.in_ok-extend_from_slice.ensures.items c.in_ok-extend_from_slice-2.ensures.items c.in_ok-extend_from_slice-3.ensures.items
    c.in_ok-extend_from_slice-4.ensures.items w h
