use Rattle.std.proofs.Common.{◌∙◌}
use Rattle.refute_top.proofs.Verdicts.{layer_added}
use Rattle.refute_top.proofs.verdict.add_reason.Goals as goal

pub returns-in_ok-add_fault-in-Layer : goal.returns-in_ok-add_fault-in-Layer
returns-in_ok-add_fault-in-Layer c =
    layer_added c.args.out.now.items c.extend_from_slice.new.self.items c.extend_from_slice-in-Layer.new.self.items c.add_fault.new.out.items
    c.as_bytes.result.now c.args.reason c.in-Layer.number c.in-Layer.fault c.in-Layer.is c.in_ok-extend_from_slice-in-Layer.ensures.items
    c.in_ok-extend_from_slice-in-Layer-2.ensures.items (c.as_bytes.ensures.value ∙ c.format.ensures.text) c.in_ok-add_fault-in-Layer.ensures
