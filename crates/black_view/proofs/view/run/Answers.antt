use Rattle.std.proofs.Common.{refl}
use Rattle.black_view.specs.declared.status.Status.TheVariants as statuses
use Rattle.black_view.proofs.Answering.{not_fault}
use Rattle.black_view.proofs.view.run.Goals as goal

pub returns-in-Ok-write_whole-clause-read_fault : goal.returns-in-Ok-write_whole-clause-read_fault
returns-in-Ok-write_whole-clause-read_fault g c e =
    absurd (not_fault _ _ _ c.in-Ok.output.status c.in-Ok.output.text.items c.in-Ok.ensures.answer statuses.ReadFault refl e)

pub returns-in-Ok-write_whole-clause-write_fault : goal.returns-in-Ok-write_whole-clause-write_fault
returns-in-Ok-write_whole-clause-write_fault g c e =
    absurd (not_fault _ _ _ c.in-Ok.output.status c.in-Ok.output.text.items c.in-Ok.ensures.answer statuses.WriteFault refl e)

pub returns-in-Ok-write_whole-clause-no_memory : goal.returns-in-Ok-write_whole-clause-no_memory
returns-in-Ok-write_whole-clause-no_memory g c e =
    absurd (not_fault _ _ _ c.in-Ok.output.status c.in-Ok.output.text.items c.in-Ok.ensures.answer statuses.NoMemory refl e)
