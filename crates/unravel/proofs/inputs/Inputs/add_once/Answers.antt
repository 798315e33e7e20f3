use Rattle.std.proofs.Common.{refl}
use Rattle.unravel.proofs.Putting.{asked_more}
use Rattle.unravel.proofs.inputs.Inputs.add_once.Goals as goal

pub returns-else-is_new : goal.returns-else-is_new
returns-else-is_new c = asked_more c.args.listed.now c.args.self.now _ c.requires.part (record { letters = refl; inputs = refl; names = refl })
