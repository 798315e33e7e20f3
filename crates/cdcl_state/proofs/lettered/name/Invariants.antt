use Rattle.std.proofs.Common.{All, Contains, take}
use Rattle.cdcl_state.specs.Named.{AreOf}
use Rattle.cdcl_state.proofs.lettered.name.Given as goal

abbrev pub invariant-loop-literal : goal.invariant-loop-literal
invariant-loop-literal l = record { there : AreOf l.named (take l.literal-index l.clause); kept : All (Contains l.named) l.initial.named }
