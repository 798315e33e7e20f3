use Rattle.std.proofs.Common.{Contains, take}
use Rattle.cnf_base.specs.declared.literal.Literal.{Literal}
use Rattle.cnf_base.specs.Known.{IsKnown}
use Rattle.cdcl_state.specs.StateValue.{IsSet}
use Rattle.cdcl_state.proofs.state.State.free.Given as goal

abbrev pub invariant-loop-letter : goal.invariant-loop-letter
invariant-loop-letter l = (m : Literal) → IsKnown l.self.letters m → Contains (take l.letter-index l.named) m.letter.0 → IsSet l.self.trail m
