use Rattle.std.proofs.Common.{take, ◌≢◌, All}
use Rattle.cdcl_state.proofs.store.has.Given as goal

abbrev pub invariant-loop-literal : goal.invariant-loop-literal
invariant-loop-literal l = All (λ m. m ≢ l.wanted) (take l.literal-index l.literals)
