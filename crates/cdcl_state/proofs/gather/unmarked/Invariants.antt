use Rattle.std.proofs.Common.{◌≡◌, false, All}
use Rattle.cdcl_state.proofs.gather.unmarked.Given as goal

abbrev pub invariant-loop : goal.invariant-loop
invariant-loop l = All (λ mark. mark ≡ false) l.there.items
