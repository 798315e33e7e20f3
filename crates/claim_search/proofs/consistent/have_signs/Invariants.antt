use Rattle.std.proofs.Common.{All, take}
use Rattle.claim_search.specs.Signs.{HasSign}
use Rattle.claim_search.proofs.consistent.have_signs.Given as goal

abbrev pub invariant-loop-own : goal.invariant-loop-own
invariant-loop-own l = All (HasSign l.signs.items) (take l.own-index l.literals)
