use Rattle.std.proofs.Common.{◌≡◌, take}
use Rattle.std.specs.Prelude.{filter}
use Rattle.ltl_closure.specs.Closure.{nexts}
use Rattle.ltl_closure.specs.Entries.{numbers_of}
use Rattle.enc_layout.specs.Clauses.{is_strong_next}
use Rattle.demand.proofs.entries.strong.Given as goal

abbrev pub invariant-loop-number : goal.invariant-loop-number
invariant-loop-number l = l.numbers.items ≡ numbers_of l.closure.formula (filter is_strong_next (take l.number-index (nexts l.closure.formula)))
