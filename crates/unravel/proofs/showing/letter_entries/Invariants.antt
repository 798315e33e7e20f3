use Rattle.std.proofs.Common.{◌≡◌, take}
use Rattle.std.specs.Prelude.{filter}
use Rattle.ltl_closure.specs.Closure.{closure}
use Rattle.ltl_closure.specs.Entries.{numbers_of}
use Rattle.ltl_run.specs.States.{is_letter}
use Rattle.unravel.proofs.showing.letter_entries.Given as goal

abbrev pub invariant-loop-i : goal.invariant-loop-i
invariant-loop-i l = l.numbers.items ≡ numbers_of l.closure.formula (filter is_letter (take l.i (closure l.closure.formula)))
