-- What a call takes of the source, by what is asked for.
use Rattle.std.specs.Prelude.{ℕ, List, Option}
use Rattle.ltl_io.specs.Outside.{LosesAtMost}
use Rattle.command_words.specs.Refutation.{RefutationAsked, Refute, Verify}
use Rattle.program_input.specs.Taking.{IsTakenUpTo, IsTakenWhole}

-- of a told rest, where it reads to where it stops
abbrev pub Takes : RefutationAsked → Option (List ℕ) → Option (List ℕ) → Type 0
Takes (Refute settings) before after = IsTakenUpTo 1048576 before after
Takes (Verify settings) before after = IsTakenWhole before after

-- and what it takes at most, whatever fails
abbrev pub TakesAtMost : RefutationAsked → Option (List ℕ) → Option (List ℕ) → Type 0
TakesAtMost (Refute settings) before after = LosesAtMost 1114112 before after
TakesAtMost (Verify settings) before after = Unit {0}

-- where a read fails, no more than the limit was taken before
abbrev pub TakesBeforeFault : RefutationAsked → Option (List ℕ) → Option (List ℕ) → Type 0
TakesBeforeFault (Refute settings) before after = LosesAtMost 1048576 before after
TakesBeforeFault (Verify settings) before after = Unit {0}
