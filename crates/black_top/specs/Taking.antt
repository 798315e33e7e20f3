-- What is taken of the source, where the source tells what it has left.
use Rattle.std.specs.Prelude.{◌≡◌, ◌+◌, ℕ, List, Option}
use Rattle.ltl_io.specs.Outside.{LosesAtMost}
use Rattle.command_words.specs.Table.{Extent, Nothing, UpTo, Whole}
use Rattle.program_input.specs.Taking.{IsTakenUpTo, IsTakenWhole}

-- what is taken of a told rest that is read so far
abbrev pub Takes : Extent → Option (List ℕ) → Option (List ℕ) → Type 0
Takes Nothing before after = after ≡ before
Takes (UpTo most) before after = IsTakenUpTo most before after
Takes Whole before after = IsTakenWhole before after

-- and what is taken at most, whatever fails: a read brings at most 65,536 bytes
abbrev pub TakesAtMost : Extent → Option (List ℕ) → Option (List ℕ) → Type 0
TakesAtMost (UpTo most) before after = LosesAtMost (most + 65536) before after
TakesAtMost reads before after = Unit {0}

-- where a read fails, no more than the limit was taken before
abbrev pub TakesBeforeFault : Extent → Option (List ℕ) → Option (List ℕ) → Type 0
TakesBeforeFault (UpTo most) before after = LosesAtMost most before after
TakesBeforeFault reads before after = Unit {0}
