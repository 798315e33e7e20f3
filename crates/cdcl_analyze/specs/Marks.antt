-- The marks of an analysis, and what it found out of letters.
use Rattle.std.specs.Prelude.{◌≡◌, ℕ, ◌+◌, ◌%◌, ◌<◌, ◌≤◌, Bool, not, nat_eq, nat_lt, if◌then◌else◌, List, [], length, Option, Some, None, slice_index_or}
use Rattle.std.specs.Int.{bit_at}
use Rattle.cnf_base.specs.declared.literal.Hint.{Hint}
use Rattle.cnf_base.specs.declared.literal.Hint.TheVariants.{Clause}
use Rattle.cdcl_analyze.specs.declared.marks.Consequence.{Consequence}

-- the letters' stamps, that of this analysis, and the words whose bits tell which places wait; the numbers that tell which letters
-- follow, what follows with its reasons, and the word whose bits tell on which levels marked letters stand
pub record MarksValue : Type 0 where
  pub stamps : List ℕ
  pub stamp : ℕ
  pub waiting : List ℕ
  pub outcomes : List ℕ
  pub consequences : List Consequence
  pub levels : ℕ

-- the letter has the stamp of this analysis
abbrev pub IsMarked : MarksValue → ℕ → Type 0
IsMarked m letter = slice_index_or m.stamps letter 0 ≡ m.stamp

-- what a number says in the analysis of a stamp: nothing where an earlier one wrote it
abbrev pub outcome_from : ℕ → ℕ → Option Bool
outcome_from stamp n = if nat_lt n stamp then None else Some (not (nat_eq n stamp))

-- the number by which the analysis of a stamp remembers whether a letter follows
abbrev pub outcome_number : ℕ → Bool → ℕ
outcome_number stamp follows = stamp + (if follows then 1 else 0)

-- whether the letter follows, if this analysis has asked
abbrev pub outcome_of : MarksValue → ℕ → Option Bool
outcome_of m letter = if nat_lt letter (length m.outcomes) then outcome_from m.stamp (slice_index_or m.outcomes letter 0) else None

-- nothing is known of any letter
pub record IsUnasked (m : MarksValue) : Type 0 where
  pub unasked : (x : ℕ) → outcome_of m x ≡ None
  pub none_follows : m.consequences ≡ []

abbrev pub with_outcomes : MarksValue → List ℕ → MarksValue
with_outcomes m outcomes =
    record { stamps = m.stamps; stamp = m.stamp; waiting = m.waiting; outcomes = outcomes; consequences = m.consequences; levels = m.levels }

abbrev pub with_consequences : MarksValue → List Consequence → MarksValue
with_consequences m consequences =
    record { stamps = m.stamps; stamp = m.stamp; waiting = m.waiting; outcomes = m.outcomes; consequences = consequences; levels = m.levels }

abbrev pub with_levels : MarksValue → ℕ → MarksValue
with_levels m levels = record { stamps = m.stamps; stamp = m.stamp; waiting = m.waiting; outcomes = m.outcomes; consequences = m.consequences; levels = levels }

-- what was found out of letters is the same, whatever became of marks and places
pub record FoundSame (old new : MarksValue) : Type 0 where
  pub stamp : new.stamp ≡ old.stamp
  pub outcomes : new.outcomes ≡ old.outcomes
  pub consequences : new.consequences ≡ old.consequences

-- what a read past the end would give
abbrev pub no_consequence : Consequence
no_consequence = record { letter = 0; reason = Clause 0 }

-- the letter whose value follows, by its index from 0
abbrev pub letter_at : MarksValue → ℕ → ℕ
letter_at m i = (slice_index_or m.consequences i no_consequence).letter

-- the reason by which it follows
abbrev pub reason_at : MarksValue → ℕ → Hint
reason_at m i = (slice_index_or m.consequences i no_consequence).reason

-- the letter is one of the first i whose values follow
abbrev pub IsAmong : MarksValue → ℕ → ℕ → Type 0
IsAmong m i letter = (j : ℕ) × (j < i) × (letter_at m j ≡ letter)

-- the letter is one of those from index i on whose values follow
abbrev pub IsFrom : MarksValue → ℕ → ℕ → Type 0
IsFrom m i letter = (j : ℕ) × (i ≤ j) × (j < length m.consequences) × (letter_at m j ≡ letter)

-- the level's bit is set
abbrev pub MayHave : MarksValue → ℕ → Type 0
MayHave m level = bit_at m.levels (level % 64) ≡ 1
