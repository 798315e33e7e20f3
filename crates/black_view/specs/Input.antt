-- Where the trace stands in an input: at the first line that begins with an opening brace, and from there to the end.
use Rattle.std.specs.Prelude.{◌≡◌, ◌⊎◌, ℕ, ◌-◌, ◌<◌, List, length, slice_index}

-- a line begins at the byte, with an opening brace
abbrev pub Opens : List ℕ → ℕ → Type 0
Opens bytes at = (slice_index bytes at ≡ 123) × ((at ≡ 0) ⊎ (slice_index bytes (at - 1) ≡ 10))

-- no line begins so
abbrev pub HasNoTrace : List ℕ → Type 0
HasNoTrace bytes = (at : ℕ) → at < length bytes → ¬ (Opens bytes at)

-- the first one that does
pub record IsTraceAt (bytes : List ℕ) (at : ℕ) : Type 0 where
  pub there : at < length bytes
  pub opens : Opens bytes at
  pub first : (k : ℕ) → k < at → ¬ (Opens bytes k)
