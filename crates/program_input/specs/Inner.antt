-- What the private calls of the cut give. No public contract cites this file.
use Rattle.std.specs.Prelude.{◌≡◌, ℕ, List, ◌++◌, length}
use Rattle.program_input.specs.Parts.{IsSeparator, EndsLine, BeginsLine}

-- a separator line begins this number of bytes from the start, and this stands behind it
pub record OpensSecond (bytes : List ℕ) (start : ℕ) (second : List ℕ) : Type 0 where
  pub before : List ℕ
  pub line : List ℕ
  pub after : List ℕ
  pub text : List ℕ
  pub place : length before ≡ start
  pub whole : bytes ≡ before ++ line ++ after
  pub separator : IsSeparator line
  pub begins : EndsLine before text
  pub ends : BeginsLine after second

-- no separator line begins there
abbrev pub OpensNothing : List ℕ → ℕ → Type 0
OpensNothing bytes start = (second : List ℕ) → ¬ (OpensSecond bytes start second)
