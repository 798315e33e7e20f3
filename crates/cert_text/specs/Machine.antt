-- Texts that are read byte by byte: what bytes lead to, and where they stop to begin a text.
use Rattle.std.specs.Prelude.{◌≡◌, ℕ, suc, ◌<◌, ◌≤◌, List, [], ◌∷◌, ◌++◌, length, take, Option, Some}
use Rattle.std.specs.Option.{option_and_then}

-- what the bytes lead to, step by step
abbrev pub run_by : {S : Type 0} → (S → ℕ → Option S) → S → List ℕ → Option S
run_by step s [] = Some s
run_by step s (b ∷ bs) = option_and_then (λ t. run_by step t bs) (step s b)

-- some text begins with these bytes
pub record Begins {C : Type 0} (IsText : List ℕ → C → Type 0) (bytes : List ℕ) : Type 0 where
  pub rest : List ℕ
  pub whole : C
  pub is : IsText (bytes ++ rest) whole

-- the byte of the fault: the least b for which the first b + 1 bytes begin no text, or the length of bytes that begin one and are none
pub record IsFault {C : Type 0} (IsText : List ℕ → C → Type 0) (bytes : List ℕ) (b : ℕ) : Type 0 where
  pub within : b ≤ length bytes
  pub begins : (k : ℕ) → k ≤ b → Begins IsText (take k bytes)
  pub stops : b < length bytes → ¬ Begins IsText (take (suc b) bytes)
  pub none : b ≡ length bytes → (c : C) → ¬ IsText bytes c
