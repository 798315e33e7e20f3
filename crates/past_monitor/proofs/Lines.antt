-- A text is its first line, and the lines behind that.
use Rattle.std.proofs.Common.{◌≡◌, ℕ, zero, suc, ◌+◌, ◌<◌, Bool, true, false, ◌==◌, List, [], ◌∷◌, length, take, drop, slice_index, refl, subst, ◌∙◌, ap, arith}
use Rattle.std.specs.List.{onto_first}
use Rattle.std.proofs.lemmas.List.Splits.{slice_split-cons_yes, slice_split-cons_no}
use Rattle.past_monitor.specs.Text.{lines_of}

abbrev ends : ℕ → Bool
ends b = b == 10

not_true : (b : Bool) → ¬ (b ≡ true) → b ≡ false
not_true true n = absurd (n refl)
not_true false n = refl

-- the line before the first newline
pub first_of : (text : List ℕ) (k : ℕ) → k < length text → ends (slice_index text k) ≡ true → ((j : ℕ) → j < k → ¬ (ends (slice_index text j) ≡ true))
    → lines_of text ≡ take k text ∷ lines_of (drop (k + 1) text)
first_of [] k lt at before = absurd (omega arith)
first_of (x ∷ xs) zero lt at before = slice_split-cons_yes ends x xs at
first_of (x ∷ xs) (suc k) lt at before =
    let other : ends x ≡ false = not_true (ends x) (before 0 (omega arith)) in
    let later = first_of xs k (omega arith) at (λ j less. before (suc j) (omega arith)) in
    let e : suc (k + 1) ≡ suc k + 1 = omega arith in
    subst (λ n. lines_of (x ∷ xs) ≡ take (suc k) (x ∷ xs) ∷ lines_of (drop n (x ∷ xs))) e (slice_split-cons_no ends x xs other ∙ ap (onto_first x) later)

-- a text without a newline is one line
pub only_line : (text : List ℕ) → ((j : ℕ) → j < length text → ¬ (ends (slice_index text j) ≡ true)) → lines_of text ≡ text ∷ []
only_line [] none = refl
only_line (x ∷ xs) none =
    let other : ends x ≡ false = not_true (ends x) (none 0 (omega arith)) in
    slice_split-cons_no ends x xs other ∙ ap (onto_first x) (only_line xs (λ j less. none (suc j) (omega arith)))
