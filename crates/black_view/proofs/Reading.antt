-- The two sides of = in a word, and the letters between commas.
use Rattle.std.proofs.Common.{◌≡◌, ℕ, suc, ◌<◌, ◌==◌, true, false, List, [], ◌∷◌, ◌++◌, length, Option, Some, None, refl, sym, ap, ◌∙◌, arith, get_or, inl, inr}
use Rattle.std.proofs.Common.{All, Bor, MatchOption}
use Rattle.std.specs.List.{position_or_len}
use Rattle.std.proofs.lemmas.Bool.{le-leb, lt-leb}
use Rattle.std.proofs.lemmas.Bool.Decides.{eqb_tells}
use Rattle.std.proofs.lemmas.List.{append_assoc, get_or_default}
use Rattle.std.proofs.lemmas.List.Splits.{slice_split_at, slice_split_none}
use Rattle.ltl_word.specs.Trace.{Names}
use Rattle.black_view.specs.Words.{has_equals, before_equals, behind_equals, letters_in}

-- ---- the sides of =

-- what `split_once` gives
pub sides : (word : List ℕ) (r : Option (Bor (List ℕ) × Bor (List ℕ)))
    → MatchOption r (position_or_len (λ b. b == 61) word ≡ length word)
    (λ x. (position_or_len (λ b. b == 61) word < length word) × (x.0.now ≡ before_equals word) × (x.1.now ≡ behind_equals word))
    → MatchOption r (has_equals word ≡ false) (λ x. (has_equals word ≡ true) × (x.0.now ≡ before_equals word) × (x.1.now ≡ behind_equals word))
sides word None h = lt-leb (suc (position_or_len (λ b. b == 61) word)) (length word) (omega (arith, h))
sides word (Some x) h = (le-leb (suc (position_or_len (λ b. b == 61) word)) (length word) h.0, h.1, h.2)

-- ---- letters

no_comma : (text : List ℕ) → ((i : ℕ) → i < length text → get_or text i 0 ≡ 44 → ⊥) → All (λ b. (b == 44) ≡ false) text
no_comma text none k d lt = elim (eqb_tells (get_or text k d) 44) [
  | inl w ↦ absurd (none k lt (get_or_default text k 0 d lt ∙ w.1))
  | inr w ↦ w.0
]

-- a text with a comma is the letter before it and the text behind it
pub cut : (text letter behind : List ℕ) → text ≡ letter ++ 44 ∷ behind → ((i : ℕ) → i < length letter → get_or letter i 0 ≡ 44 → ⊥)
    → letters_in text ≡ letter ∷ letters_in behind
cut text letter behind whole none = ap letters_in whole ∙ slice_split_at (λ b. b == 44) letter 44 behind (no_comma letter none) refl

-- and one without is one letter
pub uncut : (text : List ℕ) → ((i : ℕ) → i < length text → get_or text i 0 ≡ 44 → ⊥) → letters_in text ≡ text ∷ []
uncut text none = slice_split_none (λ b. b == 44) text (no_comma text none)

-- behind the letters that are there, one more, and what stands behind it
pub letter_more : (all names names' : Names) (rest letter name behind : List ℕ)
    → names ++ letters_in rest ≡ all → rest ≡ letter ++ 44 ∷ behind → ((i : ℕ) → i < length letter → get_or letter i 0 ≡ 44 → ⊥)
    → name ≡ letter → names' ≡ names ++ name ∷ [] → names' ++ letters_in behind ≡ all
letter_more all names names' rest letter name behind is whole none same e =
    ap (λ ns. ns ++ letters_in behind) e ∙ (append_assoc names (name ∷ []) (letters_in behind)
    ∙ (ap (λ n. names ++ n ∷ letters_in behind) same ∙ (ap (λ ls. names ++ ls) (sym (cut rest letter behind whole none)) ∙ is)))

pub letter_last : (all names names' : Names) (rest name : List ℕ) → names ++ letters_in rest ≡ all → ((i : ℕ) → i < length rest → get_or rest i 0 ≡ 44 → ⊥)
    → name ≡ rest → names' ≡ names ++ name ∷ [] → names' ≡ all
letter_last all names names' rest name is none same e = e ∙ (ap (λ n. names ++ n ∷ []) same ∙ (ap (λ ls. names ++ ls) (sym (uncut rest none)) ∙ is))
