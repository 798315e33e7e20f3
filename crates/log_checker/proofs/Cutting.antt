-- Consecutive pieces.
use Rattle.std.proofs.Common.{◌≡◌, ℕ, zero, suc, ◌+◌, ◌-◌, ◌<◌, ◌≤◌, inl, inr, List, [], ◌∷◌, Option, length, get_or, set, refl, sym, ap, ◌∙◌, subst, arith}
use Rattle.std.proofs.lemmas.Bool.{cases_eq}
use Rattle.std.proofs.lemmas.List.{length-set, get_or-set_same, get_or-set_other}
use Rattle.cnf_base.specs.declared.literal.Literal.{Literal}
use Rattle.cert_text.specs.Text.{Part}
use Rattle.cert_text.specs.Live.{IsGoodLine}
use Rattle.log_checker.specs.Judging.{IsFirstBad}
use Rattle.log_checker.specs.Pieces.{cut_at, AreCuts}

-- as far as this place the cuts follow one another from the first line on, and stay within the number of lines
pub record AreBegun (place : ℕ) (cuts : List ℕ) (count : ℕ) : Type 0 where
  pub first : cut_at cuts 0 ≡ 0
  pub order : (piece : ℕ) → piece < place → cut_at cuts piece ≤ cut_at cuts (suc piece)
  pub below : cut_at cuts place ≤ count

pub first_cut : (count : ℕ) (cuts : List ℕ) → 1 ≤ length cuts → AreBegun 0 (set cuts 0 0) count
first_cut count cuts some =
    let at = get_or-set_same cuts 0 0 0 (omega (arith, some)) in
    record { first = at; order = λ p none. absurd (omega (arith, none)); below = omega (arith, at) }

-- one more cut
pub more_cut : (place count line : ℕ) (cuts : List ℕ) → AreBegun place cuts count → suc place < length cuts
    → cut_at cuts place ≤ line → line ≤ count → AreBegun (suc place) (set cuts (suc place) line) count
more_cut place count line cuts begun room low high =
    let at = get_or-set_same cuts (suc place) line 0 room in
    let other : (i : ℕ) → i < suc place → cut_at (set cuts (suc place) line) i ≡ cut_at cuts i =
    λ i below. get_or-set_other cuts (suc place) i line 0 (λ e. omega (arith, e, below)) in
    record {
      first = other 0 (omega arith) ∙ begun.first;
      order = λ p below. elim (cases_eq p place) [
        | inl same ↦ subst (λ n. cut_at (set cuts (suc place) line) n ≤ cut_at (set cuts (suc place) line) (suc n)) (sym same)
            (omega (arith, other place (omega arith), at, low))
        | inr differs ↦ omega (arith, other p below, other (suc p) (omega (arith, differs, below)), begun.order p (omega (arith, differs, below)))
      ];
      below = omega (arith, at, high);
    }

-- the last cut is the number of lines
pub last_cut : (pieces count : ℕ) (cuts : List ℕ) → 1 ≤ pieces → length cuts ≡ suc pieces → AreBegun (pieces - 1) cuts count
    → AreCuts (set cuts pieces count) count
last_cut zero count cuts some size begun = absurd (omega (arith, some))
last_cut (suc place) count cuts some size begun =
    let before : suc place - 1 ≡ place = omega arith in
    let so = subst (λ n. AreBegun n cuts count) before begun in
    let all = more_cut place count count cuts so (omega (arith, size)) so.below (omega arith) in
    let kept = length-set cuts (suc place) count in
    let last : length (set cuts (suc place) count) - 1 ≡ suc place = omega (arith, kept, size) in
    record {
      first = all.first;
      order = λ p below. all.order p (omega (arith, below, kept, size));
      last = subst (λ n. cut_at (set cuts (suc place) count) n ≡ count) (sym last) (get_or-set_same cuts (suc place) count 0 (omega (arith, size)));
    }

-- a later cut is no lower
cuts_up : (cuts : List ℕ) → ((piece : ℕ) → suc piece < length cuts → cut_at cuts piece ≤ cut_at cuts (suc piece)) → (i j : ℕ) → i ≤ j → j < length cuts
    → cut_at cuts i ≤ cut_at cuts j
cuts_up cuts order i zero low high = let same : i ≡ 0 = omega (arith, low) in subst (λ n. cut_at cuts n ≤ cut_at cuts 0) (sym same) (omega arith)
cuts_up cuts order i (suc j) low high = elim (cases_eq i (suc j)) [
  | inl same ↦ subst (λ n. cut_at cuts n ≤ cut_at cuts (suc j)) (sym same) (omega arith)
  | inr other ↦ omega (arith, cuts_up cuts order i j (omega (arith, low, other)) (omega (arith, high)), order j high)
]

-- a piece ends within the lines
pub cut_within : (count place : ℕ) (cuts : List ℕ) → AreCuts cuts count → place < length cuts → cut_at cuts place ≤ count
cut_within count place cuts cut low = omega (arith, cuts_up cuts cut.order place (length cuts - 1) (omega (arith, low)) (omega (arith, low)), cut.last)

-- an element is read with any default
pub read_any : {X : Type 0} (xs : List X) (i : ℕ) (d e : X) → i < length xs → get_or xs i d ≡ get_or xs i e
read_any [] i d e below = absurd (omega (arith, below))
read_any (x ∷ xs) zero d e below = refl
read_any (x ∷ xs) (suc i) d e below = read_any xs i d e (omega (arith, below))

-- a cut and the one behind it, as they are read
pub cut_read : (cuts : List ℕ) (place cut : ℕ) → place < length cuts → cut ≡ get_or cuts place cut → cut ≡ cut_at cuts place
cut_read cuts place cut low at = at ∙ read_any cuts place cut 0 low

pub next_read : (cuts : List ℕ) (place cut : ℕ) → place + 1 < length cuts → cut ≡ get_or cuts (place + 1) cut → cut ≡ cut_at cuts (suc place)
next_read cuts place cut low at = let up : place + 1 ≡ suc place = omega arith in cut_read cuts (place + 1) cut low at ∙ ap (cut_at cuts) up

-- what is found between them is found in the piece, over as many letters
pub judged_at : (clauses : List (List Literal)) (parts : List Part) (cuts : List ℕ) (piece from to m n : ℕ) (bad : Option ℕ) → from ≡ cut_at cuts piece
    → to ≡ cut_at cuts (suc piece) → m ≡ n
    → IsFirstBad (IsGoodLine clauses (m - 1) parts) from to bad
    → IsFirstBad (IsGoodLine clauses (n - 1) parts) (cut_at cuts piece) (cut_at cuts (suc piece)) bad
judged_at clauses parts cuts piece from to m n bad begins ends same is =
    subst (λ k. IsFirstBad (IsGoodLine clauses (n - 1) parts) k (cut_at cuts (suc piece)) bad) begins
    (subst (λ k. IsFirstBad (IsGoodLine clauses (n - 1) parts) from k bad) ends
    (subst (λ k. IsFirstBad (IsGoodLine clauses (k - 1) parts) from to bad) same is))
