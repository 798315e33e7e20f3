-- What the workers have found together.
use Rattle.std.proofs.Common.{◌≡◌, ℕ, zero, suc, ◌+◌, ◌-◌, ◌<◌, ◌≤◌, IfSome, Option, Some, None, List, [], ◌∷◌, length, get_or, drop, All, refl, sym, ap, ◌∙◌}
use Rattle.std.proofs.Common.{subst, arith}
use Rattle.cnf_base.specs.declared.literal.Literal.{Literal}
use Rattle.cert_text.specs.Text.{Part}
use Rattle.cert_text.specs.Live.{lines_of, IsGoodLine}
use Rattle.log_checker.specs.Judging.{IsFirstBad, IsLinesAnswer, AreAnswered, end_of, prefer, first_answer}
use Rattle.log_checker.specs.Pieces.{cut_at, AreCuts, IsJudged, KeepSizes, pieces_of, answer_by}
use Rattle.log_checker.specs.declared.worker.Area.{Area}
use Rattle.log_checker.specs.declared.lines.Lines.{Lines}
use Rattle.log_checker.proofs.Ranges.{pieces_answer}

-- the bad line of the first area that has one
abbrev pub found : List Area → Option ℕ
found [] = None
found (a ∷ areas) = prefer a.first_bad (found areas)

-- it does not depend on the cuts
pub found_answers : (cuts : List ℕ) (number : ℕ) (areas : List Area) → found areas ≡ first_answer (pieces_of cuts number areas)
found_answers cuts number [] = refl
found_answers cuts number (a ∷ areas) = ap (λ o. prefer a.first_bad o) (found_answers cuts (suc number) areas)

-- areas without a bad line are passed over
found_on : (areas : List Area) (i : ℕ) (a : Area) → i < length areas → a ≡ get_or areas i a
    → found (drop i areas) ≡ prefer a.first_bad (found (drop (suc i) areas))
found_on [] i a low at = absurd (omega (arith, low))
found_on (x ∷ areas) zero a low at = ap (λ (b : Area). prefer b.first_bad (found areas)) (sym at)
found_on (x ∷ areas) (suc i) a low at = found_on areas i a (omega (arith, low)) at

pub found_none : (areas : List Area) (i : ℕ) (a : Area) → i < length areas → a ≡ get_or areas i a → a.first_bad ≡ None → found areas ≡ found (drop i areas)
    → found areas ≡ found (drop (i + 1) areas)
found_none areas i a low at none so =
    let up : suc i ≡ i + 1 = omega arith in
    so ∙ found_on areas i a low at ∙ ap (λ o. prefer o (found (drop (suc i) areas))) none ∙ ap (λ n. found (drop n areas)) up

pub found_some : (areas : List Area) (i : ℕ) (a : Area) (line : ℕ) → i < length areas → a ≡ get_or areas i a → a.first_bad ≡ Some line
    → found areas ≡ found (drop i areas) → Some line ≡ found areas
found_some areas i a line low at some so = sym (so ∙ found_on areas i a low at ∙ ap (λ o. prefer o (found (drop (suc i) areas))) some)

found_end : (areas : List Area) (i : ℕ) → length areas ≤ i → found (drop i areas) ≡ None
found_end [] zero high = refl
found_end [] (suc i) high = refl
found_end (x ∷ areas) zero high = absurd (omega (arith, high))
found_end (x ∷ areas) (suc i) high = found_end areas i (omega (arith, high))

pub found_nowhere : (areas : List Area) (i : ℕ) → length areas ≤ i → found areas ≡ found (drop i areas) → None ≡ found areas
found_nowhere areas i high so = sym (so ∙ found_end areas i high)

-- the pieces end where the last cut is
pieces_end : (cuts : List ℕ) (number : ℕ) (areas : List Area) → end_of (cut_at cuts number) (pieces_of cuts number areas) ≡ cut_at cuts (number + length areas)
pieces_end cuts number [] = let e : number ≡ number + 0 = omega arith in ap (cut_at cuts) e
pieces_end cuts number (a ∷ areas) =
    let e : suc number + length areas ≡ number + suc (length areas) = omega arith in
    pieces_end cuts (suc number) areas ∙ ap (cut_at cuts) e

module _ (Good : ℕ → Type 0) (cuts : List ℕ) where
  -- each area has the first bad line of its piece
  abbrev Judged : ℕ → List Area → Type 0
  Judged number areas =
      (i : ℕ) (d : Area) → i < length areas → IsFirstBad Good (cut_at cuts (number + i)) (cut_at cuts (suc (number + i))) (get_or areas i d).first_bad

  pieces_are_answered : (number : ℕ) (areas : List Area) → ((piece : ℕ) → suc piece < length cuts → cut_at cuts piece ≤ cut_at cuts (suc piece))
      → number + length areas < length cuts → Judged number areas
      → AreAnswered Good (cut_at cuts number) (pieces_of cuts number areas)
  pieces_are_answered number [] order room judged = tt
  pieces_are_answered number (a ∷ areas) order room judged =
      let here : number + 0 ≡ number = omega arith in (
        order number (omega (arith, room)),
        subst (λ n. IsFirstBad Good (cut_at cuts n) (cut_at cuts (suc n)) a.first_bad) here (judged 0 a (omega arith)),
        pieces_are_answered (suc number) areas order (omega (arith, room)) (λ i d low.
            let on : number + suc i ≡ suc number + i = omega arith in
            subst (λ n. IsFirstBad Good (cut_at cuts n) (cut_at cuts (suc n)) (get_or areas i d).first_bad) on (judged (suc i) d (omega (arith, low)))),
      )

  -- so the first answer is the first bad line
  pub first_is_first : (count : ℕ) (areas : List Area) → AreCuts cuts count → length cuts ≡ suc (length areas) → Judged 0 areas
      → IsFirstBad Good 0 count (first_answer (pieces_of cuts 0 areas))
  first_is_first count areas cut size judged =
      let all = pieces_answer Good (cut_at cuts 0) (pieces_of cuts 0 areas) (pieces_are_answered 0 areas cut.order (omega (arith, size)) judged) in
      let last : length cuts - 1 ≡ 0 + length areas = omega (arith, size) in
      let end : end_of (cut_at cuts 0) (pieces_of cuts 0 areas) ≡ count = pieces_end cuts 0 areas ∙ ap (cut_at cuts) (sym last) ∙ cut.last in
      subst (λ n. IsFirstBad Good n count (first_answer (pieces_of cuts 0 areas))) cut.first
      (subst (λ n. IsFirstBad Good (cut_at cuts 0) n (first_answer (pieces_of cuts 0 areas))) end all)

-- over as many letters as there were
pub first_of_all : (clauses : List (List Literal)) (parts : List Part) (letters : ℕ) (cuts : List ℕ) (old new : List Area)
    → AreCuts cuts (length (lines_of parts)) → length cuts ≡ suc (length old)
    → All (λ (a : Area). length a.assignment ≡ letters + 1) old → KeepSizes old new
    → ((i : ℕ) (d : Area) → i < length old → IsJudged clauses parts cuts i (get_or new i d))
    → IsFirstBad (IsGoodLine clauses letters parts) 0 (length (lines_of parts)) (first_answer (pieces_of cuts 0 new))
first_of_all clauses parts letters cuts old new cut size sizes keep judged =
    first_is_first (IsGoodLine clauses letters parts) cuts (length (lines_of parts)) new cut (omega (arith, size, keep.count)) (λ i d low.
    let there : i < length old = omega (arith, low, keep.count) in
    let known : length (get_or new i d).assignment - 1 ≡ letters = omega (arith, keep.each i d there, sizes i d there) in
    let on : i ≡ 0 + i = omega arith in
    subst (λ n. IsFirstBad (IsGoodLine clauses letters parts) (cut_at cuts n) (cut_at cuts (suc n)) (get_or new i d).first_bad) on
    (subst (λ n. IsFirstBad (IsGoodLine clauses n parts) (cut_at cuts i) (cut_at cuts (suc i)) (get_or new i d).first_bad) known (judged i d there)))

-- the number of a bad line fits where that of the end does
pub number_fits : (Good : ℕ → Type 0) (from to limit : ℕ) (bad : Option ℕ) → to < limit → IsFirstBad Good from to bad → IfSome bad (λ line. line + 1 < limit)
number_fits Good from to limit None low is = tt
number_fits Good from to limit (Some k) low is = omega (arith, low, is.1)

-- the first bad line is the answer
pub lines_answer : (clauses : List (List Literal)) (parts : List Part) (letters : ℕ) (bad : Option ℕ) (r : Lines) → r ≡ answer_by bad
    → IsFirstBad (IsGoodLine clauses letters parts) 0 (length (lines_of parts)) bad → IsLinesAnswer clauses letters parts r
lines_answer clauses parts letters None r at is = subst (IsLinesAnswer clauses letters parts) (sym at) is
lines_answer clauses parts letters (Some k) r at is = subst (IsLinesAnswer clauses letters parts) (sym at) (k, refl, is)
