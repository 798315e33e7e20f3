-- A text has one answer.
use Rattle.std.proofs.Common.{◌≡◌, ◌≢◌, inl, inr, ℕ, ◌-◌, ◌<◌, Bool, true, false, List, [], ◌∷◌, length, slice_index_or, Result, Ok, Err, IsTrue, refl, sym}
use Rattle.std.proofs.Common.{subst, ap, ap₂, ◌∙◌, arith, true≢false}
use Rattle.std.proofs.lemmas.Bool.{cases_lt}
use Rattle.std.proofs.lemmas.List.{same_lists, get_or_default}
use Rattle.ltl_syntax.specs.Formula.{Formula}
use Rattle.ltl_word.specs.Trace.{Names}
use Rattle.past_monitor.specs.declared.refused.WatchRefused.{WatchRefused}
use Rattle.past_monitor.specs.declared.refused.WatchRefused.TheVariants.{Future, State, NoMemory}
use Rattle.past_monitor.specs.Text.{lines_of, AreStates, IsFirstBad, AreAnswers, IsWatched}
use Rattle.past_monitor.proofs.OneState.{one_state_of}
use Rattle.past_monitor.proofs.Watching.{none_bad}

one_states : (lines : List (List ℕ)) (xs ys : List Names) → AreStates lines xs → AreStates lines ys → xs ≡ ys
one_states [] [] [] h k = refl
one_states [] [] (y ∷ ys) h k = absurd k
one_states [] (x ∷ xs) ys h k = absurd h
one_states (line ∷ lines) xs ys h k = elim h [
  | inl w ↦ elim k [
    | inl v ↦ one_states lines xs ys w.1 v.1
    | inr v ↦ absurd (true≢false (sym w.0 ∙ v.0))
  ]
  | inr w ↦ elim k [
    | inl v ↦ absurd (true≢false (sym v.0 ∙ w.0))
    | inr v ↦ w.1.2 ∙ (ap₂ ◌∷◌ (one_state_of line w.1.0 v.1.0 w.1.3 v.1.3) (one_states lines w.1.1 v.1.1 w.1.4 v.1.4) ∙ sym v.1.2)
  ]
]

one_number : (lines : List (List ℕ)) (m n : ℕ) → IsFirstBad lines m → IsFirstBad lines n → m ≡ n
one_number lines m n h k = elim (cases_lt m n) [
  | inl less ↦ absurd (k.before m h.some less h.bad)
  | inr ge ↦ elim (cases_lt n m) [
    | inl less ↦ absurd (h.before n k.some less k.bad)
    | inr le ↦ omega arith
  ]
]

same_truth : (a b : Bool) → (IsTrue a → IsTrue b) → (IsTrue b → IsTrue a) → a ≡ b
same_truth true b f g = sym (f refl)
same_truth false true f g = g refl
same_truth false false f g = refl

one_list_of_answers : (f : Formula) (states : List Names) (xs ys : List Bool) → AreAnswers f states xs → AreAnswers f states ys → xs ≡ ys
one_list_of_answers f states xs ys h k = same_lists xs ys (omega (arith, h.count, k.count)) (λ i d lt.
    let low : i < length states = omega (arith, h.count) in
    let a = h.each i low in
    let b = k.each i low in
    get_or_default xs i d false lt ∙ (same_truth (slice_index_or xs i false) (slice_index_or ys i false) (λ x. b.1 (a.0 x)) (λ x. a.1 (b.0 x))
    ∙ get_or_default ys i false d (omega (arith, h.count, k.count))))

not_both : (lines : List (List ℕ)) (states : List Names) (n : ℕ) → AreStates lines states → IsFirstBad lines n → ⊥
not_both lines states n h k = none_bad lines states h (n - 1) (omega (arith, k.some, k.there)) k.bad

pub one_answer : (f : Formula) (text : List ℕ) (r s : Result (List Bool) WatchRefused) → IsWatched f text r → IsWatched f text s → r ≢ Err NoMemory
    → s ≢ Err NoMemory → r ≡ s
one_answer f text (Ok xs) (Ok ys) h k m n =
    let same : h.1.0 ≡ k.1.0 = one_states (lines_of text) h.1.0 k.1.0 h.1.1 k.1.1 in
    ap Ok (one_list_of_answers f k.1.0 xs ys (subst (λ (ss : List Names). AreAnswers f ss xs) same h.1.2) k.1.2)
one_answer f text (Ok xs) (Err Future) h k m n = absurd (k h.0)
one_answer f text (Ok xs) (Err (State i)) h k m n = absurd (not_both (lines_of text) h.1.0 i h.1.1 k.1)
one_answer f text (Ok xs) (Err NoMemory) h k m n = absurd (n refl)
one_answer f text (Err Future) (Ok ys) h k m n = absurd (h k.0)
one_answer f text (Err Future) (Err Future) h k m n = refl
one_answer f text (Err Future) (Err (State i)) h k m n = absurd (h k.0)
one_answer f text (Err Future) (Err NoMemory) h k m n = absurd (n refl)
one_answer f text (Err (State i)) (Ok ys) h k m n = absurd (not_both (lines_of text) k.1.0 i k.1.1 h.1)
one_answer f text (Err (State i)) (Err Future) h k m n = absurd (k h.0)
one_answer f text (Err (State i)) (Err (State j)) h k m n = ap (λ x. Err (State x)) (one_number (lines_of text) i j h.1 k.1)
one_answer f text (Err (State i)) (Err NoMemory) h k m n = absurd (n refl)
one_answer f text (Err NoMemory) s h k m n = absurd (m refl)
