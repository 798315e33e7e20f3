-- The loop over the lines of a text.
use Rattle.std.proofs.Common.{◌≡◌, inl, inr, ℕ, zero, suc, ◌+◌, ◌-◌, ◌<◌, ◌≤◌, ◌↔◌, Bool, true, false, List, [], ◌∷◌, ◌++◌, length, length-append, take}
use Rattle.std.proofs.Common.{slice_index_or, Option, Some, Result, Ok, Err, IsErr, IfErr, IsTrue, refl, sym, subst, ap, ◌∙◌, arith, true≢false}
use Rattle.std.specs.Result.{IsErrAnd}
use Rattle.std.proofs.Math.ListN.{get_or-append}
use Rattle.std.proofs.Math.Seq.{get_or-append_seam}
use Rattle.std.proofs.lemmas.Bool.{cases_lt}
use Rattle.std.proofs.lemmas.List.{append_assoc}
use Rattle.ltl_syntax.specs.Formula.{Formula}
use Rattle.ltl_word.specs.declared.trace.Trace.TheVariants.{Finite}
use Rattle.ltl_word.specs.Trace.{Names}
use Rattle.ltl_word.specs.Holds.{Holds}
use Rattle.past_monitor.specs.declared.refused.WatchRefused.{WatchRefused}
use Rattle.past_monitor.specs.declared.refused.WatchRefused.TheVariants as refusals
use Rattle.past_monitor.specs.Past.{IsPast}
use Rattle.past_monitor.specs.Monitor.{MonitorValue, formula_at, formula_of, StandsFor, IsStep}
use Rattle.past_monitor.specs.Line.{IsStateOf}
use Rattle.past_monitor.specs.Text.{lines_of, is_blank, AreStates, IsBad, line_at, IsFirstBad, AreAnswers, lines_left, bytes_left, IsWatched}

-- this number of lines of the text are done: they have these states, and the answers to them
pub record IsWatching (f : Formula) (text : List ℕ) (rest : Option (List ℕ)) (m : MonitorValue) (answers : List Bool) (number : ℕ) : Type 0 where
  pub past : IsPast f
  pub formula : formula_of m ≡ f
  pub done : List (List ℕ)
  pub states : List Names
  pub whole : lines_of text ≡ done ++ lines_left rest
  pub counted : number ≡ length done
  pub room : number + bytes_left rest ≤ length text + 1
  pub are : AreStates done states
  pub stands : StandsFor m states
  pub answered : AreAnswers f states answers

pub begun : (f : Formula) (text : List ℕ) (m : MonitorValue) → IsPast f → formula_of m ≡ f → StandsFor m [] → IsWatching f text (Some text) m [] 0
begun f text m past formula stands = record {
  past = past;
  formula = formula;
  done = [];
  states = [];
  whole = refl;
  counted = refl;
  room = omega arith;
  are = tt;
  stands = stands;
  answered = record { count = refl; each = λ k lt. absurd (omega arith) };
}

blank_more : (lines : List (List ℕ)) (states : List Names) (line : List ℕ) → AreStates lines states
    → is_blank line ≡ true → AreStates (lines ++ line ∷ []) states
blank_more [] [] line h b = inl (b, tt)
blank_more [] (s ∷ states) line h b = absurd h
blank_more (x ∷ lines) states line h b = elim h [
  | inl w ↦ inl (w.0, blank_more lines states line w.1 b)
  | inr w ↦ inr (w.0, (w.1.0, w.1.1, w.1.2, w.1.3, blank_more lines w.1.1 line w.1.4 b))
]

state_more : (lines : List (List ℕ)) (states : List Names) (line : List ℕ) (s : Names) → AreStates lines states
    → is_blank line ≡ false → IsStateOf line (Some s) → AreStates (lines ++ line ∷ []) (states ++ s ∷ [])
state_more [] [] line s h b is = inr (b, (s, [], refl, is, tt))
state_more [] (r ∷ states) line s h b is = absurd h
state_more (x ∷ lines) states line s h b is = elim h [
  | inl w ↦ inl (w.0, state_more lines states line s w.1 b is)
  | inr w ↦ inr (w.0, (w.1.0, w.1.1 ++ s ∷ [], ap (λ ss. ss ++ s ∷ []) w.1.2, w.1.3, state_more lines w.1.1 line s w.1.4 b is))
]

-- none of them is neither white space nor a state
pub none_bad : (lines : List (List ℕ)) (states : List Names) → AreStates lines states → (i : ℕ) → i < length lines → ¬ (IsBad (slice_index_or lines i []))
none_bad [] states h i lt bad = omega arith
none_bad (x ∷ lines) states h zero lt bad = elim h [
  | inl w ↦ true≢false (sym w.0 ∙ bad.0)
  | inr w ↦ let is = w.1.3 in bad.1 is.0 is.1
]
none_bad (x ∷ lines) states h (suc i) lt bad = elim h [
  | inl w ↦ none_bad lines states w.1 i (omega arith) bad
  | inr w ↦ none_bad lines w.1.1 w.1.4 i (omega arith) bad
]

answer_more : (f : Formula) (states : List Names) (answers : List Bool) (s : Names) (a : Bool) → AreAnswers f states answers
    → IsTrue a ↔ Holds (Finite (states ++ s ∷ [])) f (length states)
    → AreAnswers f (states ++ s ∷ []) (answers ++ a ∷ [])
answer_more f states answers s a h right = record {
  count = omega (arith, length-append answers (a ∷ []), length-append states (s ∷ []), h.count);
  each = λ k lt. elim (cases_lt k (length states)) [
    | inl less ↦
        let old = h.each k less in
        let e : slice_index_or (answers ++ a ∷ []) k false ≡ slice_index_or answers k false = get_or-append answers (a ∷ []) false k (omega (arith, h.count)) in
        let t : take (suc k) (states ++ s ∷ []) ≡ take (suc k) states = take_front (suc k) states (omega arith) in (
          λ x. subst (λ (ts : List Names). Holds (Finite ts) f k) (sym t) (old.0 (subst IsTrue e x)),
          λ x. subst IsTrue (sym e) (old.1 (subst (λ (ts : List Names). Holds (Finite ts) f k) t x)),
        )
    | inr ge ↦
        let k_is : length states ≡ k = omega (arith, length-append states (s ∷ [])) in
        subst (λ j. IsTrue (slice_index_or (answers ++ a ∷ []) j false) ↔ Holds (Finite (take (suc j) (states ++ s ∷ []))) f j) k_is last
  ];
} where
  take_front : (k : ℕ) (xs : List Names) → k ≤ length xs → take k (xs ++ s ∷ []) ≡ take k xs
  take_front zero xs le = refl
  take_front (suc k) [] le = absurd (omega arith)
  take_front (suc k) (x ∷ xs) le = ap (λ ys. x ∷ ys) (take_front k xs (omega arith))

  take_whole : (xs : List Names) → take (suc (length xs)) (xs ++ s ∷ []) ≡ xs ++ s ∷ []
  take_whole [] = refl
  take_whole (x ∷ xs) = ap (λ ys. x ∷ ys) (take_whole xs)

  last : IsTrue (slice_index_or (answers ++ a ∷ []) (length states) false) ↔ Holds (Finite (take (suc (length states)) (states ++ s ∷ []))) f (length states)
  last =
      let e : slice_index_or (answers ++ a ∷ []) (length states) false ≡ a =
      subst (λ j. slice_index_or (answers ++ a ∷ []) j false ≡ a) h.count (get_or-append_seam answers a [] false) in
      let t = take_whole states in (
        λ x. subst (λ (ts : List Names). Holds (Finite ts) f (length states)) (sym t) (right.0 (subst IsTrue e x)),
        λ x. subst IsTrue (sym e) (right.1 (subst (λ (ts : List Names). Holds (Finite ts) f (length states)) t x)),
      )

-- one line more, where t is the text that was left
module _ (f : Formula) (text t : List ℕ) (m : MonitorValue) (answers : List Bool) (number : ℕ) (is : IsWatching f text (Some t) m answers number)
    (line : List ℕ) (rest : Option (List ℕ)) (first : lines_of t ≡ line ∷ lines_left rest) where
  whole_next : lines_of text ≡ (is.done ++ line ∷ []) ++ lines_left rest
  whole_next = is.whole ∙ (ap (λ ls. is.done ++ ls) first ∙ sym (append_assoc is.done (line ∷ []) (lines_left rest)))

  counted_next : number + 1 ≡ length (is.done ++ line ∷ [])
  counted_next = omega (arith, is.counted, length-append is.done (line ∷ []))

  pub blank_taken : (new : MonitorValue) → bytes_left rest ≤ length t → is_blank line ≡ true → new ≡ m → IsWatching f text rest new answers (number + 1)
  blank_taken new less b e = record {
    past = is.past;
    formula = ap formula_of e ∙ is.formula;
    done = is.done ++ line ∷ [];
    states = is.states;
    whole = whole_next;
    counted = counted_next;
    room = omega (arith, is.room, less);
    are = blank_more is.done is.states line is.are b;
    stands = subst (λ v. StandsFor v is.states) (sym e) is.stands;
    answered = is.answered;
  }

  pub state_taken : (new : MonitorValue) (s : Names) (a : Bool) (answers' : List Bool) → bytes_left rest ≤ length t
      → is_blank line ≡ false → IsStateOf line (Some s) → IsStep m s a new → answers' ≡ answers ++ a ∷ []
      → IsWatching f text rest new answers' (number + 1)
  state_taken new s a answers' less b state step e =
      let right = subst (λ (g : Formula). IsTrue a ↔ Holds (Finite (is.states ++ s ∷ [])) g (length is.states)) is.formula (step.right is.states is.stands) in
      record {
        past = is.past;
        formula = ap (λ fs. formula_at fs (length fs - 1)) step.formulas ∙ is.formula;
        done = is.done ++ line ∷ [];
        states = is.states ++ s ∷ [];
        whole = whole_next;
        counted = counted_next;
        room = omega (arith, is.room, less);
        are = state_more is.done is.states line s is.are b state;
        stands = step.stands is.states is.stands;
        answered = subst (AreAnswers f (is.states ++ s ∷ [])) (sym e) (answer_more f is.states answers s a is.answered right);
      }

  pub first_bad : IsBad line → IsFirstBad (lines_of text) (number + 1)
  first_bad bad =
      let whole : lines_of text ≡ is.done ++ (line ∷ lines_left rest) = is.whole ∙ ap (λ ls. is.done ++ ls) first in
      let long = length-append is.done (line ∷ lines_left rest) in
      let at : slice_index_or (is.done ++ (line ∷ lines_left rest)) number [] ≡ line =
      subst (λ k. slice_index_or (is.done ++ (line ∷ lines_left rest)) k [] ≡ line) (sym is.counted) (get_or-append_seam is.done line (lines_left rest) []) in
      let place : number + 1 - 1 ≡ number = omega arith in
      record {
        some = omega arith;
        there = let e : length (lines_of text) ≡ length (is.done ++ (line ∷ lines_left rest)) = ap length whole in omega (arith, long, is.counted);
        bad =
            subst IsBad (sym (ap (λ ls. line_at ls (number + 1)) whole ∙ (ap (λ k. slice_index_or (is.done ++ (line ∷ lines_left rest)) k []) place ∙ at))) bad;
        before = λ n some less worse.
            let low : n - 1 < length is.done = omega (arith, is.counted) in
            let e : line_at (lines_of text) n ≡ slice_index_or is.done (n - 1) [] =
            ap (λ ls. line_at ls n) whole ∙ get_or-append is.done (line ∷ lines_left rest) [] (n - 1) low in
            none_bad is.done is.states is.are (n - 1) low (subst IsBad e worse);
      }

-- a refusal of a line is one of the text
pub refused_line : {A : Type 0} (f : Formula) (text : List ℕ) (e : WatchRefused) (r : Result A WatchRefused) → ¬ (e ≡ refusals.Future)
    → ((n : ℕ) → e ≡ refusals.State n → IsPast f × IsFirstBad (lines_of text) n)
    → IsErr r × IsErrAnd r (λ x. x ≡ e) → IfErr r (λ refused. IsWatched f text (Err refused))
refused_line f text e (Ok x) never bad w = let ok = w.0 in cc
refused_line f text e (Err x) never bad w = subst (λ y. IsWatched f text (Err y)) (sym w.1) (by_refusal e never bad) where
  by_refusal : (e : WatchRefused) → ¬ (e ≡ refusals.Future) → ((n : ℕ) → e ≡ refusals.State n → IsPast f × IsFirstBad (lines_of text) n)
      → IsWatched f text (Err e)
  by_refusal refusals.Future never bad = absurd (never refl)
  by_refusal (refusals.State n) never bad = bad n refl
  by_refusal refusals.NoMemory never bad = tt
