-- `monitor` has an answer.
use Rattle.std.proofs.Common.{◌≡◌, ℕ, zero, suc, ◌-◌, ◌<◌, ◌≤◌, ◌⊎◌, inl, inr, ◌↔◌, Bool, true, false, List, [], ◌∷◌, length, take, map, get_or, Option, Some}
use Rattle.std.proofs.Common.{None, IsTrue, refl, sym, ap, ◌∙◌, subst, arith}
use Rattle.std.specs.Str.{is_utf8}
use Rattle.std.proofs.lemmas.Str.{IsUtf8-from_is_utf8, is_utf8-from_IsUtf8}
use Rattle.std.proofs.lemmas.List.{length-take-le}
use Rattle.serde_json.specs.Data.{Data, null, boolean, number, string, array, object, Items, no_items, item}
use Rattle.serde_json.specs.View.{items_of}
use Rattle.serde_json.specs.Read.{read}
use Rattle.ltl_syntax.specs.declared.node.UnaryOp.{UnaryOp}
use Rattle.ltl_syntax.specs.declared.node.BinaryOp.{BinaryOp}
use Rattle.ltl_syntax.specs.declared.node.UnaryOp.TheVariants as one
use Rattle.ltl_syntax.specs.declared.node.BinaryOp.TheVariants as two
use Rattle.ltl_syntax.specs.Formula.{Formula, Const, Letter, Unary, Binary}
use Rattle.ltl_word.specs.declared.trace.Trace.TheVariants.{Finite}
use Rattle.ltl_word.specs.Trace.{Names}
use Rattle.ltl_word.specs.Holds.{Holds}
use Rattle.ltl_word.specs.Json.{state_data}
use Rattle.ltl_word.specs.Laws.{EachIsDecided}
use Rattle.past_monitor.specs.Past.{IsPast₁, IsPast₂, IsPast}
use Rattle.past_monitor.specs.Line.{IsStateOf}
use Rattle.past_monitor.specs.Text.{lines_of, is_blank, AreStates, IsBad, line_at, IsFirstBad, AreAnswers}
use Rattle.report.specs.declared.fault.Fault.TheVariants as faults
use Rattle.black_top.specs.Answer.{refused, watched}
use Rattle.black_top.specs.Monitor.{IsMonitored, looks_ahead, no_state, answered}
use Rattle.black_top.proofs.Listed.{listed}
use Rattle.ltl_word.proofs.Sets.{set_of}
use Rattle.black_top.proofs.Parted.{HasSome}
use Rattle.black_top.proofs.SomeSystem.{both, all_three}

-- ---- formulas that do not look ahead

past_one : (op : UnaryOp) → IsPast₁ op ⊎ ¬ IsPast₁ op
past_one one.Next = inr (λ h. h)
past_one one.WeakNext = inr (λ h. h)
past_one one.Eventually = inr (λ h. h)
past_one one.Always = inr (λ h. h)
past_one (one.NextTimes n) = inr (λ h. h)
past_one (one.EventuallyIn m n) = inr (λ h. h)
past_one (one.AlwaysIn m n) = inr (λ h. h)
past_one other = inl tt

past_two : (op : BinaryOp) → IsPast₂ op ⊎ ¬ IsPast₂ op
past_two two.Until = inr (λ h. h)
past_two two.Release = inr (λ h. h)
past_two two.WeakUntil = inr (λ h. h)
past_two two.StrongRelease = inr (λ h. h)
past_two other = inl tt

past_or_not : (f : Formula) → IsPast f ⊎ ¬ IsPast f
past_or_not (Const b) = inl tt
past_or_not (Letter p) = inl tt
past_or_not (Unary op a) = both (past_one op) (past_or_not a)
past_or_not (Binary op a b) = all_three (past_two op) (past_or_not a) (past_or_not b)

-- ---- lines

-- the items are strings, or no list of names
abbrev AreNamed : Items → Type 0
AreNamed ds = ((names : Names) × (ds ≡ items_of (map string names))) ⊎ ((names : Names) → ds ≡ items_of (map string names) → ⊥)

no_string : (d : Data) (ds : Items) → ((s : List ℕ) → d ≡ string s → ⊥) → (names : Names) → item d ds ≡ items_of (map string names) → ⊥
no_string d ds none [] e = cc
no_string d ds none (n ∷ names) e = none n (cc)

more_named : (s : List ℕ) (ds : Items) → AreNamed ds → AreNamed (item (string s) ds)
more_named s ds (inl w) = inl (s ∷ w.0, ap (item (string s)) w.1)
more_named s ds (inr none) = inr by
  where
    by : (names : Names) → item (string s) ds ≡ items_of (map string names) → ⊥
    by [] e = cc
    by (n ∷ names) e = none names (cc)

named_or_not : (ds : Items) → AreNamed ds
named_or_not no_items = inl ([], refl)
named_or_not (item (string s) ds) = more_named s ds (named_or_not ds)
named_or_not (item null ds) = inr (no_string null ds (λ s e. cc))
named_or_not (item (boolean b) ds) = inr (no_string (boolean b) ds (λ s e. cc))
named_or_not (item (number n) ds) = inr (no_string (number n) ds (λ s e. cc))
named_or_not (item (array es) ds) = inr (no_string (array es) ds (λ s e. cc))
named_or_not (item (object ms) ds) = inr (no_string (object ms) ds (λ s e. cc))

abbrev IsStateData : Data → Type 0
IsStateData d = ((names : Names) × (d ≡ state_data names)) ⊎ ((names : Names) → d ≡ state_data names → ⊥)

state_data_or_not : (d : Data) → IsStateData d
state_data_or_not (array ds) = elim (named_or_not ds) [ inl w ↦ inl (w.0, ap array w.1) | inr none ↦ inr (λ names e. none names (cc)) ]
state_data_or_not null = inr (λ names e. cc)
state_data_or_not (boolean b) = inr (λ names e. cc)
state_data_or_not (number n) = inr (λ names e. cc)
state_data_or_not (string s) = inr (λ names e. cc)
state_data_or_not (object ms) = inr (λ names e. cc)

state_or_not : (line : List ℕ) → ((state : Names) × IsStateOf line (Some state)) ⊎ IsStateOf line None
state_or_not line = by (is_utf8 line) refl (read line) refl
  where
    by : (t : Bool) → is_utf8 line ≡ t → (found : Option Data) → read line ≡ found → ((state : Names) × IsStateOf line (Some state)) ⊎ IsStateOf line None
    by false u found e = inr (λ names j. let there : is_utf8 line ≡ true = is_utf8-from_IsUtf8 line j.0 in cc)
    by true u None e = inr (λ names j. let there : read line ≡ Some (state_data names) = j.1 in cc)
    by true u (Some d) e = elim (state_data_or_not d) [
      | inl w ↦ let s = set_of w.0 in inl (s.0, (w.0, (IsUtf8-from_is_utf8 line u, e ∙ ap Some w.1), s.1))
      | inr none ↦ inr (λ names j. none names (let same : Some d ≡ Some (state_data names) = sym e ∙ j.1 in cc))
    ]

-- a number is one more among the lines with one more in front
line_later : (line : List ℕ) (lines : List (List ℕ)) (n : ℕ) → 1 ≤ n → line_at (line ∷ lines) (suc n) ≡ line_at lines n
line_later line lines zero some = absurd (omega arith)
line_later line lines (suc m) some =
    let e : suc (suc m) - 1 ≡ suc m = omega arith in
    let i : m ≡ suc m - 1 = omega arith in
    ap (λ k. get_or (line ∷ lines) k []) e ∙ ap (λ k. get_or lines k []) i

bad_later : (line : List ℕ) (lines : List (List ℕ)) (n : ℕ) → ¬ (IsBad line) → IsFirstBad lines n → IsFirstBad (line ∷ lines) (suc n)
bad_later line lines n good h =
    let low = h.some in
    let high = h.there in
    record {
      some = omega arith;
      there = omega arith;
      bad = subst IsBad (sym (line_later line lines n low)) h.bad;
      before = before;
    }
  where
    before : (m : ℕ) → 1 ≤ m → m < suc n → ¬ (IsBad (line_at (line ∷ lines) m))
    before zero some less bad = absurd (omega arith)
    before (suc zero) some less bad = good bad
    before (suc (suc m)) some less bad = h.before (suc m) (omega arith) (omega arith) (subst IsBad (line_later line lines (suc m) (omega arith)) bad)

bad_first : (line : List ℕ) (lines : List (List ℕ)) → IsBad line → IsFirstBad (line ∷ lines) 1
bad_first line lines bad = record { some = omega arith; there = omega arith; bad = bad; before = λ n some less. absurd (omega arith) }

abbrev AreRead : List (List ℕ) → Type 0
AreRead lines = ((states : List Names) × AreStates lines states) ⊎ ((number : ℕ) × IsFirstBad lines number)

states_or_bad : (lines : List (List ℕ)) → AreRead lines
states_or_bad [] = inl ([], tt)
states_or_bad (line ∷ lines) = by (is_blank line) refl (states_or_bad lines)
  where
    by : (b : Bool) → is_blank line ≡ b → AreRead lines → AreRead (line ∷ lines)
    by true e (inl w) = inl (w.0, inl (e, w.1))
    by true e (inr w) = inr (suc w.0, bad_later line lines w.0 (λ bad. let f = bad.0 in cc) w.1)
    by false e more = elim (state_or_not line) [
      | inr none ↦ inr (1, bad_first line lines (e, none))
      | inl s ↦ elim more [
        | inl w ↦ inl (s.0 ∷ w.0, inr (e, (s.0, w.0, refl, s.1, w.1)))
        | inr w ↦ inr (suc w.0, bad_later line lines w.0 (λ bad. bad.1 s.1.0 s.1.1) w.1)
      ]
    ]

-- ---- answers

module _ (decides : EachIsDecided) (f : Formula) (states : List Names) where
  one_answer : (k : ℕ) → k < length states → (b : Bool) × (IsTrue b ↔ Holds (Finite (take (suc k) states)) f k)
  one_answer k low =
      let n = length-take-le (suc k) states (omega arith) in
      elim (decides (Finite (take (suc k) states)) f k (omega arith)) [
        | inl yes' ↦ (true, (λ e. yes', λ h. refl))
        | inr no' ↦ (false, (λ e. cc, λ h. absurd (no' h)))
      ]

  some_answers : (answers : List Bool) × AreAnswers f states answers
  some_answers =
      let w = listed false (λ k b. IsTrue b ↔ Holds (Finite (take (suc k) states)) f k) (length states) one_answer in
      (w.0, record { count = w.1.0; each = w.1.1 })

pub some_monitored : EachIsDecided → HasSome IsMonitored
some_monitored decides part text f read' = elim (past_or_not f) [
  | inr ahead ↦ (refused faults.LooksAhead, looks_ahead ahead)
  | inl past ↦ elim (states_or_bad (lines_of text)) [
    | inr w ↦ (refused (faults.State w.0), no_state w.0 (past, w.1))
    | inl w ↦ let a = some_answers decides f w.0 in (watched a.0, answered a.0 (past, (w.0, w.1, a.1)))
  ]
]
