-- What is live where.
use Rattle.std.proofs.Common.{◌≡◌, ℕ, zero, suc, ◌+◌, ◌-◌, ◌<◌, ◌≤◌, ◌==◌, ◌||◌, ◌&&◌, inl, inr, Bool, true, false, not, cond, ltb, List, [], ◌∷◌, ◌++◌, length}
use Rattle.std.proofs.Common.{take, get_or, All, Option, Some, None, is_some, IsTrue, slice_get, refl, sym, ap, ap₂, ◌∙◌, subst, arith, add-one, if◌then◌else◌}
use Rattle.std.specs.List.{list_any}
use Rattle.std.proofs.lemmas.Bool.{cond-true, cond-false, eq-eqb, ne_eqb, ltb-true, ltb-false, lt-ltb, le-ltb, cases_lt, cases_order, or_parts, cond_both}
use Rattle.std.proofs.lemmas.List.{append-nil, take_all, length_push, length-take-le}
use Rattle.std.proofs.lemmas.List.Elements.{All-nil, All-more, All-head, All-tail}
use Rattle.std.proofs.lemmas.List.Folds.{list_any-append}
use Rattle.std.proofs.lemmas.Option.{slice_get_past}
use mathlib.Core.Bool.{false≢true}
use Rattle.cnf_base.specs.declared.literal.Literal.{Literal}
use Rattle.cnf_base.specs.declared.literal.Hint.{Hint}
use Rattle.cnf_base.specs.Step.{numbered, IsHintedStep}
use Rattle.cnf_base.specs.Meaning.{clause_value, Satisfies}
use Rattle.cnf_base.proofs.Among.{step_to, step_from, step_kept, step_left, hints_there}
use Rattle.cnf_base.proofs.Soundness.{hinted_step_follows}
use Rattle.cert_text.specs.Text.{Part, Line, Delete, IsPart}
use Rattle.cert_text.specs.Laws.{AllAreLive, LastUsersStand, GoodLinesAreLive}
use Rattle.cert_text.specs.Live.{lines_of, hints_of, parts_before, parts_behind, deletes, is_deleted, live_line, live_at, IsGoodLine, lines_until, last_user}

-- the lines before line k + 1
pub lines_before : (parts : List Part) (k : ℕ) → lines_of (parts_before parts k) ≡ take k (lines_of parts)
lines_before [] zero = refl
lines_before [] (suc k) = refl
lines_before (Delete ns ∷ parts) k = lines_before parts k
lines_before (Line ls hs ∷ parts) zero = refl
lines_before (Line ls hs ∷ parts) (suc k) = ap (λ x. ls ∷ x) (lines_before parts k)

-- a live line is one of the lines
pub live_stands : (parts : List Part) (m : ℕ) (clause : List Literal) → live_line parts m ≡ Some clause → numbered (lines_of parts) m ≡ Some clause
live_stands parts zero clause is = cc
live_stands parts (suc k) clause is = go (is_deleted parts k) (slice_get (lines_of parts) k) is
  where
    go : (b : Bool) (o : Option (List Literal)) → cond b None o ≡ Some clause → o ≡ Some clause
    go true o e = cc
    go false o e = e

-- one that is live at a line is an earlier line
pub live_earlier : (parts : List Part) (k m : ℕ) (clause : List Literal) → live_at parts k m ≡ Some clause → numbered (take k (lines_of parts)) m ≡ Some clause
live_earlier parts k m clause is = subst (λ ls. numbered ls m ≡ Some clause) (lines_before parts k) (live_stands (parts_before parts k) m clause is)

-- a good line is a hinted step over the earlier lines
pub good_step : (clauses : List (List Literal)) (greatest : ℕ) (parts : List Part) (k : ℕ) → IsGoodLine clauses greatest parts k
    → IsHintedStep clauses (take k (lines_of parts)) greatest (get_or (lines_of parts) k []) (get_or (hints_of parts) k [])
good_step clauses greatest parts k good =
    step_from clauses (take k (lines_of parts)) greatest (get_or (lines_of parts) k []) (get_or (hints_of parts) k [])
    (step_kept clauses (live_at parts k) (numbered (take k (lines_of parts))) greatest (live_earlier parts k) (get_or (lines_of parts) k [])
    (get_or (hints_of parts) k []) good)

-- and each line that its hints name is live
pub good_lines_are_live : GoodLinesAreLive
good_lines_are_live clauses greatest parts k =
    let clause = get_or (lines_of parts) k [] in
    let hs = get_or (hints_of parts) k [] in (
      λ good. (
        good_step clauses greatest parts k good,
        λ m there. some_there (live_at parts k m) (hints_there clauses (live_at parts k) greatest good.refutes m there),
      ),
      λ both. step_left clauses (numbered (take k (lines_of parts))) (live_at parts k) greatest clause hs
          (step_to clauses (take k (lines_of parts)) greatest clause hs both.0)
          (λ m there. same_there (live_at parts k m) (numbered (take k (lines_of parts)) m) (live_earlier parts k m) (both.1 m there)),
    )
  where
    some_there : (o : Option (List Literal)) → (c : List Literal) × (o ≡ Some c) → IsTrue (is_some o)
    some_there None found = cc
    some_there (Some c) found = refl

    same_there : (o p : Option (List Literal)) → ((c : List Literal) → o ≡ Some c → p ≡ Some c) → IsTrue (is_some o) → o ≡ p
    same_there None p into some = absurd (false≢true some)
    same_there (Some c) p into some = sym (into c refl)

-- the first k lines follow, by induction on k
first_follow : (v : ℕ → Bool) (clauses : List (List Literal)) (greatest : ℕ) (parts : List Part) → Satisfies v clauses
    → ((k : ℕ) → k < length (lines_of parts) → IsGoodLine clauses greatest parts k)
    → (n : ℕ) → n ≤ length (lines_of parts) → Satisfies v (take n (lines_of parts))
first_follow v clauses greatest parts holds good zero le = All-nil (λ clause. clause_value v clause ≡ true)
first_follow v clauses greatest parts holds good (suc n) le =
    let lines = lines_of parts in
    let before = first_follow v clauses greatest parts holds good n (omega arith) in
    let here = hinted_step_follows v clauses (take n lines) greatest (get_or lines n []) (get_or (hints_of parts) n []) holds before
    (good_step clauses greatest parts n (good n (omega arith))) in
    rw (← add-one n) (All-more (λ clause. clause_value v clause ≡ true) lines n [] (omega arith) before here)

-- where each line is good, the lines follow from the clauses
pub good_lines_follow : (v : ℕ → Bool) (clauses : List (List Literal)) (greatest : ℕ) (parts : List Part) → Satisfies v clauses
    → ((k : ℕ) → k < length (lines_of parts) → IsGoodLine clauses greatest parts k)
    → Satisfies v (lines_of parts)
good_lines_follow v clauses greatest parts holds good =
    subst (Satisfies v) (take_all (length (lines_of parts)) (lines_of parts) (omega arith))
    (first_follow v clauses greatest parts holds good (length (lines_of parts)) (omega arith))

-- parts put behind others
pub lines_on : (parts more : List Part) → lines_of (parts ++ more) ≡ lines_of parts ++ lines_of more
lines_on [] more = refl
lines_on (Line ls hs ∷ parts) more = ap (λ x. ls ∷ x) (lines_on parts more)
lines_on (Delete ns ∷ parts) more = lines_on parts more

pub behind_on : (parts more : List Part) (k : ℕ) → k < length (lines_of parts) → parts_behind (parts ++ more) k ≡ parts_behind parts k ++ more
behind_on [] more k low = absurd (omega (arith, low))
behind_on (Delete ns ∷ parts) more k low = behind_on parts more k low
behind_on (Line ls hs ∷ parts) more zero low = refl
behind_on (Line ls hs ∷ parts) more (suc k) low = behind_on parts more k (omega (arith, low))

pub behind_last : (parts : List Part) (ls : List Literal) (hs : List Hint) → parts_behind (parts ++ Line ls hs ∷ []) (length (lines_of parts)) ≡ []
behind_last [] ls hs = refl
behind_last (Delete ns ∷ parts) ls hs = behind_last parts ls hs
behind_last (Line l h ∷ parts) ls hs = behind_last parts ls hs

-- past the lines nothing is live
live_past : (parts : List Part) (k : ℕ) → length (lines_of parts) ≤ k → live_line parts (suc k) ≡ None
live_past parts k high = go (is_deleted parts k) (slice_get (lines_of parts) k) (slice_get_past (lines_of parts) k high)
  where
    go : (b : Bool) (o : Option (List Literal)) → o ≡ None → cond b None o ≡ None
    go true o e = refl
    go false o e = e

get_more : {X : Type 0} (xs ys : List X) (k : ℕ) → k < length xs → slice_get (xs ++ ys) k ≡ slice_get xs k
get_more [] ys k low = absurd (omega (arith, low))
get_more (x ∷ xs) ys zero low = refl
get_more (x ∷ xs) ys (suc k) low = get_more xs ys k (omega (arith, low))

get_last : {X : Type 0} (xs : List X) (x : X) → slice_get (xs ++ x ∷ []) (length xs) ≡ Some x
get_last [] x = refl
get_last (y ∷ xs) x = get_last xs x

or_false : (b : Bool) → (b || false) ≡ b
or_false true = refl
or_false false = refl

-- a line that is put behind the parts is live, and changes no other
pub live_with_line : (parts : List Part) (ls : List Literal) (hs : List Hint) (m : ℕ)
    → live_line (parts ++ Line ls hs ∷ []) m ≡ (if m == suc (length (lines_of parts)) then Some ls else live_line parts m)
live_with_line parts ls hs zero =
    sym (cond-false (0 == suc (length (lines_of parts))) (Some ls) None (ne_eqb 0 (suc (length (lines_of parts))) (λ e. omega (arith, e))))
live_with_line parts ls hs (suc k) =
    let new = parts ++ Line ls hs ∷ [] in
    let count = length (lines_of parts) in
    let lines = lines_on parts (Line ls hs ∷ []) in
    elim (cases_order k count) [
      | inl at ↦
          let gone : is_deleted new k ≡ false = ap (list_any (deletes (suc k))) (ap (parts_behind new) at ∙ behind_last parts ls hs) in
          let found : slice_get (lines_of new) k ≡ Some ls =
          ap (λ x. slice_get x k) lines ∙ ap (slice_get (lines_of parts ++ ls ∷ [])) at ∙ get_last (lines_of parts) ls in
          cond-false (is_deleted new k) None (slice_get (lines_of new) k) gone
          ∙ found ∙ sym (cond-true (suc k == suc count) (Some ls) (live_line parts (suc k)) (eq-eqb (suc k) (suc count) (ap suc at)))
      | inr (inl low) ↦
          let gone : is_deleted new k ≡ is_deleted parts k =
          ap (list_any (deletes (suc k))) (behind_on parts (Line ls hs ∷ []) k low) ∙ list_any-append (deletes (suc k)) (parts_behind parts k) (Line ls hs ∷ [])
          ∙ or_false (is_deleted parts k) in
          let found : slice_get (lines_of new) k ≡ slice_get (lines_of parts) k = ap (λ x. slice_get x k) lines ∙ get_more (lines_of parts) (ls ∷ []) k low in
          ap₂ (λ b o. cond b None o) gone found
          ∙ sym (cond-false (suc k == suc count) (Some ls) (live_line parts (suc k)) (ne_eqb (suc k) (suc count) (λ e. omega (arith, e, low))))
      | inr (inr high) ↦
          live_past new k (omega (arith, high, ap length lines, length_push (lines_of parts) ls)) ∙ sym (live_past parts k (omega (arith, high)))
          ∙ sym (cond-false (suc k == suc count) (Some ls) (live_line parts (suc k)) (ne_eqb (suc k) (suc count) (λ e. omega (arith, e, high))))
    ]

-- a delete takes away the lines that it names
pub live_with_delete : (parts : List Part) (ns : List ℕ) (m : ℕ)
    → live_line (parts ++ Delete ns ∷ []) m ≡ (if list_any (λ n. n == m) ns then None else live_line parts m)
live_with_delete parts ns zero = same (list_any (λ n. n == 0) ns)
  where
    same : (b : Bool) → ◌≡◌ {A = Option (List Literal)} None (cond b None None)
    same true = refl
    same false = refl
live_with_delete parts ns (suc k) =
    let new = parts ++ Delete ns ∷ [] in
    let named : Bool = list_any (λ n. n == suc k) ns in
    let lines : lines_of new ≡ lines_of parts = lines_on parts (Delete ns ∷ []) ∙ append-nil (lines_of parts) in
    elim (cases_lt k (length (lines_of parts))) [
      | inl low ↦
          let gone : is_deleted new k ≡ (is_deleted parts k || named) =
          ap (list_any (deletes (suc k))) (behind_on parts (Delete ns ∷ []) k low) ∙ list_any-append (deletes (suc k)) (parts_behind parts k) (Delete ns ∷ [])
          ∙ ap (λ b. is_deleted parts k || b) (or_false named) in
          ap₂ (λ b o. cond b None o) gone (ap (λ x. slice_get x k) lines) ∙ turned (is_deleted parts k) named (slice_get (lines_of parts) k)
      | inr high ↦ live_past new k (omega (arith, high, ap length lines)) ∙ past named (live_line parts (suc k)) (live_past parts k high)
    ]
  where
    turned : (a b : Bool) (o : Option (List Literal)) → cond (a || b) None o ≡ cond b None (cond a None o)
    turned true true o = refl
    turned true false o = refl
    turned false true o = refl
    turned false false o = refl

    past : (b : Bool) (o : Option (List Literal)) → o ≡ None → None ≡ cond b None o
    past true o e = refl
    past false o e = sym e

-- where no delete names the line, it is live as long as it stands
pub live_undeleted : (parts : List Part) (m : ℕ) → list_any (deletes m) parts ≡ false → live_line parts m ≡ numbered (lines_of parts) m
live_undeleted parts zero none = refl
live_undeleted parts (suc k) none = cond-false (is_deleted parts k) None (slice_get (lines_of parts) k) (behind_none parts k none)
  where
    behind_none : (ps : List Part) (i : ℕ) → list_any (deletes (suc k)) ps ≡ false → list_any (deletes (suc k)) (parts_behind ps i) ≡ false
    behind_none [] i e = refl
    behind_none (Delete ns ∷ ps) i e = behind_none ps i (or_parts (list_any (λ n. n == suc k) ns) (list_any (deletes (suc k)) ps) e).1
    behind_none (Line ls hs ∷ ps) zero e = e
    behind_none (Line ls hs ∷ ps) (suc i) e = behind_none ps i e

-- behind a line and before another one
between : (parts : List Part) (k j : ℕ) → k < j → parts_behind (parts_before parts j) k ≡ parts_before (parts_behind parts k) (j - suc k)
between [] k j low = refl
between (Delete ns ∷ parts) k j low = between parts k j low
between (Line ls hs ∷ parts) k zero low = absurd (omega (arith, low))
between (Line ls hs ∷ parts) zero (suc j) low = ap (parts_before parts) (omega arith)
between (Line ls hs ∷ parts) (suc k) (suc j) low =
    let e : j - suc k ≡ suc j - suc (suc k) = omega arith in
    between parts k j (omega (arith, low)) ∙ ap (parts_before (parts_behind parts k)) e

-- a line is deleted before line i + 1 of these parts exactly where no more than i lines stand before the delete
deleted_before : (m : ℕ) (parts : List Part) (i : ℕ) → i < length (lines_of parts)
    → list_any (deletes m) (parts_before parts i) ≡ not (ltb i (lines_until m parts))
deleted_before m [] i low = absurd (omega (arith, low))
deleted_before m (Delete ns ∷ parts) i low = go (list_any (λ n. n == m) ns) (deleted_before m parts i low)
  where
    go : (b : Bool) → list_any (deletes m) (parts_before parts i) ≡ not (ltb i (lines_until m parts))
        → (b || list_any (deletes m) (parts_before parts i)) ≡ not (ltb i (cond b 0 (lines_until m parts)))
    go true e = ap not (sym (le-ltb i 0 (omega arith)))
    go false e = e
deleted_before m (Line ls hs ∷ parts) zero low = ap not (sym (lt-ltb 0 (suc (lines_until m parts)) (omega arith)))
deleted_before m (Line ls hs ∷ parts) (suc i) low = deleted_before m parts i (omega (arith, low)) ∙ ap not (less (ltb i (lines_until m parts)) refl)
  where
    less : (b : Bool) → ltb i (lines_until m parts) ≡ b → ltb i (lines_until m parts) ≡ ltb (suc i) (suc (lines_until m parts))
    less true e = e ∙ sym (lt-ltb (suc i) (suc (lines_until m parts)) (omega (arith, ltb-true i (lines_until m parts) e)))
    less false e = e ∙ sym (le-ltb (suc i) (suc (lines_until m parts)) (omega (arith, ltb-false i (lines_until m parts) e)))

pub count_behind : (parts : List Part) (k : ℕ) → length (lines_of (parts_behind parts k)) ≡ length (lines_of parts) - suc k
count_behind [] k = omega arith
count_behind (Delete ns ∷ parts) k = count_behind parts k
count_behind (Line ls hs ∷ parts) zero = omega arith
count_behind (Line ls hs ∷ parts) (suc k) = count_behind parts k ∙ omega arith

-- a line is live at those behind it up to its last user
pub live_to_user : (parts : List Part) (k j : ℕ) → j < length (lines_of parts)
    → live_at parts j (suc k) ≡ (if ltb k j && ltb j (last_user parts k) then slice_get (lines_of parts) k else None)
live_to_user parts k j low = elim (cases_lt k j) [
  | inl before ↦
      let m : ℕ = suc k in
      let qs = parts_behind parts k in
      let gone : is_deleted (parts_before parts j) k ≡ not (ltb (j - suc k) (lines_until m qs)) =
      ap (list_any (deletes m)) (between parts k j before) ∙ deleted_before m qs (j - suc k) (omega (arith, before, low, count_behind parts k)) in
      let found : slice_get (lines_of (parts_before parts j)) k ≡ slice_get (lines_of parts) k =
      ap (λ x. slice_get x k) (lines_before parts j) ∙ get_front (lines_of parts) j k before in
      let moved : ltb (j - suc k) (lines_until m qs) ≡ ltb j (last_user parts k) = shift j (suc k) (lines_until m qs) (omega arith) in
      ap₂ (λ b o. cond b None o) (gone ∙ ap not moved) found ∙ swapped (ltb j (last_user parts k)) (slice_get (lines_of parts) k)
      ∙ ap (λ b. cond (b && ltb j (last_user parts k)) (slice_get (lines_of parts) k) None) (sym (lt-ltb k j before))
  | inr behind ↦
      live_past (parts_before parts j) k (omega (arith, behind, ap length (lines_before parts j), length-take-le j (lines_of parts) (omega (arith, low))))
      ∙ ap (λ b. cond (b && ltb j (last_user parts k)) (slice_get (lines_of parts) k) None) (sym (le-ltb k j behind))
]
  where
    get_front : {X : Type 0} (xs : List X) (n i : ℕ) → i < n → slice_get (take n xs) i ≡ slice_get xs i
    get_front [] zero i low = refl
    get_front [] (suc n) i low = refl
    get_front (x ∷ xs) zero i low = absurd (omega (arith, low))
    get_front (x ∷ xs) (suc n) zero low = refl
    get_front (x ∷ xs) (suc n) (suc i) low = get_front xs n i (omega (arith, low))

    shift : (a b u : ℕ) → b ≤ a → ltb (a - b) u ≡ ltb a (b + u)
    shift a b u le = elim (cases_lt (a - b) u) [
      | inl less ↦ lt-ltb (a - b) u less ∙ sym (lt-ltb a (b + u) (omega (arith, less)))
      | inr more ↦ le-ltb (a - b) u more ∙ sym (le-ltb a (b + u) (omega (arith, more)))
    ]

    swapped : (b : Bool) (o : Option (List Literal)) → cond (not b) None o ≡ cond (true && b) o None
    swapped true o = refl
    swapped false o = refl

pub last_users_stand : LastUsersStand
last_users_stand parts k low = (omega arith, omega (arith, until_count (suc k) (parts_behind parts k), count_behind parts k, low))
  where
    until_count : (m : ℕ) (ps : List Part) → lines_until m ps ≤ length (lines_of ps)
    until_count m [] = omega arith
    until_count m (Delete ns ∷ ps) =
        cond_both (list_any (λ n. n == m) ns) 0 (lines_until m ps) (λ x. x ≤ length (lines_of ps)) (λ _. omega arith) (λ _. until_count m ps)
    until_count m (Line ls hs ∷ ps) = omega (arith, until_count m ps)

-- no part of version 1 deletes
pub all_are_live : AllAreLive
all_are_live parts m all = live_undeleted parts m (none parts all)
  where
    none : (ps : List Part) → All (IsPart 1) ps → list_any (deletes m) ps ≡ false
    none [] all = refl
    none (Line ls hs ∷ ps) all = none ps (All-tail (IsPart 1) (Line ls hs) ps all)
    none (Delete ns ∷ ps) all = absurd (omega (arith, (All-head (IsPart 1) (Delete ns) ps all).0))
