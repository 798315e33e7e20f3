-- What is deleted behind a line: the lines whose last use it is, and no other list.
use Rattle.std.proofs.Common.{◌≡◌, ℕ, zero, suc, ◌+◌, ◌<◌, ◌≤◌, ◌==◌, ◌||◌, ◌&&◌, ◌⊎◌, inl, inr, Bool, true, false, not, cond, List, [], ◌∷◌, ◌++◌, length}
use Rattle.std.proofs.Common.{get_or, filter, All, Contains, refl, sym, ap, ap₂, ◌∙◌, subst, arith, if◌then◌else◌}
use Rattle.std.specs.List.{list_any}
use Rattle.std.proofs.lemmas.Bool.{cond-false, eqb-true, eq-eqb, ne_eqb, cases_lt, cases_order, cases_eq, and_parts, and_from, and_right}
use Rattle.std.proofs.lemmas.List.Elements.{All-nil, All-head, All-tail, All-push, Contains-push_cases}
use Rattle.std.proofs.lemmas.List.Folds.{list_any_at, list_any-append}
use mathlib.Core.Bool.{false≢true}
use Rattle.cnf_base.specs.declared.literal.Hint.{Hint}
use Rattle.cnf_base.specs.declared.literal.Hint.TheVariants as hints
use Rattle.cert_text.specs.Writing.{is_line, uses, last_among, last_use, numbers_to, ended_at, Ascends}
use Rattle.cert_text.specs.Laws.{LastUsesAreLast, EndedAscend, EndedAreOne, EndedAmongAll}
use Rattle.cert_text.proofs.Written.{use_is_before}

-- whether a list has a number
abbrev pub has : ℕ → List ℕ → Bool
has m xs = list_any (λ x. x == m) xs

pub has_from : (m : ℕ) (xs : List ℕ) → Contains xs m → has m xs ≡ true
has_from m xs there = list_any_at (λ x. x == m) xs there.0 m there.1 (eq-eqb (get_or xs there.0 m) m there.2)

pub has_to : (m : ℕ) (xs : List ℕ) → has m xs ≡ true → Contains xs m
has_to m [] e = absurd (false≢true e)
has_to m (x ∷ xs) e = go (x == m) refl e (λ h. has_to m xs h)
  where
    go : (b : Bool) → (x == m) ≡ b → (b || has m xs) ≡ true → (has m xs ≡ true → Contains xs m) → Contains (x ∷ xs) m
    go true is e rest = (0, omega arith, eqb-true x m is)
    go false is e rest = let there = rest e in (suc there.0, omega (arith, there.1), there.2)

-- whether hints name a line
uses_to : (m : ℕ) (hs : List Hint) → uses m hs ≡ true → Contains hs (hints.Line m)
uses_to m [] e = absurd (false≢true e)
uses_to m (h ∷ hs) e = go h (λ x. uses_to m hs x) e
  where
    go : (h : Hint) → (uses m hs ≡ true → Contains hs (hints.Line m)) → (is_line m h || uses m hs) ≡ true → Contains (h ∷ hs) (hints.Line m)
    go (hints.Clause n) rest e = let there = rest e in (suc there.0, omega (arith, there.1), there.2)
    go (hints.Line n) rest e = at (n == m) refl e
      where
        at : (b : Bool) → (n == m) ≡ b → (b || uses m hs) ≡ true → Contains (hints.Line n ∷ hs) (hints.Line m)
        at true is e = (0, omega arith, ap hints.Line (eqb-true n m is))
        at false is e = let there = rest e in (suc there.0, omega (arith, there.1), there.2)

uses_from : (m : ℕ) (hs : List Hint) → Contains hs (hints.Line m) → uses m hs ≡ true
uses_from m hs there = list_any_at (is_line m) hs there.0 (hints.Line m) there.1 (ap (is_line m) there.2 ∙ eq-eqb m m refl)

-- the last use is a use, or what was given and nothing uses the line
last_cases : (m n : ℕ) (hss : List (List Hint)) (last : ℕ)
    → ((j : ℕ) × (j < length hss) × (last_among m n hss last ≡ n + suc j) × (uses m (get_or hss j []) ≡ true))
    ⊎ ((last_among m n hss last ≡ last) × ((j : ℕ) → j < length hss → uses m (get_or hss j []) ≡ false))
last_cases m n [] last = inr (refl, λ j low. absurd (omega (arith, low)))
last_cases m n (hs ∷ hss) last = go (uses m hs) refl (λ x. last_cases m (suc n) hss x)
  where
    none_of : uses m hs ≡ false → ((j : ℕ) → j < length hss → uses m (get_or hss j []) ≡ false) → (j : ℕ) → j < length (hs ∷ hss)
        → uses m (get_or (hs ∷ hss) j []) ≡ false
    none_of is none zero low = is
    none_of is none (suc j) low = none j (omega (arith, low))

    go : (b : Bool) → uses m hs ≡ b
        → ((x : ℕ) → ((j : ℕ) × (j < length hss) × (last_among m (suc n) hss x ≡ suc n + suc j) × (uses m (get_or hss j []) ≡ true))
        ⊎ ((last_among m (suc n) hss x ≡ x) × ((j : ℕ) → j < length hss → uses m (get_or hss j []) ≡ false)))
        → ((j : ℕ) × (j < length (hs ∷ hss)) × (last_among m (suc n) hss (if b then suc n else last) ≡ n + suc j) × (uses m (get_or (hs ∷ hss) j []) ≡ true))
        ⊎ ((last_among m (suc n) hss (if b then suc n else last) ≡ last) × ((j : ℕ) → j < length (hs ∷ hss) → uses m (get_or (hs ∷ hss) j []) ≡ false))
    go true is again = elim (again (suc n)) [
      | inl later ↦ inl (suc later.0, omega (arith, later.1), omega (arith, later.2), later.3)
      | inr none ↦ inl (0, omega arith, omega (arith, none.0), is)
    ]
    go false is again = elim (again last) [
      | inl later ↦ inl (suc later.0, omega (arith, later.1), omega (arith, later.2), later.3)
      | inr none ↦ inr (none.0, none_of is none.1)
    ]

pub last_uses_are_last : LastUsesAreLast
last_uses_are_last hss m = record {
  greatest = λ j low there. use_is_before hss m j low there;
  is = elim (last_cases m 0 hss m) [
    | inl use' ↦ inl (use'.0, use'.1, omega (arith, use'.2), uses_to m (get_or hss use'.0 []) use'.3)
    | inr none ↦ inr (none.0, λ j low there. false≢true (sym (none.1 j low) ∙ uses_from m (get_or hss j []) there))
  ];
}

-- what passes a test among ascending numbers ascends
ascends_on : (low n : ℕ) (xs : List ℕ) → low ≤ n → Ascends n xs → Ascends low xs
ascends_on low n [] le all = all
ascends_on low n (x ∷ xs) le all = (omega (arith, le, all.0), all.1)

filter_ascends : (p : ℕ → Bool) (low : ℕ) (xs : List ℕ) → Ascends low xs → Ascends low (filter p xs)
filter_ascends p low [] all = all
filter_ascends p low (x ∷ xs) all = go (p x) (filter_ascends p x xs all.1)
  where
    go : (b : Bool) → Ascends x (filter p xs) → Ascends low (cond b (x ∷ filter p xs) (filter p xs))
    go true rest = (all.0, rest)
    go false rest = ascends_on low x (filter p xs) (omega (arith, all.0)) rest

push_ascends : (low n : ℕ) (xs : List ℕ) → Ascends low xs → All (λ x. x < n) xs → low < n → Ascends low (xs ++ n ∷ [])
push_ascends low n [] all below less = (less, tt)
push_ascends low n (x ∷ xs) all below less = (all.0, push_ascends x n xs all.1 (All-tail (λ y. y < n) x xs below) (All-head (λ y. y < n) x xs below))

numbers_below : (n m : ℕ) → n < m → All (λ x. x < m) (numbers_to n)
numbers_below zero m less = All-nil (λ x. x < m)
numbers_below (suc n) m less = All-push (λ x. x < m) (numbers_to n) (suc n) (numbers_below n m (omega (arith, less))) less

numbers_ascend : (n : ℕ) → Ascends 0 (numbers_to n)
numbers_ascend zero = tt
numbers_ascend (suc n) = push_ascends 0 (suc n) (numbers_to n) (numbers_ascend n) (numbers_below n (suc n) (omega arith)) (omega arith)

-- which numbers are there
has_push : (m x : ℕ) (xs : List ℕ) → has m (xs ++ x ∷ []) ≡ (has m xs || (x == m))
has_push m x xs = list_any-append (λ y. y == m) xs (x ∷ []) ∙ ap (λ b. has m xs || b) (or_false (x == m))
  where
    or_false : (b : Bool) → (b || false) ≡ b
    or_false true = refl
    or_false false = refl

has_numbers : (n m : ℕ) → 1 ≤ m → m ≤ n → has m (numbers_to n) ≡ true
has_numbers zero m low high = absurd (omega (arith, low, high))
has_numbers (suc n) m low high = has_push m (suc n) (numbers_to n) ∙ elim (cases_eq m (suc n)) [
  | inl at ↦ or_on (has m (numbers_to n)) (suc n == m) (eq-eqb (suc n) m (sym at))
  | inr other ↦ or_first (has m (numbers_to n)) (suc n == m) (has_numbers n m low (omega (arith, other, high)))
]
  where
    or_on : (a b : Bool) → b ≡ true → (a || b) ≡ true
    or_on true b e = refl
    or_on false b e = e

    or_first : (a b : Bool) → a ≡ true → (a || b) ≡ true
    or_first a b e = ap (λ x. x || b) e

pub has_filter : (p : ℕ → Bool) (m : ℕ) (xs : List ℕ) → has m (filter p xs) ≡ (p m && has m xs)
has_filter p m [] = sym (none (p m))
  where
    none : (b : Bool) → (b && false) ≡ false
    none true = refl
    none false = refl
has_filter p m (x ∷ xs) = go (x == m) refl (p x) refl (has_filter p m xs)
  where
    go : (a : Bool) → (x == m) ≡ a → (b : Bool) → p x ≡ b → has m (filter p xs) ≡ (p m && has m xs)
        → has m (cond b (x ∷ filter p xs) (filter p xs)) ≡ (p m && (a || has m xs))
    go true e true is rest = ap (λ c. c || has m (filter p xs)) e ∙ sym (ap (λ c. c && true) (sym (ap p (eqb-true x m e)) ∙ is))
    go true e false is rest = rest ∙ both (p m) (has m xs) (sym (ap p (eqb-true x m e)) ∙ is)
      where
        both : (c d : Bool) → c ≡ false → (c && d) ≡ (c && true)
        both c d e = ap (λ y. y && d) e ∙ sym (ap (λ y. y && true) e)
    go false e true is rest = ap (λ c. c || has m (filter p xs)) e ∙ rest
    go false e false is rest = rest

test : List (List Hint) → List ℕ → ℕ → ℕ → Bool
test hss targets n m = not (list_any (λ t. t == m) targets) && (last_use hss m == n)

range_of : (n m : ℕ) → Contains (numbers_to n) m → (1 ≤ m) × (m ≤ n)
range_of zero m there = absurd (omega (arith, there.1))
range_of (suc n) m there = elim (Contains-push_cases (numbers_to n) (suc n) m there) [
  | inl before ↦ let r = range_of n m before in (r.0, omega (arith, r.1))
  | inr at ↦ (omega (arith, at), omega (arith, at))
]

pub ended_ascend : EndedAscend
unfolding test
ended_ascend hss targets n = (
  filter_ascends (test hss targets n) 0 (numbers_to n) (numbers_ascend n),
  λ m. (
    λ there.
        let parts = and_parts (test hss targets n m) (has m (numbers_to n))
        (sym (has_filter (test hss targets n) m (numbers_to n)) ∙ has_from m (ended_at hss targets n) there) in
        let both = and_parts (not (has m targets)) (last_use hss m == n) parts.0 in
        let range = range_of n m (has_to m (numbers_to n) parts.1) in
        record {
          low = range.0;
          high = range.1;
          no_target = λ t. false≢true (sym (ap not (has_from m targets t)) ∙ both.0);
          last = eqb-true (last_use hss m) n both.1;
        },
    λ ends.
        has_to m (ended_at hss targets n)
        (has_filter (test hss targets n) m (numbers_to n)
        ∙ and_from (test hss targets n m) (has m (numbers_to n))
        (and_from (not (has m targets)) (last_use hss m == n) (absent (has m targets) (λ e. ends.no_target (has_to m targets e)))
        (eq-eqb (last_use hss m) n ends.last))
        (has_numbers n m ends.low ends.high)),
  ),
)
  where
    absent : (b : Bool) → (b ≡ true → ⊥) → not b ≡ true
    absent true none = absurd (none refl)
    absent false none = refl

-- a number that is not above the lower bound is not there
has_none : (low m : ℕ) (xs : List ℕ) → Ascends low xs → m ≤ low → has m xs ≡ false
has_none low m [] all le = refl
has_none low m (x ∷ xs) all le = ap (λ b. b || has m xs) (ne_eqb x m (λ e. omega (arith, e, le, all.0))) ∙ has_none x m xs all.1 (omega (arith, le, all.0))

-- two ascending lists with the same numbers are one
one_list : (low : ℕ) (xs ys : List ℕ) → Ascends low xs → Ascends low ys → ((m : ℕ) → has m xs ≡ has m ys) → xs ≡ ys
one_list low [] [] one two same = refl
one_list low [] (y ∷ ys) one two same = absurd (false≢true (same y ∙ ap (λ b. b || has y ys) (eq-eqb y y refl)))
one_list low (x ∷ xs) [] one two same = absurd (false≢true (sym (same x) ∙ ap (λ b. b || has x xs) (eq-eqb x x refl)))
one_list low (x ∷ xs) (y ∷ ys) one two same =
    let at : x ≡ y = elim (cases_order x y) [
      | inl e ↦ e
      | inr (inl less) ↦ absurd (false≢true (sym (ap (λ b. b || has x ys) (ne_eqb y x (λ e. omega (arith, e, less))) ∙ has_none y x ys two.1 (omega (
        arith,
        less,
      ))) ∙ sym (same x) ∙ ap (λ b. b || has x xs) (eq-eqb x x refl)))
      | inr (inr more) ↦ absurd (false≢true (sym (ap (λ b. b || has y xs) (ne_eqb x y (λ e. omega (arith, e, more))) ∙ has_none x y xs one.1 (omega (
        arith,
        more,
      ))) ∙ same y ∙ ap (λ b. b || has y ys) (eq-eqb y y refl)))
    ] in
    let other : Ascends x ys = subst (λ l. Ascends l ys) (sym at) two.1 in
    let rest : (m : ℕ) → has m xs ≡ has m ys =
    λ m. elim (cases_lt x m) [
      | inl above ↦ sym (ap (λ b. b || has m xs) (ne_eqb x m (λ e. omega (arith, e, above)))) ∙ same m
          ∙ ap (λ b. b || has m ys) (ne_eqb y m (λ e. omega (arith, e, above, at)))
      | inr below ↦ has_none x m xs one.1 below ∙ sym (has_none x m ys other below)
    ] in
    ap₂ (λ z zs. z ∷ zs) at (one_list x xs ys one.1 other rest)

pub ended_are_one : EndedAreOne
ended_are_one hss targets n ms up same =
    let is = ended_ascend hss targets n in
    one_list 0 ms (ended_at hss targets n) up is.0 (λ m.
    alike (has m ms) (has m (ended_at hss targets n)) (λ e. has_from m (ended_at hss targets n) ((is.1 m).1 ((same m).0 (has_to m ms e))))
    (λ e. has_from m ms ((same m).1 ((is.1 m).0 (has_to m (ended_at hss targets n) e)))))
  where
    alike : (a b : Bool) → (a ≡ true → b ≡ true) → (b ≡ true → a ≡ true) → a ≡ b
    alike true b f g = sym (f refl)
    alike false true f g = g refl
    alike false false f g = refl

filter_push : (p : ℕ → Bool) (xs : List ℕ) (x : ℕ) → p x ≡ false → filter p (xs ++ x ∷ []) ≡ filter p xs
filter_push p [] x off = cond-false (p x) (x ∷ []) [] off
filter_push p (y ∷ xs) x off = ap (λ zs. cond (p y) (y ∷ zs) zs) (filter_push p xs x off)

pub ended_among_all : EndedAmongAll
ended_among_all hss targets n zero later low =
    let none : 0 ≡ n = omega (arith, low) in
    ap (λ k. filter (λ m. not (list_any (λ t. t == m) targets) && (last_use hss m == n)) (numbers_to k)) none
ended_among_all hss targets n (suc count) later low = elim (cases_eq n (suc count)) [
  | inl at ↦ ap (λ k. filter (λ m. not (list_any (λ t. t == m) targets) && (last_use hss m == n)) (numbers_to k)) (sym at)
  | inr other ↦
      let is = last_uses_are_last hss (suc count) in
      let late : suc count ≤ last_use hss (suc count) = elim is.is [
        | inl use' ↦ omega (arith, use'.2, later use'.0 (suc count) use'.1 use'.3)
        | inr none ↦ omega (arith, none.0)
      ] in
      filter_push (λ m. not (list_any (λ t. t == m) targets) && (last_use hss m == n)) (numbers_to count) (suc count)
      (and_right (not (list_any (λ t. t == suc count) targets)) (last_use hss (suc count) == n)
      (ne_eqb (last_use hss (suc count)) n (λ e. omega (arith, e, late, other, low))))
      ∙ ended_among_all hss targets n count later (omega (arith, other, low))
]
