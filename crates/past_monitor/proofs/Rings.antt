-- How the number of values in a window changes when a value joins the front of a list and the last one goes.
use Rattle.std.proofs.Common.{◌≡◌, true≢false, ℕ, zero, suc, ◌+◌, ◌-◌, ◌<◌, ◌≤◌, Bool, true, false, not, cond, List, [], ◌∷◌, length, take, drop}
use Rattle.std.proofs.Common.{slice_index_or, refl, sym, ◌∙◌, ap, subst, arith, nat_lt, length-take, length-drop}
use Rattle.std.specs.List.{count_by}
use Rattle.std.proofs.lemmas.List.Sums.{sum_by-cons, count_by-le-length}
use Rattle.past_monitor.specs.Ring.{same, found_in, RingValue, IsRing, counted_at, value_back, shows}

-- a value that is not there is not the one that is sought
pub blank : (sought : Bool) → same sought (not sought) ≡ false
blank true = refl
blank false = refl

-- p is a test that the default b does not pass
module _ (p : Bool → Bool) (b : Bool) (fails : p b ≡ false) where
  abbrev weight : Bool → ℕ
  weight v = cond (p v) 1 0

  none : weight b ≡ 0
  none = let f : Bool → ℕ = λ v. cond v 1 0 in ap f fails

  count_cons : (x : Bool) (xs : List Bool) → count_by p (x ∷ xs) ≡ weight x + count_by p xs
  count_cons x xs = sum_by-cons weight x xs

  -- a value more in front
  pub found_more : (x : Bool) (xs : List Bool) (k : ℕ) → count_by p (drop k (x ∷ xs)) ≡ count_by p (drop k xs) + weight (slice_index_or (x ∷ xs) k b)
  found_more x xs zero = omega (arith, count_cons x xs)
  found_more x [] (suc zero) = omega (arith, none)
  found_more x [] (suc (suc k)) = omega (arith, none)
  found_more x (y ∷ ys) (suc k) = found_more y ys k

  -- the last value gone
  pub found_less : (k n : ℕ) (xs : List Bool) → k ≤ n → length xs ≤ n + 1
      → count_by p (drop k xs) ≡ count_by p (drop k (take n xs)) + weight (slice_index_or xs n b)
  found_less zero zero [] low few = omega (arith, none)
  found_less zero (suc n) [] low few = omega (arith, none)
  found_less (suc k) zero [] low few = omega (arith, none)
  found_less (suc k) (suc n) [] low few = omega (arith, none)
  found_less zero zero (x ∷ []) low few = omega (arith, count_cons x [])
  found_less zero zero (x ∷ y ∷ ys) low few = absurd (omega arith)
  found_less (suc k) zero (x ∷ xs) low few = absurd (omega arith)
  found_less zero (suc n) (x ∷ xs) low few =
      let rest = found_less zero n xs (omega arith) (omega arith) in
      omega (arith, count_cons x xs, count_cons x (take n xs), rest)
  found_less (suc k) (suc n) (x ∷ xs) low few = found_less k n xs (omega arith) (omega arith)

  -- one is found where one is there
  pub found_some : (k : ℕ) (xs : List Bool) → 0 < count_by p (drop k xs) → (j : ℕ) × (k ≤ j) × (p (slice_index_or xs j b) ≡ true)
  found_some zero [] h = absurd (omega arith)
  found_some (suc k) [] h = absurd (omega arith)
  found_some (suc k) (x ∷ xs) h = let w = found_some k xs h in (suc w.0, omega arith, w.2)
  found_some zero (x ∷ xs) h = by_first (p x) refl (found_some zero xs) where
    by_first : (v : Bool) → p x ≡ v → (0 < count_by p xs → (j : ℕ) × (0 ≤ j) × (p (slice_index_or xs j b) ≡ true))
        → (j : ℕ) × (0 ≤ j) × (p (slice_index_or (x ∷ xs) j b) ≡ true)
    by_first true e later = (0, omega arith, e)
    by_first false e later =
        let f : Bool → ℕ = λ v. cond v 1 0 in
        let zeroth : weight x ≡ 0 = ap f e in
        let w = later (omega (arith, count_cons x xs, zeroth, h)) in
        (suc w.0, omega arith, w.2)

  pub some_found : (k : ℕ) (xs : List Bool) (j : ℕ) → k ≤ j → p (slice_index_or xs j b) ≡ true → 0 < count_by p (drop k xs)
  some_found k [] j low is = absurd (true≢false (sym is ∙ fails))
  some_found zero (x ∷ xs) zero low is =
      let f : Bool → ℕ = λ v. cond v 1 0 in
      let first : weight x ≡ 1 = ap f is in
      omega (arith, count_cons x xs, first)
  some_found zero (x ∷ xs) (suc j) low is = let rest = some_found zero xs j (omega arith) is in omega (arith, count_cons x xs, rest)
  some_found (suc k) (x ∷ xs) zero low is = absurd (omega arith)
  some_found (suc k) (x ∷ xs) (suc j) low is = some_found k xs j (omega arith) is

-- the front of a list with a value more
pub front : (x : Bool) (n : ℕ) (xs : List Bool) → 0 < n → x ∷ take (n - 1) xs ≡ take n (x ∷ xs)
front x zero xs some = absurd (omega arith)
front x (suc n) xs some = let e : suc n - 1 ≡ n = omega arith in ap (λ k. x ∷ take k xs) e

pub at_most_one : (r : RingValue) (age : ℕ) (present : Bool) → counted_at r age present ≤ 1
at_most_one r age present = by_value (same r.sought (value_back r age present)) where
  by_value : (v : Bool) → cond v 1 0 ≤ 1
  by_value true = omega arith
  by_value false = omega arith

-- a ring takes a value x, where s is what contracts see of it
module _ (room first : ℕ) (sought : Bool) (found : ℕ) (values : List Bool) (capacity : ℕ) (is : IsRing room first sought found values capacity) (s : RingValue)
    (seen : record { room = room; first = first; sought = sought; values = values } ≡ s) (x : Bool) where
  here : (age n : ℕ) → n ≡ counted_at s age x → n ≡ counted_at (record { room = room; first = first; sought = sought; values = values }) age x
  here age n e = subst (λ (r : RingValue). n ≡ counted_at r age x) (sym seen) e

  -- the window with the value in front of it
  pub entered : (entering : ℕ) → entering ≡ counted_at s first x → found + entering ≡ found_in sought first (x ∷ values)
  entered entering e = let h = here first entering e in omega (arith, h, is.counted, found_more (same sought) (not sought) (blank sought) x values first)

  pub shown : (entering : ℕ) → entering ≡ counted_at s first x → nat_lt 0 (found + entering) ≡ shows s x
  shown entering e = subst (λ (r : RingValue). nat_lt 0 (found + entering) ≡ shows r x) seen (ap (nat_lt 0) (entered entering e))

  pub few_entered : (entering : ℕ) → entering ≡ counted_at s first x → found + entering ≤ 256
  few_entered entering e =
      omega (arith, e, at_most_one s first x, is.counted, is.within, is.few, count_by-le-length (same sought) (drop first values), length-drop first values)

  -- and without the last one
  pub left : (entering leaving : ℕ) → entering ≡ counted_at s first x → leaving ≡ counted_at s room x
      → found + entering ≡ found_in sought first (take room (x ∷ values)) + leaving
  left entering leaving e l =
      let h = here room leaving l in
      let less = found_less (same sought) (not sought) (blank sought) first room (x ∷ values) is.early (omega (arith, is.within)) in
      omega (arith, entered entering e, less, h)

  pub ring_taken : (entering leaving : ℕ) (rest new : List Bool) (capacity' : ℕ) → entering ≡ counted_at s first x → leaving ≡ counted_at s room x
      → (room ≡ 0 → ⊥) → rest ≡ take (room - 1) values → new ≡ x ∷ rest → capacity' ≡ capacity
      → IsRing room first sought (found + entering - leaving) new capacity'
  ring_taken entering leaving rest new capacity' e l some before after same_room =
      let now = take room (x ∷ values) in
      let counted : found + entering - leaving ≡ found_in sought first now = omega (arith, left entering leaving e l) in
      let is_now : new ≡ now = after ∙ (ap (λ xs. x ∷ xs) before ∙ front x room values (omega (arith, some))) in
      record {
        few = is.few;
        early = is.early;
        within = let n = length-take room (x ∷ values) in subst (λ xs. length xs ≤ room) (sym is_now) (omega arith);
        reserved = same_room ∙ is.reserved;
        counted = counted ∙ ap (found_in sought first) (sym is_now);
      }
