-- A letter's number is its place in the list of letters.
use Rattle.std.proofs.Common.{◌≡◌, ℕ, zero, suc, ◌+◌, ◌-◌, ◌*◌, ◌/◌, ◌<◌, ◌≤◌, inl, inr, subst, ap, arith, sym, refl, ◌∙◌, List, [], ◌∷◌, ◌++◌, length, get_or}
use Rattle.std.proofs.Common.{length-append, get_or-append-add}
use Rattle.std.proofs.lemmas.Bool.{cases_lt}
use Rattle.std.proofs.lemmas.List.{get_or_append_left}
use Rattle.ltl_syntax.specs.declared.node.Kind.{Kind}
use Rattle.ltl_syntax.specs.declared.node.Kind.TheVariants as Kinds
use Rattle.enc_layout.specs.Letters.{Meaning, Unpruned, Here, Accepted, EmptyAt, Repeated, EntryAt, Seen, Equal, LoopTo, Differs, Fulfilled, New, Counts, below}
use Rattle.enc_layout.specs.Letters.{numbered, own_letters, pair_letters, step_letters, all_letters, own_count, pair_count, letters_through, count_before}
use Rattle.enc_layout.specs.Letters.{count_before_pair, number_of, IsLetter}

-- the list has the part at k
pub record IsAt (xs : List Meaning) (k : ℕ) (p : Meaning) : Type 0 where
  pub inside : k < length xs
  pub is : (d : Meaning) → get_or xs k d ≡ p

at_here : (p : Meaning) (xs : List Meaning) → IsAt (p ∷ xs) 0 p
at_here p xs = record { inside = omega arith; is = λ d. refl }

at_there : (q : Meaning) (xs : List Meaning) (k : ℕ) (p : Meaning) → IsAt xs k p → IsAt (q ∷ xs) (suc k) p
at_there q xs k p a = let i = a.inside in record { inside = omega arith; is = a.is }

at_left : (xs ys : List Meaning) (k : ℕ) (p : Meaning) → IsAt xs k p → IsAt (xs ++ ys) k p
at_left xs ys k p a = let i = a.inside in record { inside = omega (arith, length-append xs ys); is = λ d. get_or_append_left xs ys d k a.inside ∙ a.is d }

at_right : (xs ys : List Meaning) (n k : ℕ) (p : Meaning) → length xs ≡ n → IsAt ys k p → IsAt (xs ++ ys) (n + k) p
at_right xs ys n k p e a = let i = a.inside in
    record { inside = omega (arith, length-append xs ys); is = λ d. ap (λ m. get_or (xs ++ ys) (m + k) d) (sym e) ∙ (get_or-append-add xs ys k d ∙ a.is d) }

at_place : (xs : List Meaning) (j k : ℕ) (p : Meaning) → j ≡ k → IsAt xs j p → IsAt xs k p
at_place xs j k p e a = subst (λ n. IsAt xs n p) e a

pub length-below : {X : Type 0} (s n : ℕ) (g : ℕ → List X) → ((m : ℕ) → length (g m) ≡ s) → length (below n g) ≡ n * s
length-below s zero g h = omega arith
length-below s (suc n) g h =
    let ih = length-below s n g h in
    let one = h n in
    let app = length-append (below n g) (g n) in
    omega arith

pub length-numbered : {X : Type 0} (n : ℕ) (g : ℕ → X) → length (numbered n g) ≡ n
length-numbered n g = let e = length-below 1 n (λ k. g (suc k) ∷ []) (λ m. refl) in omega arith

at_below : (n : ℕ) (g : ℕ → List Meaning) (k j : ℕ) (p : Meaning) → k < n → IsAt (g k) j p → IsAt (below n g) (length (below k g) + j) p
at_below zero g k j p lt a = absurd (omega arith)
at_below (suc n) g k j p lt a = elim (cases_lt k n) [
  | inl first ↦ at_left (below n g) (g n) _ p (at_below n g k j p first a)
  | inr here ↦
      let e : k ≡ n = omega arith in
      subst (λ m. IsAt (below (suc m) g) (length (below k g) + j) p) e (at_right (below k g) (g k) (length (below k g)) j p refl a)
]

at_numbered : (n t : ℕ) (g : ℕ → Meaning) → 0 < t → t ≤ n → IsAt (numbered n g) (t - 1) (g t)
at_numbered n t g a b =
    let e : suc (t - 1) ≡ t = omega arith in
    let size = length-numbered (t - 1) g in
    subst (λ m. IsAt (numbered n g) (t - 1) (g m)) e
    (at_place (numbered n g) (length (numbered (t - 1) g) + 0) (t - 1) _ (omega arith)
    (at_below n (λ k. g (suc k) ∷ []) (t - 1) 0 _ (omega arith) (at_here _ [])))

-- the pairs of states below n
square_more : (n : ℕ) → suc n * (suc n - 1) ≡ n * (n - 1) + n * 2
square_more zero = omega arith
square_more (suc m) =
    let a : suc (suc m) - 1 ≡ suc m = omega arith in
    let b : suc m - 1 ≡ m = omega arith in
    rw (a, b) (omega arith)

half_more : (n : ℕ) → suc n * (suc n - 1) / 2 ≡ n * (n - 1) / 2 + n
half_more n = let e = square_more n in omega arith

length-own : (kind : Kind) (c : Counts) (i : ℕ) → length (own_letters kind c i) ≡ own_count kind c
length-own Kinds.Infinite c i = omega (
  arith,
  length-append (numbered c.entries (EntryAt i)) (numbered c.eventualities (Seen i)),
  length-numbered c.entries (EntryAt i),
  length-numbered c.eventualities (Seen i),
)
length-own Kinds.Finite c i = omega (arith, length-numbered c.entries (EntryAt i))

length-pair : (kind : Kind) (c : Counts) (i l : ℕ) → length (pair_letters kind c i l) ≡ pair_count kind c
length-pair Kinds.Infinite c i l = omega (
  arith,
  length-append (numbered c.places (Differs l i)) (numbered c.eventualities (Fulfilled l i) ++ numbered c.eventualities (New l i)),
  length-append (numbered c.eventualities (Fulfilled l i)) (numbered c.eventualities (New l i)),
  length-numbered c.places (Differs l i),
  length-numbered c.eventualities (Fulfilled l i),
  length-numbered c.eventualities (New l i),
)
length-pair Kinds.Finite c i l = omega (arith, length-numbered c.places (Differs l i))

module _ (kind : Kind) (c : Counts) where
  length-pairs : (i l : ℕ) → length (below l (pair_letters kind c i)) ≡ l * pair_count kind c
  length-pairs i l = length-below (pair_count kind c) l (pair_letters kind c i) (length-pair kind c i)

  length-step : (i : ℕ) → length (step_letters kind c i) ≡ own_count kind c + i * pair_count kind c
  length-step i = omega (arith, length-append (own_letters kind c i) (below i (pair_letters kind c i)), length-own kind c i, length-pairs i i)

  length-steps : (n : ℕ) → 1 + length (below n (step_letters kind c)) ≡ count_before kind c n
  length-steps zero = omega arith
  length-steps (suc n) =
      let ih = length-steps n in
      let one = length-step n in
      let app = length-append (below n (step_letters kind c)) (step_letters kind c n) in
      let half = ap (λ m. m * pair_count kind c) (half_more n) in
      omega arith

  -- how many letters there are
  pub length-all_letters : (d : ℕ) → length (all_letters kind c d) ≡ letters_through kind c d
  length-all_letters d =
      let all = length-steps (suc d) in
      let one : suc d - 1 ≡ d = omega arith in
      let turn : suc d * (suc d - 1) ≡ d * (d + 1) = rw one (omega arith) in
      let half = ap (λ m. m / 2 * pair_count kind c) turn in
      omega arith

  at_step : (d i k : ℕ) (p : Meaning) → i ≤ d → IsAt (step_letters kind c i) k p → IsAt (all_letters kind c d) (count_before kind c i + k) p
  at_step d i k p le a =
      let e = length-steps i in
      at_place (all_letters kind c d) (suc (length (below i (step_letters kind c)) + k)) (count_before kind c i + k) p (omega arith)
      (at_there Unpruned (below (suc d) (step_letters kind c)) _ p (at_below (suc d) (step_letters kind c) i k p (omega arith) a))

  in_own : (d i k : ℕ) (p : Meaning) → i ≤ d → IsAt (own_letters kind c i) k p → IsAt (all_letters kind c d) (count_before kind c i + k) p
  in_own d i k p le a = at_step d i k p le (at_left (own_letters kind c i) (below i (pair_letters kind c i)) k p a)

  in_pair : (d i l k : ℕ) (p : Meaning) → i ≤ d → l < i → IsAt (pair_letters kind c i l) k p → IsAt (all_letters kind c d) (count_before_pair kind c l i + k) p
  in_pair d i l k p le lt a =
      let own = length-own kind c i in
      let pairs = length-pairs i l in
      at_place (all_letters kind c d) (count_before kind c i + (own_count kind c + (length (below l (pair_letters kind c i)) + k)))
      (count_before_pair kind c l i + k) p (omega arith)
      (at_step d i _ p le (at_right (own_letters kind c i) (below i (pair_letters kind c i)) (own_count kind c) _ p own
      (at_below i (pair_letters kind c i) l k p lt a)))

-- the letter stands at its number less 1
abbrev pub StandsAt : Kind → Counts → ℕ → Meaning → Type 0
StandsAt kind c d p = (k : ℕ) × (suc k ≡ number_of kind c p) × IsAt (all_letters kind c d) k p

in_four : (c : Counts) (i k : ℕ) (p : Meaning) → IsAt (numbered c.entries (EntryAt i) ++ numbered c.eventualities (Seen i)) k p
    → IsAt (own_letters Kinds.Infinite c i) (suc (suc (suc (suc k)))) p
in_four c i k p a = at_there _ _ _ p (at_there _ _ _ p (at_there _ _ _ p (at_there _ _ _ p a)))

in_two : (c : Counts) (i l k : ℕ) (p : Meaning)
    → IsAt (numbered c.places (Differs l i) ++ (numbered c.eventualities (Fulfilled l i) ++ numbered c.eventualities (New l i))) k p
    → IsAt (pair_letters Kinds.Infinite c i l) (suc (suc k)) p
in_two c i l k p a = at_there _ _ _ p (at_there _ _ _ p a)

-- the number of a letter is its place
pub number_is : (kind : Kind) (c : Counts) (d : ℕ) (p : Meaning) → IsLetter kind c d p → StandsAt kind c d p
number_is kind c d Unpruned h = (0, refl, at_here Unpruned _)
number_is Kinds.Infinite c d (Here i) h = (count_before Kinds.Infinite c i + 0, omega arith, in_own Kinds.Infinite c d i 0 _ h (at_here _ _))
number_is Kinds.Infinite c d (Accepted i) h =
    (count_before Kinds.Infinite c i + 1, omega arith, in_own Kinds.Infinite c d i 1 _ h (at_there _ _ 0 _ (at_here _ _)))
number_is Kinds.Infinite c d (EmptyAt i) h =
    (count_before Kinds.Infinite c i + 2, omega arith, in_own Kinds.Infinite c d i 2 _ h (at_there _ _ 1 _ (at_there _ _ 0 _ (at_here _ _))))
number_is Kinds.Infinite c d (Repeated i) h =
    (count_before Kinds.Infinite c i + 3, omega arith, in_own Kinds.Infinite c d i 3 _ h (at_there _ _ 2 _ (at_there _ _ 1 _ (at_there _ _ 0 _ (at_here _ _)))))
number_is Kinds.Infinite c d (EntryAt i t) h = (
  count_before Kinds.Infinite c i + suc (suc (suc (suc (t - 1)))),
  omega arith,
  in_own Kinds.Infinite c d i _ _ h.0
      (in_four c i (t - 1) _ (at_left (numbered c.entries (EntryAt i)) _ (t - 1) _ (at_numbered c.entries t (EntryAt i) h.1 h.2))),
)
number_is Kinds.Infinite c d (Seen i m) h = (
  count_before Kinds.Infinite c i + suc (suc (suc (suc (c.entries + (m - 1))))),
  omega arith,
  in_own Kinds.Infinite c d i _ _ h.0 (in_four c i _ _ (at_right (numbered c.entries (EntryAt i)) (numbered c.eventualities (Seen i)) c.entries (m - 1) _
      (length-numbered c.entries (EntryAt i)) (at_numbered c.eventualities m (Seen i) h.1 h.2))),
)
number_is Kinds.Infinite c d (Equal l i) h = (count_before_pair Kinds.Infinite c l i + 0, omega arith, in_pair Kinds.Infinite c d i l 0 _ h.0 h.1 (at_here _ _))
number_is Kinds.Infinite c d (LoopTo l i) h =
    (count_before_pair Kinds.Infinite c l i + 1, omega arith, in_pair Kinds.Infinite c d i l 1 _ h.0 h.1 (at_there _ _ 0 _ (at_here _ _)))
number_is Kinds.Infinite c d (Differs l i q) h = (
  count_before_pair Kinds.Infinite c l i + suc (suc (q - 1)),
  omega arith,
  in_pair Kinds.Infinite c d i l _ _ h.0 h.1 (in_two c i l (q - 1) _ (at_left (numbered c.places (Differs l i))
      (numbered c.eventualities (Fulfilled l i) ++ numbered c.eventualities (New l i)) (q - 1) _ (at_numbered c.places q (Differs l i) h.2 h.3))),
)
number_is Kinds.Infinite c d (Fulfilled l i m) h = (
  count_before_pair Kinds.Infinite c l i + suc (suc (c.places + (m - 1))),
  omega arith,
  in_pair Kinds.Infinite c d i l _ _ h.0 h.1 (in_two c i l _ _ (at_right (numbered c.places (Differs l i))
      (numbered c.eventualities (Fulfilled l i) ++ numbered c.eventualities (New l i)) c.places (m - 1) _ (length-numbered c.places (Differs l i))
      (at_left (numbered c.eventualities (Fulfilled l i)) (numbered c.eventualities (New l i)) (m - 1) _
      (at_numbered c.eventualities m (Fulfilled l i) h.2 h.3)))),
)
number_is Kinds.Infinite c d (New l i m) h = (
  count_before_pair Kinds.Infinite c l i + suc (suc (c.places + (c.eventualities + (m - 1)))),
  omega arith,
  in_pair Kinds.Infinite c d i l _ _ h.0 h.1 (in_two c i l _ _ (at_right (numbered c.places (Differs l i))
      (numbered c.eventualities (Fulfilled l i) ++ numbered c.eventualities (New l i)) c.places _ _ (length-numbered c.places (Differs l i))
      (at_right (numbered c.eventualities (Fulfilled l i)) (numbered c.eventualities (New l i)) c.eventualities (m - 1) _
      (length-numbered c.eventualities (Fulfilled l i)) (at_numbered c.eventualities m (New l i) h.2 h.3)))),
)
number_is Kinds.Finite c d (Here i) h = (count_before Kinds.Finite c i + 0, omega arith, in_own Kinds.Finite c d i 0 _ h (at_here _ _))
number_is Kinds.Finite c d (Accepted i) h = (count_before Kinds.Finite c i + 1, omega arith, in_own Kinds.Finite c d i 1 _ h (at_there _ _ 0 _ (at_here _ _)))
number_is Kinds.Finite c d (EntryAt i t) h = (
  count_before Kinds.Finite c i + suc (suc (t - 1)),
  omega arith,
  in_own Kinds.Finite c d i _ _ h.0 (at_there _ _ _ _ (at_there _ _ _ _ (at_numbered c.entries t (EntryAt i) h.1 h.2))),
)
number_is Kinds.Finite c d (Equal l i) h = (count_before_pair Kinds.Finite c l i + 0, omega arith, in_pair Kinds.Finite c d i l 0 _ h.0 h.1 (at_here _ _))
number_is Kinds.Finite c d (Differs l i q) h = (
  count_before_pair Kinds.Finite c l i + suc (q - 1),
  omega arith,
  in_pair Kinds.Finite c d i l _ _ h.0 h.1 (at_there _ _ _ _ (at_numbered c.places q (Differs l i) h.2 h.3)),
)
number_is Kinds.Finite c d (EmptyAt i) h = absurd h
number_is Kinds.Finite c d (Repeated i) h = absurd h
number_is Kinds.Finite c d (Seen i m) h = absurd h
number_is Kinds.Finite c d (LoopTo l i) h = absurd h
number_is Kinds.Finite c d (Fulfilled l i m) h = absurd h
number_is Kinds.Finite c d (New l i m) h = absurd h

pub number_within : (kind : Kind) (c : Counts) (d : ℕ) (p : Meaning) → IsLetter kind c d p
    → (0 < number_of kind c p) × (number_of kind c p ≤ letters_through kind c d)
number_within kind c d p h =
    let s = number_is kind c d p h in
    let k = s.0 in
    let e : suc k ≡ number_of kind c p = s.1 in
    let i : k < length (all_letters kind c d) = s.2.inside in
    let n = length-all_letters kind c d in
    (omega arith, omega arith)
