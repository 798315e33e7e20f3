-- A list of names has one set, and a trace is written in one way.
use Rattle.std.proofs.Common.{◌≡◌, ℕ, zero, suc, ◌+◌, ◌<◌, ◌⊎◌, inl, inr, ◌↔◌, List, [], ◌∷◌, length, get_or, map, Contains, Ordering, Less, Equal, Greater}
use Rattle.std.proofs.Common.{refl, sym, subst, ap, ap₂, ◌∙◌, arith}
use Rattle.std.specs.Ordering.{nat_cmp, ordering_reverse, is_eq}
use Rattle.std.specs.Cmp.Lexicographic.{slice_cmp}
use Rattle.std.proofs.lemmas.Cmp.{nat_list_cmp_total, tied_itself}
use Rattle.std.proofs.lemmas.List.Elements.{All-contains}
use Rattle.std.proofs.lemmas.Map.Keys.{sorted_tail, sorted_from_all_adjacent, Less-from_sorted}
use Rattle.std.proofs.lemmas.Map.Text.{is_eq-slice_cmp}
use Rattle.std.proofs.lemmas.Map.Views.{All-after_first}
use Rattle.std.proofs.lemmas.Slice.Eq.{bytes_eq-Decides}
use Rattle.serde_json.specs.Data.{string}
use Rattle.ltl_word.specs.declared.trace.Trace.{Trace}
use Rattle.ltl_word.specs.declared.trace.Trace.TheVariants.{Infinite, Finite}
use Rattle.ltl_word.specs.State.{IsAscending}
use Rattle.ltl_word.specs.Trace.{Names}
use Rattle.ltl_word.specs.Json.{state_data, states_data, trace_data, IsSetOf, AreSetsOf, IsTraceOf}
use Rattle.ltl_word.proofs.Forms.{same_items}

-- ---- a set of names has one list

abbrev pub below : List ℕ → List ℕ → Type 0
below x y = slice_cmp nat_cmp x y ≡ Less

pub not_below_itself : (x : List ℕ) → below x x → ⊥
not_below_itself x h = let e : slice_cmp nat_cmp x x ≡ Equal = tied_itself nat_list_cmp_total x in cc

pub not_both_below : (x y : List ℕ) → below x y → below y x → ⊥
not_both_below x y h k = let e : slice_cmp nat_cmp x y ≡ Greater = nat_list_cmp_total.antisymm x y ∙ ap ordering_reverse k in cc

pub first_below : (x : List ℕ) (xs : Names) (y : List ℕ) → IsAscending (x ∷ xs) → Contains xs y → below x y
first_below x xs y h c = All-contains (λ z. slice_cmp nat_cmp x z ≡ Less) xs y (All-after_first (slice_cmp nat_cmp) x xs h) c

pub first_or_later : (x : List ℕ) (xs : Names) (y : List ℕ) → Contains (x ∷ xs) y → (x ≡ y) ⊎ Contains xs y
first_or_later x xs y (zero, lt, e) = inl e
first_or_later x xs y (suc k, lt, e) = inr (k, omega arith, e)

pub here : (x : List ℕ) (xs : Names) → Contains (x ∷ xs) x
here x xs = (zero, omega arith, refl)

pub later : (x : List ℕ) (xs : Names) (y : List ℕ) → Contains xs y → Contains (x ∷ xs) y
later x xs y (k, lt, e) = (suc k, omega arith, e)

abbrev pub SameMembers : Names → Names → Type 0
SameMembers xs ys = (n : List ℕ) → Contains xs n ↔ Contains ys n

same_first : (x y : List ℕ) (xs ys : Names) → IsAscending (x ∷ xs) → IsAscending (y ∷ ys) → SameMembers (x ∷ xs) (y ∷ ys) → x ≡ y
same_first x y xs ys h k same = elim (first_or_later y ys x ((same x).0 (here x xs))) [
  | inl e ↦ sym e
  | inr c ↦ elim (first_or_later x xs y ((same y).1 (here y ys))) [
    | inl e ↦ e
    | inr d ↦ absurd (not_both_below x y (first_below x xs y h d) (first_below y ys x k c))
  ]
]

rest_within : (x : List ℕ) (xs ys : Names) → IsAscending (x ∷ xs) → ((n : List ℕ) → Contains (x ∷ xs) n → Contains (x ∷ ys) n) → (n : List ℕ)
    → Contains xs n → Contains ys n
rest_within x xs ys h same n c = elim (first_or_later x ys n (same n (later x xs n c))) [
  | inl e ↦ absurd (not_below_itself x (subst (below x) (sym e) (first_below x xs n h c)))
  | inr d ↦ d
]

same_rest : (x : List ℕ) (xs ys : Names) → IsAscending (x ∷ xs) → IsAscending (x ∷ ys) → SameMembers (x ∷ xs) (x ∷ ys) → SameMembers xs ys
same_rest x xs ys h k same n = (rest_within x xs ys h (λ m. (same m).0) n, rest_within x ys xs k (λ m. (same m).1) n)

pub no_member : (x : List ℕ) → Contains [] x → ⊥
no_member x (k, lt, e) = omega arith

pub one_list : (xs ys : Names) → IsAscending xs → IsAscending ys → SameMembers xs ys → xs ≡ ys
one_list [] [] h k same = refl
one_list [] (y ∷ ys) h k same = absurd (no_member y ((same y).1 (here y ys)))
one_list (x ∷ xs) [] h k same = absurd (no_member x ((same x).0 (here x xs)))
one_list (x ∷ xs) (y ∷ ys) h k same =
    let e : x ≡ y = same_first x y xs ys h k same in
    let k' : IsAscending (x ∷ ys) = subst (λ z. IsAscending (z ∷ ys)) (sym e) k in
    let same' : SameMembers (x ∷ xs) (x ∷ ys) = subst (λ z. SameMembers (x ∷ xs) (z ∷ ys)) (sym e) same in
    ap₂ ◌∷◌ e (one_list xs ys (sorted_tail (slice_cmp nat_cmp) x xs h) (sorted_tail (slice_cmp nat_cmp) x ys k') (same_rest x xs ys h k' same'))

pub one_states : (all states states' : List Names) → AreSetsOf all states → AreSetsOf all states' → states ≡ states'
one_states [] [] [] h k = refl
one_states [] [] (y ∷ ys) h k = absurd k
one_states [] (x ∷ xs) ys h k = absurd h
one_states (n ∷ all) [] ys h k = absurd h
one_states (n ∷ all) (x ∷ xs) [] h k = absurd k
one_states (n ∷ all) (x ∷ xs) (y ∷ ys) h k =
    ap₂ ◌∷◌ (one_list x y h.0.0 k.0.0 (λ m. (λ c. (k.0.1 m).1 ((h.0.1 m).0 c), λ c. (h.0.1 m).1 ((k.0.1 m).0 c)))) (one_states all xs ys h.1 k.1)

pub one_trace : (written t u : Trace) → IsTraceOf written t → IsTraceOf written u → t ≡ u
one_trace (Infinite stem again) (Infinite s l) (Infinite s' l') h k = ap₂ Infinite (one_states stem s s' h.0 k.0) (one_states again l l' h.1 k.1)
one_trace (Infinite stem again) (Infinite s l) (Finite xs) h k = absurd k
one_trace (Infinite stem again) (Finite xs) u h k = absurd h
one_trace (Finite states) (Infinite s l) u h k = absurd h
one_trace (Finite states) (Finite xs) (Infinite s l) h k = absurd k
one_trace (Finite states) (Finite xs) (Finite ys) h k = ap Finite (one_states states xs ys h k)

-- ---- a value is the form of one trace

pub map_apart : {A B : Type 0} (f : A → B) → ((x y : A) → f x ≡ f y → x ≡ y) → (xs ys : List A) → map f xs ≡ map f ys → xs ≡ ys
map_apart f apart [] [] e = refl
map_apart f apart [] (y ∷ ys) e = cc
map_apart f apart (x ∷ xs) [] e = cc
map_apart f apart (x ∷ xs) (y ∷ ys) e =
    let head : f x ≡ f y = cc in
    let rest : map f xs ≡ map f ys = cc in
    ap₂ ◌∷◌ (apart x y head) (map_apart f apart xs ys rest)

one_name : (x y : List ℕ) → string x ≡ string y → x ≡ y
one_name x y e = cc

pub one_state : (xs ys : Names) → state_data xs ≡ state_data ys → xs ≡ ys
one_state xs ys e = map_apart string one_name xs ys (same_items (map string xs) (map string ys) e)

one_list_of_states : (xs ys : List Names) → states_data xs ≡ states_data ys → xs ≡ ys
one_list_of_states xs ys e = map_apart state_data one_state xs ys (same_items (map state_data xs) (map state_data ys) e)

pub one_written : (t u : Trace) → trace_data t ≡ trace_data u → t ≡ u
one_written (Infinite stem again) (Infinite stem' again') e =
    let loops : states_data again ≡ states_data again' = cc in
    let stems : states_data stem ≡ states_data stem' = cc in
    ap₂ Infinite (one_list_of_states stem stem' stems) (one_list_of_states again again' loops)
one_written (Infinite stem again) (Finite states) e = cc
one_written (Finite states) (Infinite stem again) e = cc
one_written (Finite states) (Finite states') e = let same : states_data states ≡ states_data states' = cc in ap Finite (one_list_of_states states states' same)

-- ---- the set of a list of names

-- these are the names with one more
pub record IsWith (x : List ℕ) (ys zs : Names) : Type 0 where
  pub ascending : IsAscending zs
  pub has : Contains zs x
  pub keeps : (n : List ℕ) → Contains ys n → Contains zs n
  pub only : (n : List ℕ) → Contains zs n → (x ≡ n) ⊎ Contains ys n

pub none_ascends : IsAscending []
none_ascends = sorted_from_all_adjacent nat_list_cmp_total [] [] (λ k l. absurd (omega arith))

-- a name stands in front of those that it is below
pub in_front : (z : List ℕ) (zs : Names) → IsAscending zs → ((n : List ℕ) → Contains zs n → below z n) → IsAscending (z ∷ zs)
in_front z [] h low = sorted_from_all_adjacent nat_list_cmp_total (z ∷ []) [] (λ k l. absurd (omega arith))
in_front z (y ∷ ys) h low = sorted_from_all_adjacent nat_list_cmp_total (z ∷ y ∷ ys) [] by
  where
    by : (k : ℕ) → k + 1 < length (z ∷ y ∷ ys) → slice_cmp nat_cmp (get_or (z ∷ y ∷ ys) k []) (get_or (z ∷ y ∷ ys) (k + 1) []) ≡ Less
    by zero l = low y (here y ys)
    by (suc k) l =
        subst (λ i. slice_cmp nat_cmp (get_or (y ∷ ys) k []) (get_or (z ∷ y ∷ ys) i []) ≡ Less) {x = suc (suc k)} {y = suc k + 1} (omega arith)
        (Less-from_sorted (slice_cmp nat_cmp) (y ∷ ys) k (suc k) [] h (omega arith) (omega arith))

pub with_one : (x : List ℕ) (ys : Names) → IsAscending ys → (zs : Names) × IsWith x ys zs
with_one x [] h = (
  x ∷ [],
  record {
    ascending = in_front x [] none_ascends (λ n c. absurd (no_member n c));
    has = here x [];
    keeps = λ n c. absurd (no_member n c);
    only = first_or_later x [];
  },
)
with_one x (y ∷ ys) h = by (slice_cmp nat_cmp x y) refl (with_one x ys (sorted_tail (slice_cmp nat_cmp) y ys h))
  where
    before : below x y → (n : List ℕ) → Contains (y ∷ ys) n → below x n
    before e n c = elim (first_or_later y ys n c) [
      | inl s ↦ subst (below x) s e
      | inr d ↦ nat_list_cmp_total.trans x y n e (first_below y ys n h d)
    ]

    behind : (zs : Names) → IsWith x ys zs → slice_cmp nat_cmp x y ≡ Greater → (n : List ℕ) → Contains zs n → below y n
    behind zs w e n c = elim (w.only n c) [
      | inl s ↦ subst (below y) s (nat_list_cmp_total.antisymm y x ∙ ap ordering_reverse e)
      | inr d ↦ first_below y ys n h d
    ]

    by : (o : Ordering) → slice_cmp nat_cmp x y ≡ o → (zs : Names) × IsWith x ys zs → (zs : Names) × IsWith x (y ∷ ys) zs
    by Less e w = (
      x ∷ y ∷ ys,
      record {
        ascending = in_front x (y ∷ ys) h (before e);
        has = here x (y ∷ ys);
        keeps = later x (y ∷ ys);
        only = first_or_later x (y ∷ ys);
      },
    )
    by Equal e w =
        let same : x ≡ y = (bytes_eq-Decides x y).0 (sym (is_eq-slice_cmp x y) ∙ ap is_eq e) in
        (y ∷ ys, record { ascending = h; has = subst (Contains (y ∷ ys)) (sym same) (here y ys); keeps = λ n c. c; only = λ n c. inr c })
    by Greater e w = (
      y ∷ w.0,
      record {
        ascending = in_front y w.0 w.1.ascending (behind w.0 w.1 e);
        has = later y w.0 x w.1.has;
        keeps = λ n c. elim (first_or_later y ys n c) [ inl s ↦ subst (Contains (y ∷ w.0)) s (here y w.0) | inr d ↦ later y w.0 n (w.1.keeps n d) ];
        only = λ n c. elim (first_or_later y w.0 n c) [
          | inl s ↦ inr (subst (Contains (y ∷ ys)) s (here y ys))
          | inr d ↦ elim (w.1.only n d) [ inl s ↦ inl s | inr g ↦ inr (later y ys n g) ]
        ];
      },
    )

pub set_of : (names : Names) → (state : Names) × IsSetOf names state
set_of [] = ([], (none_ascends, λ n. (λ c. c, λ c. c)))
set_of (x ∷ xs) =
    let s = set_of xs in
    let w = with_one x s.0 s.1.0 in (
      w.0,
      (
        w.1.ascending,
        λ n. (
          λ c. elim (w.1.only n c) [ inl e ↦ subst (Contains (x ∷ xs)) e (here x xs) | inr d ↦ later x xs n ((s.1.1 n).0 d) ],
          λ c. elim (first_or_later x xs n c) [ inl e ↦ subst (Contains w.0) e w.1.has | inr d ↦ w.1.keeps n ((s.1.1 n).1 d) ],
        ),
      ),
    )

pub sets_of : (all : List Names) → (states : List Names) × AreSetsOf all states
sets_of [] = ([], tt)
sets_of (names ∷ all) = let s = set_of names in let r = sets_of all in (s.0 ∷ r.0, (s.1, r.1))

-- as many sets as lists of names
pub sets_length : (all states : List Names) → AreSetsOf all states → length states ≡ length all
sets_length [] [] h = refl
sets_length [] (s ∷ states) h = absurd h
sets_length (names ∷ all) [] h = absurd h
sets_length (names ∷ all) (s ∷ states) h = ap suc (sets_length all states h.1)
