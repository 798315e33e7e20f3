-- Two letters that change their places.
use Rattle.std.proofs.Common.{◌≡◌, ◌≢◌, ℕ, ◌<◌, ◌≤◌, ◌+◌, ◌^◌, ◌⊎◌, ◌↔◌, inl, inr, List, length, get_or, set, sym, ap, ◌∙◌, subst, arith}
use Rattle.std.proofs.lemmas.Bool.{cases_eq}
use Rattle.std.proofs.lemmas.List.{get_or-set_same, get_or-set_other, length-set}
use Rattle.cdcl_activity.specs.Order.{IsOrder, OrderValue, IsWaiting}

module _ (letters places : List ℕ) (count one two a b : ℕ) (order : IsOrder letters places count) (low : one < length letters) (high : two < length letters)
    (a_is : a ≡ get_or letters one 0) (b_is : b ≡ get_or letters two 0) where
  a_low : a < length places
  a_low = subst (λ n. n < length places) (sym a_is) (order.known one low)

  b_low : b < length places
  b_low = subst (λ n. n < length places) (sym b_is) (order.known two high)

  one_is : get_or places a 0 ≡ one
  one_is = subst (λ n. get_or places n 0 ≡ one) (sym a_is) (order.back one low)

  two_is : get_or places b 0 ≡ two
  two_is = subst (λ n. get_or places n 0 ≡ two) (sym b_is) (order.back two high)

  same_place : a ≡ b → one ≡ two
  same_place e = sym one_is ∙ ap (λ n. get_or places n 0) e ∙ two_is

  same_letter : one ≡ two → a ≡ b
  same_letter e = a_is ∙ ap (λ n. get_or letters n 0) e ∙ sym b_is

  pub place_first : get_or (set (set places b one) a two) a 0 ≡ two
  place_first = get_or-set_same (set places b one) a two 0 (subst (λ n. a < n) (sym (length-set places b one)) a_low)

  pub place_second : get_or (set (set places b one) a two) b 0 ≡ one
  place_second = elim (cases_eq a b) [
    | inl e ↦ subst (λ n. get_or (set (set places b one) a two) n 0 ≡ one) e (place_first ∙ sym (same_place e))
    | inr differ ↦ get_or-set_other (set places b one) a b two 0 (λ e. differ (sym e)) ∙ get_or-set_same places b one 0 b_low
  ]

  pub place_other : (x : ℕ) → x ≢ a → x ≢ b → get_or (set (set places b one) a two) x 0 ≡ get_or places x 0
  place_other x no_a no_b = get_or-set_other (set places b one) a x two 0 no_a ∙ get_or-set_other places b x one 0 no_b

  letter_second : get_or (set (set letters one b) two a) two 0 ≡ a
  letter_second = get_or-set_same (set letters one b) two a 0 (subst (λ n. two < n) (sym (length-set letters one b)) high)

  letter_first : get_or (set (set letters one b) two a) one 0 ≡ b
  letter_first = elim (cases_eq one two) [
    | inl e ↦ subst (λ n. get_or (set (set letters one b) two a) n 0 ≡ b) (sym e) (letter_second ∙ same_letter e)
    | inr differ ↦ get_or-set_other (set letters one b) two one a 0 differ ∙ get_or-set_same letters one b 0 low
  ]

  letter_other : (p : ℕ) → p ≢ one → p ≢ two → get_or (set (set letters one b) two a) p 0 ≡ get_or letters p 0
  letter_other p no_one no_two = get_or-set_other (set letters one b) two p a 0 no_two ∙ get_or-set_other letters one p b 0 no_one

  letters_long : length (set (set letters one b) two a) ≡ length letters
  letters_long = length-set (set letters one b) two a ∙ length-set letters one b

  places_long : length (set (set places b one) a two) ≡ length places
  places_long = length-set (set places b one) a two ∙ length-set places b one

  -- a letter that is neither of the two stands at neither place
  apart_one : (x : ℕ) → x < length places → x ≢ a → get_or places x 0 ≢ one
  apart_one x inside no_a e = no_a (sym (order.stands x inside) ∙ ap (λ n. get_or letters n 0) e ∙ sym a_is)

  apart_two : (x : ℕ) → x < length places → x ≢ b → get_or places x 0 ≢ two
  apart_two x inside no_b e = no_b (sym (order.stands x inside) ∙ ap (λ n. get_or letters n 0) e ∙ sym b_is)

  -- at a place that is neither of the two stands neither letter
  other_a : (p : ℕ) → p < length letters → p ≢ one → get_or letters p 0 ≢ a
  other_a p inside no_one e = no_one (sym (order.back p inside) ∙ ap (λ n. get_or places n 0) e ∙ one_is)

  other_b : (p : ℕ) → p < length letters → p ≢ two → get_or letters p 0 ≢ b
  other_b p inside no_two e = no_two (sym (order.back p inside) ∙ ap (λ n. get_or places n 0) e ∙ two_is)

  pub exchanged : IsOrder (set (set letters one b) two a) (set (set places b one) a two) count
  exchanged = record {
    same = letters_long ∙ order.same ∙ sym places_long;
    within = subst (λ n. count ≤ n) (sym letters_long) order.within;
    few = subst (λ n. n ≤ 2 ^ 32) (sym places_long) order.few;
    inside = λ x inside.
        let here = subst (λ n. x < n) places_long inside in
        subst (λ n. get_or (set (set places b one) a two) x 0 < n) (sym letters_long) (elim (cases_eq x a) [
          | inl e ↦ rw (e, place_first) high
          | inr no_a ↦ elim (cases_eq x b) [
            | inl e ↦ rw (e, place_second) low
            | inr no_b ↦ rw (place_other x no_a no_b) (order.inside x here)
          ]
        ]);
    stands = λ x inside.
        let here = subst (λ n. x < n) places_long inside in
        elim (cases_eq x a) [
          | inl e ↦ rw (e, place_first) letter_second
          | inr no_a ↦ elim (cases_eq x b) [
            | inl e ↦ rw (e, place_second) letter_first
            | inr no_b ↦ rw (place_other x no_a no_b) (letter_other (get_or places x 0) (apart_one x here no_a) (apart_two x here no_b) ∙ order.stands x here)
          ]
        ];
    known = λ p inside.
        let here = subst (λ n. p < n) letters_long inside in
        subst (λ n. get_or (set (set letters one b) two a) p 0 < n) (sym places_long) (elim (cases_eq p two) [
          | inl e ↦ rw (e, letter_second) a_low
          | inr no_two ↦ elim (cases_eq p one) [
            | inl e ↦ rw (e, letter_first) b_low
            | inr no_one ↦ rw (letter_other p no_one no_two) (order.known p here)
          ]
        ]);
    back = λ p inside.
        let here = subst (λ n. p < n) letters_long inside in
        elim (cases_eq p two) [
          | inl e ↦ rw (e, letter_second) place_first
          | inr no_two ↦ elim (cases_eq p one) [
            | inl e ↦ rw (e, letter_first) place_second
            | inr no_one ↦
                rw (letter_other p no_one no_two) (place_other (get_or letters p 0) (other_a p here no_one) (other_b p here no_two) ∙ order.back p here)
          ]
        ];
  }

-- What waits after an exchange, where the count may have changed.
module _ (old new : OrderValue) (order : IsOrder old.letters old.places old.count) (one two : ℕ)
    (size : length new.places ≡ length old.places) (low : one < length old.letters) (high : two < length old.letters)
    (first : get_or new.places (get_or old.letters one 0) 0 ≡ two) (second : get_or new.places (get_or old.letters two 0) 0 ≡ one)
    (others : (x : ℕ) → x ≢ get_or old.letters one 0 → x ≢ get_or old.letters two 0 → get_or new.places x 0 ≡ get_or old.places x 0) where
  wide : (x : ℕ) → x < length old.places → x < length new.places
  wide x inside = subst (λ n. x < n) (sym size) inside

  narrow : (x : ℕ) → x < length new.places → x < length old.places
  narrow x inside = subst (λ n. x < n) size inside

  -- where a letter stands that stood at neither place
  elsewhere : (x : ℕ) → x < length old.places → get_or old.places x 0 ≢ one → get_or old.places x 0 ≢ two → get_or new.places x 0 ≡ get_or old.places x 0
  elsewhere x inside no_one no_two =
      others x (λ e. no_one (ap (λ n. get_or old.places n 0) e ∙ order.back one low)) (λ e. no_two (ap (λ n. get_or old.places n 0) e ∙ order.back two high))

  at_one : (x : ℕ) → x < length old.places → get_or old.places x 0 ≡ one → get_or new.places x 0 ≡ two
  at_one x inside e = subst (λ n. get_or new.places n 0 ≡ two) (ap (λ p. get_or old.letters p 0) (sym e) ∙ order.stands x inside) first

  at_two : (x : ℕ) → x < length old.places → get_or old.places x 0 ≡ two → get_or new.places x 0 ≡ one
  at_two x inside e = subst (λ n. get_or new.places n 0 ≡ one) (ap (λ p. get_or old.letters p 0) (sym e) ∙ order.stands x inside) second

  -- both places are those of letters that wait, or of ones that don't
  pub swapped : new.count ≡ old.count → one < old.count → two < old.count → (x : ℕ) → IsWaiting new x ↔ IsWaiting old x
  swapped count in_one in_two x = (
    λ h.
        let inside = narrow x h.known in
        record {
          known = inside;
          first = elim (cases_eq (get_or old.places x 0) one) [
            | inl e ↦ omega (arith, e, in_one)
            | inr no_one ↦ elim (cases_eq (get_or old.places x 0) two) [
              | inl e ↦ omega (arith, e, in_two)
              | inr no_two ↦ omega (arith, elsewhere x inside no_one no_two, h.first, count)
            ]
          ];
        },
    λ h.
        record {
          known = wide x h.known;
          first = elim (cases_eq (get_or old.places x 0) one) [
            | inl e ↦ omega (arith, at_one x h.known e, in_two, count)
            | inr no_one ↦ elim (cases_eq (get_or old.places x 0) two) [
              | inl e ↦ omega (arith, at_two x h.known e, in_one, count)
              | inr no_two ↦ omega (arith, elsewhere x h.known no_one no_two, h.first, count)
            ]
          ];
        },
  )

  -- the letter at a place behind those that wait comes to the first such place, and waits
  pub inserted : (letter : ℕ) → letter < length old.places → get_or old.places letter 0 ≡ one → two ≡ old.count → old.count ≤ one → new.count ≡ old.count + 1
      → (x : ℕ) → IsWaiting new x ↔ ((x ≡ letter) ⊎ IsWaiting old x)
  inserted letter inside stands two_is above count x = (
    λ h.
        let here = narrow x h.known in
        elim (cases_eq x letter) [
          | inl e ↦ inl e
          | inr differ ↦ inr (record {
            known = here;
            first = elim (cases_eq (get_or old.places x 0) one) [
              | inl e ↦ absurd (differ (sym (order.stands x here) ∙ ap (λ p. get_or old.letters p 0) (e ∙ sym stands) ∙ order.stands letter inside))
              | inr no_one ↦ elim (cases_eq (get_or old.places x 0) two) [
                | inl e ↦ absurd (no_one (omega (arith, e, at_two x here e, h.first, count, two_is, above)))
                | inr no_two ↦ omega (arith, elsewhere x here no_one no_two, h.first, count, two_is, no_two)
              ]
            ];
          })
        ],
    λ h. elim h [
      | inl e ↦ record {
        known = subst (λ n. n < length new.places) (sym e) (wide letter inside);
        first = rw e (omega (arith, at_one letter inside stands, two_is, count));
      }
      | inr old_h ↦ record {
        known = wide x old_h.known;
        first =
            omega (arith, elsewhere x old_h.known (λ e. omega (arith, e, old_h.first, above)) (λ e. omega (arith, e, old_h.first, two_is)), old_h.first, count);
      }
    ],
  )

  -- the letter at the first place comes to the last one that waited, and waits no longer
  pub taken : (letter : ℕ) → letter ≡ get_or old.letters one 0 → one ≡ 0 → old.count ≡ two + 1 → new.count ≡ two → (x : ℕ)
      → IsWaiting new x ↔ (IsWaiting old x × (x ≢ letter))
  taken letter letter_is one_is count less x = (
    λ h.
        let here = narrow x h.known in
        let differ : x ≢ letter = λ e. omega (arith, first, h.first, less, ap (λ n. get_or new.places n 0) (e ∙ letter_is)) in
        let waits : get_or old.places x 0 < old.count = elim (cases_eq (get_or old.places x 0) one) [
          | inl e ↦ omega (arith, e, one_is, count)
          | inr no_one ↦ elim (cases_eq (get_or old.places x 0) two) [
            | inl e ↦ omega (arith, e, count)
            | inr no_two ↦ omega (arith, elsewhere x here no_one no_two, h.first, less, count)
          ]
        ] in
        (record { known = here; first = waits }, differ),
    λ h.
        let no_one : get_or old.places x 0 ≢ one = λ e. h.1 (sym (order.stands x h.0.known) ∙ ap (λ p. get_or old.letters p 0) e ∙ sym letter_is) in
        record {
          known = wide x h.0.known;
          first = elim (cases_eq (get_or old.places x 0) two) [
            | inl e ↦ omega (arith, at_two x h.0.known e, e, no_one, one_is, less)
            | inr no_two ↦ omega (arith, elsewhere x h.0.known no_one no_two, h.0.first, less, count, no_two)
          ];
        },
  )
