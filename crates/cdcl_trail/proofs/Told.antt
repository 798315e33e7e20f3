-- Values that are told by whether each literal is true.
use Rattle.std.proofs.Common.{◌≡◌, ◌≢◌, ◌↔◌, ℕ, ◌+◌, ◌*◌, ◌/◌, ◌<◌, ◌≤◌, ◌-◌, zero, suc, Bool, true, false, not, List, [], ◌∷◌, ◌++◌, length, get_or, set}
use Rattle.std.proofs.Common.{Option, Some, None, if◌then◌else◌, inl, inr, refl, sym, ap, ap₂, ◌∙◌, arith, length-set, length-append, get_or-set_same}
use Rattle.std.proofs.Common.{get_or-set_other}
use Rattle.std.proofs.lemmas.Bool.{cases_lt, cases_eq}
use Rattle.std.proofs.lemmas.List.{same_lists, length_push, get_or_append_left, get_or-append_right, get_or_at, get_or_default}
use Rattle.std.proofs.lemmas.List.FromFn.{get_or-map-range_with_len, length-map-range_with_len}
use Rattle.cnf_base.specs.declared.literal.Literal.{Literal}
use Rattle.cdcl_trail.specs.Values.{told, truth_place, value_at, letter_value, values_of, AreTruths}

pub length_values : (truths : List Bool) → length (values_of truths) ≡ length truths / 2
length_values truths = length-map-range_with_len (letter_value truths) 0 (length truths / 2)

-- the value of a letter stands at its two places
pub value_there : (truths : List Bool) (l : ℕ) → l < length truths / 2 → value_at (values_of truths) l ≡ letter_value truths l
value_there truths l low = get_or-map-range_with_len (letter_value truths) 0 (length truths / 2) l l None low (omega arith)

-- a literal is true exactly where its letter has the value that it asks for
pub told_is : (a d : Bool) (b : Bool) → (a ≡ true → d ≡ false) → ((if b then d else a) ≡ true) ↔ (told a d ≡ Some (not b))
told_is true true b once = let f : true ≡ false = once refl in cc
told_is true false true once = (λ e. cc, λ e. cc)
told_is true false false once = (λ e. refl, λ e. refl)
told_is false true true once = (λ e. refl, λ e. refl)
told_is false true false once = (λ e. cc, λ e. cc)
told_is false false true once = (λ e. cc, λ e. cc)
told_is false false false once = (λ e. cc, λ e. cc)

-- the other literal's place
abbrev pub other_place : Literal → ℕ
other_place l = 2 * l.letter.0 + (if l.negated then 0 else 1)

-- the two places of a letter, by one of its literals
by_literal : (truths : List Bool) (l : Literal) → letter_value truths l.letter.0
    ≡ (if l.negated then told (get_or truths (other_place l) false) (get_or truths (truth_place l) false)
    else told (get_or truths (truth_place l) false) (get_or truths (other_place l) false))
by_literal truths l = go l.negated refl
  where
    go : (b : Bool) → l.negated ≡ b → letter_value truths l.letter.0
        ≡ (if l.negated then told (get_or truths (other_place l) false) (get_or truths (truth_place l) false)
        else told (get_or truths (truth_place l) false) (get_or truths (other_place l) false))
    go true e = rw e (ap (λ k. told (get_or truths k false) (get_or truths (2 * l.letter.0 + 1) false)) (omega arith))
    go false e = rw e (ap (λ k. told (get_or truths k false) (get_or truths (2 * l.letter.0 + 1) false)) (omega arith))

place_near : (l : Literal) → (2 * l.letter.0 ≤ truth_place l) × (truth_place l ≤ 2 * l.letter.0 + 1)
place_near l = go l.negated refl
  where
    go : (b : Bool) → l.negated ≡ b → (2 * l.letter.0 ≤ truth_place l) × (truth_place l ≤ 2 * l.letter.0 + 1)
    go true e = rw e (omega arith, omega arith)
    go false e = rw e (omega arith, omega arith)

places_apart : (l : Literal) → other_place l ≢ truth_place l
places_apart l = go l.negated refl
  where
    go : (b : Bool) → l.negated ≡ b → other_place l ≢ truth_place l
    go true e = rw e (λ f. omega (arith, f))
    go false e = rw e (λ f. omega (arith, f))

none_left : (a d : Bool) → told a d ≡ None → a ≡ false
none_left false d h = refl
none_left true d h = cc

none_right : (a d : Bool) → told a d ≡ None → d ≡ false
none_right a false h = refl
none_right true true h = cc
none_right false true h = cc

module _ (truths : List Bool) (are : AreTruths truths) (l : Literal) (known : l.letter.0 < length (values_of truths)) where
  pub low : l.letter.0 < length truths / 2
  low = omega (arith, known, length_values truths)

  pub place_known : truth_place l < length truths
  place_known = go l.negated refl
    where
      go : (b : Bool) → l.negated ≡ b → truth_place l < length truths
      go true e = rw e (omega (arith, low, are.even))
      go false e = rw e (omega (arith, low, are.even))

  once_other : get_or truths (truth_place l) false ≡ true → get_or truths (other_place l) false ≡ false
  once_other = go l.negated refl
    where
      zero_more : 2 * l.letter.0 + 0 ≡ 2 * l.letter.0
      zero_more = omega arith

      go : (b : Bool) → l.negated ≡ b → get_or truths (truth_place l) false ≡ true → get_or truths (other_place l) false ≡ false
      go false e = rw (e, zero_more) (are.once l.letter.0)
      go true e = rw (e, zero_more) (λ is. contra (get_or truths (2 * l.letter.0) false) refl is)
        where
          contra : (b : Bool)
              → get_or truths (2 * l.letter.0) false ≡ b → get_or truths (2 * l.letter.0 + 1) false ≡ true → get_or truths (2 * l.letter.0) false ≡ false
          contra false f is = f
          contra true f is = let g : get_or truths (2 * l.letter.0 + 1) false ≡ false = are.once l.letter.0 f in cc

  pub holds_is : (get_or truths (truth_place l) false ≡ true) ↔ (value_at (values_of truths) l.letter.0 ≡ Some (not l.negated))
  holds_is = go l.negated refl
    where
      zero_more : 2 * l.letter.0 + 0 ≡ 2 * l.letter.0
      zero_more = omega arith

      go : (b : Bool) → l.negated ≡ b → (get_or truths (truth_place l) false ≡ true) ↔ (value_at (values_of truths) l.letter.0 ≡ Some (not l.negated))
      go true e = rw (e, value_there truths l.letter.0 low)
          (told_is (get_or truths (2 * l.letter.0) false) (get_or truths (2 * l.letter.0 + 1) false) true (are.once l.letter.0))
      go false e = rw (e, zero_more, value_there truths l.letter.0 low)
          (told_is (get_or truths (2 * l.letter.0) false) (get_or truths (2 * l.letter.0 + 1) false) false (are.once l.letter.0))

  -- the other literal is not true where this one is, or the letter has no value
  pub other_of_true : value_at (values_of truths) l.letter.0 ≡ Some (not l.negated) → get_or truths (other_place l) false ≡ false
  other_of_true is = once_other (holds_is.1 is)

  pub other_of_unset : value_at (values_of truths) l.letter.0 ≡ None → get_or truths (other_place l) false ≡ false
  other_of_unset is = go l.negated refl (sym (by_literal truths l) ∙ sym (value_there truths l.letter.0 low) ∙ is)
    where
      go : (b : Bool) → l.negated ≡ b
          → (if l.negated then told (get_or truths (other_place l) false) (get_or truths (truth_place l) false)
          else told (get_or truths (truth_place l) false) (get_or truths (other_place l) false)) ≡ None
          → get_or truths (other_place l) false ≡ false
      go true e = rw e (λ h. none_left (get_or truths (2 * l.letter.0 + 0) false) (get_or truths (2 * l.letter.0 + 1) false) h)
      go false e = rw e (λ h. none_right (get_or truths (2 * l.letter.0 + 0) false) (get_or truths (2 * l.letter.0 + 1) false) h)

  -- the literal gets another value, where the other one is not true
  module _ (x : Bool) (other : get_or truths (other_place l) false ≡ false) where
    abbrev pub changed : List Bool
    changed = set truths (truth_place l) x

    elsewhere : (k : ℕ) → k ≢ truth_place l → get_or changed k false ≡ get_or truths k false
    elsewhere k apart = get_or-set_other truths (truth_place l) k x false apart

    letter_elsewhere : (k : ℕ) → k ≢ l.letter.0 → letter_value changed k ≡ letter_value truths k
    letter_elsewhere k apart =
        let p = place_near l in
        ap₂ told (elsewhere (2 * k) (λ e. apart (omega (arith, e, p.0, p.1)))) (elsewhere (2 * k + 1) (λ e. apart (omega (arith, e, p.0, p.1))))

    at_place : get_or changed (truth_place l) false ≡ x
    at_place = get_or-set_same truths (truth_place l) x false place_known

    at_other : get_or changed (other_place l) false ≡ false
    at_other = elsewhere (other_place l) (places_apart l) ∙ other

    letter_here : letter_value changed l.letter.0 ≡ (if x then Some (not l.negated) else None)
    letter_here = by_literal changed l ∙ go l.negated refl x refl
      where
        go : (b : Bool) → l.negated ≡ b → (y : Bool) → x ≡ y
            → (if l.negated then told (get_or changed (other_place l) false) (get_or changed (truth_place l) false)
            else told (get_or changed (truth_place l) false) (get_or changed (other_place l) false))
            ≡ (if x then Some (not l.negated) else None)
        go b e y f = rw (at_place, at_other, e, f) (one b y)
          where
            one : (b y : Bool) → (if b then told false y else told y false) ≡ (if y then Some (not b) else None)
            one true true = refl
            one true false = refl
            one false true = refl
            one false false = refl

    pub values_set : values_of changed ≡ set (values_of truths) l.letter.0 (if x then Some (not l.negated) else None)
    values_set =
        let v : Option Bool = if x then Some (not l.negated) else None in
        let half : length changed / 2 ≡ length truths / 2 = ap (λ n. n / 2) (length-set truths (truth_place l) x) in
        same_lists (values_of changed) (set (values_of truths) l.letter.0 v)
        (length_values changed ∙ half ∙ sym (length_values truths) ∙ sym (length-set (values_of truths) l.letter.0 v))
        (λ k d below.
        let k_low : k < length changed / 2 = omega (arith, below, length_values changed) in
        let at : get_or (values_of changed) k d ≡ letter_value changed k = get_or_default (values_of changed) k d None below ∙ value_there changed k k_low in
        elim (cases_eq k l.letter.0) [
          | inl same ↦ at ∙ ap (letter_value changed) same
              ∙ letter_here ∙ sym (ap (λ i. get_or (set (values_of truths) l.letter.0 v) i d) same ∙ get_or-set_same (values_of truths) l.letter.0 v d known)
          | inr apart ↦ at ∙ letter_elsewhere k apart ∙ sym (value_there truths k (omega (arith, k_low, half)))
              ∙ get_or_default (values_of truths) k None d
              (omega (arith, k_low, half, length_values truths)) ∙ sym (get_or-set_other (values_of truths) l.letter.0 k v d apart)
        ])

    pub truths_set : AreTruths changed
    truths_set = record {
      even = rw (length-set truths (truth_place l) x) are.even;
      once = λ k is. elim (cases_eq k l.letter.0) [
        | inl same ↦ here l.negated refl k same is
        | inr apart ↦ let p = place_near l in
            elsewhere (2 * k + 1) (λ e. apart (omega (arith, e, p.0, p.1)))
            ∙ are.once k (sym (elsewhere (2 * k) (λ e. apart (omega (arith, e, p.0, p.1)))) ∙ is)
      ];
    }
      where
        here : (b : Bool) → l.negated ≡ b → (k : ℕ) → k ≡ l.letter.0 → get_or changed (2 * k) false ≡ true → get_or changed (2 * k + 1) false ≡ false
        here false e k same is = ap (λ i. get_or changed i false) (let f : other_place l ≡ 2 * l.letter.0 + 1 = rw e refl in omega (arith, same, f)) ∙ at_other
        here true e k same is =
            let f : other_place l ≡ 2 * l.letter.0 + 0 = rw e refl in
            let g : get_or changed (2 * k) false ≡ false = ap (λ i. get_or changed i false) (omega (arith, same, f)) ∙ at_other in
            cc

-- a letter without a value behind the others
module _ (truths : List Bool) (are : AreTruths truths) where
  abbrev pub widened : List Bool
  widened = truths ++ false ∷ false ∷ []

  longer : length widened ≡ length truths + 2
  longer = length-append truths (false ∷ false ∷ [])

  at_end : (i : ℕ) → length truths ≤ i → get_or widened i false ≡ false
  at_end i high = get_or-append_right truths (false ∷ false ∷ []) (length truths) i false refl high ∙ two (i - length truths)
    where
      two : (j : ℕ) → get_or (false ∷ false ∷ []) j false ≡ false
      two zero = refl
      two (suc zero) = refl
      two (suc (suc j)) = refl

  letter_before : (k : ℕ) → k < length truths / 2 → letter_value widened k ≡ letter_value truths k
  letter_before k below = ap₂ told (get_or_append_left truths (false ∷ false ∷ []) false (2 * k) (omega (arith, below, are.even)))
      (get_or_append_left truths (false ∷ false ∷ []) false (2 * k + 1) (omega (arith, below, are.even)))

  letter_at_end : (k : ℕ) → length truths / 2 ≤ k → letter_value widened k ≡ None
  letter_at_end k high = ap₂ told (at_end (2 * k) (omega (arith, high, are.even))) (at_end (2 * k + 1) (omega (arith, high, are.even)))

  pub values_push : values_of widened ≡ values_of truths ++ None ∷ []
  values_push =
      let half : length widened / 2 ≡ length truths / 2 + 1 = omega (arith, longer, are.even) in
      same_lists (values_of widened) (values_of truths ++ None ∷ [])
      (length_values widened ∙ half ∙ sym (length_push (values_of truths) None ∙ ap (λ n. n + 1) (length_values truths)))
      (λ k d below.
      let k_low : k < length widened / 2 = omega (arith, below, length_values widened) in
      let at : get_or (values_of widened) k d ≡ letter_value widened k = get_or_default (values_of widened) k d None below ∙ value_there widened k k_low in
      elim (cases_lt k (length truths / 2)) [
        | inl early ↦ let in_values : k < length (values_of truths) = omega (arith, early, length_values truths) in
            at ∙ letter_before k early ∙ sym (value_there truths k early) ∙ get_or_default (values_of truths) k None d in_values
            ∙ sym (get_or_append_left (values_of truths) (None ∷ []) d k in_values)
        | inr high ↦ at ∙ letter_at_end k high ∙ sym (get_or_at (values_of truths) None [] d k (omega (arith, high, k_low, half, length_values truths)))
      ])

  pub truths_push : AreTruths widened
  truths_push = record {
    even = omega (arith, longer, are.even);
    once = λ k is. elim (cases_lt k (length truths / 2)) [
      | inl early ↦ get_or_append_left truths (false ∷ false ∷ []) false (2 * k + 1) (omega (arith, early, are.even))
          ∙ are.once k (sym (get_or_append_left truths (false ∷ false ∷ []) false (2 * k) (omega (arith, early, are.even))) ∙ is)
      | inr high ↦ at_end (2 * k + 1) (omega (arith, high, are.even))
    ];
  }
