-- The literals that are false under some values.
use Rattle.std.proofs.Common.{◌≡◌, ◌↔◌, ℕ, zero, suc, ◌+◌, ◌<◌, inl, inr, Bool, true, false, not, List, [], ◌∷◌, length, get_or, set, replicate, Contains, refl}
use Rattle.std.proofs.Common.{sym, ap, ap₂, ◌∙◌, subst, arith}
use Rattle.std.proofs.lemmas.Bool.{cases_eq}
use Rattle.std.proofs.lemmas.List.{get_or-set_same, get_or-set_other}
use Rattle.std.proofs.lemmas.List.Elements.{Contains-append_right}
use Rattle.cnf_base.specs.declared.literal.Literal.{Literal}
use Rattle.cnf_base.specs.Literal.{opposite}
use Rattle.log_checker.specs.Values.{signed, value_of, false_of, falses_from, falses_in}
use Rattle.log_checker.specs.declared.assignment.Truth.{Truth}
use Rattle.log_checker.specs.declared.assignment.Truth.TheVariants.{Unset, True, False}

literal : ℕ → Bool → Literal
literal x b = record { letter = record { 0 = x }; negated = b }

-- a place and a value that makes the literal false
Tells : ℕ → List Truth → Literal → Type 0
Tells x vs l = (k : ℕ) × (l.letter.0 ≡ x + k) × (signed l.negated (get_or vs k Unset) ≡ False)

later : (x : ℕ) (v : Truth) (vs : List Truth) (l : Literal) → Tells (suc x) vs l → Tells x (v ∷ vs) l
unfolding Tells
later x v vs l (k, at, is) = (suc k, omega (arith, at), is)

cases_cons : (m : Literal) (ms : List Literal) (l : Literal) → Contains (m ∷ ms) l → (P : Type 0) → (m ≡ l → P) → (Contains ms l → P) → P
cases_cons m ms l (zero, low, at) P here there = here at
cases_cons m ms l (suc i, low, at) P here there = there (i, omega (arith, low), at)

here_true : (x : ℕ) (vs : List Truth) (l : Literal) → record { letter = record { 0 = x }; negated = true } ≡ l → Tells x (True ∷ vs) l
unfolding Tells
here_true x vs l at = (0, omega (arith, ap (λ (m : Literal). m.letter.0) at), ap (λ (m : Literal). signed m.negated True) (sym at))

here_false : (x : ℕ) (vs : List Truth) (l : Literal) → record { letter = record { 0 = x }; negated = false } ≡ l → Tells x (False ∷ vs) l
unfolding Tells
here_false x vs l at = (0, omega (arith, ap (λ (m : Literal). m.letter.0) at), ap (λ (m : Literal). signed m.negated False) (sym at))

tells_to : (x : ℕ) (vs : List Truth) (l : Literal) → Contains (falses_from x vs) l → Tells x vs l
tells_to x [] l c = absurd (omega (arith, c.1))
tells_to x (Unset ∷ vs) l c = later x Unset vs l (tells_to (suc x) vs l c)
tells_to x (True ∷ vs) l c = cases_cons (record { letter = record { 0 = x }; negated = true }) (falses_from (suc x) vs) l c (Tells x (True ∷ vs) l)
    (here_true x vs l) (λ t. later x True vs l (tells_to (suc x) vs l t))
tells_to x (False ∷ vs) l c = cases_cons (record { letter = record { 0 = x }; negated = false }) (falses_from (suc x) vs) l c (Tells x (False ∷ vs) l)
    (here_false x vs l) (λ t. later x False vs l (tells_to (suc x) vs l t))

unset_is_not : (b : Bool) → signed b Unset ≡ False → ⊥
unset_is_not true e = cc
unset_is_not false e = cc

same_literal : (x : ℕ) (b : Bool) (l : Literal) → l.letter.0 ≡ x → l.negated ≡ b → l ≡ record { letter = record { 0 = x }; negated = b }
same_literal x b l at is = let make : ℕ → Bool → Literal = λ y n. record { letter = record { 0 = y }; negated = n } in ap₂ make at is

first : (m : Literal) (ms : List Literal) (l : Literal) → l ≡ m → Contains (m ∷ ms) l
first m ms l at = (0, omega arith, sym at)

negated_of : (b : Bool) → signed b True ≡ False → b ≡ true
negated_of true e = refl
negated_of false e = cc

plain_of : (b : Bool) → signed b False ≡ False → b ≡ false
plain_of true e = cc
plain_of false e = refl

tells_from : (x : ℕ) (vs : List Truth) (k : ℕ) (l : Literal) → l.letter.0 ≡ x + k → signed l.negated (get_or vs k Unset) ≡ False → Contains (falses_from x vs) l
tells_from x [] k l at is = absurd (unset_is_not l.negated is)
tells_from x (Unset ∷ vs) zero l at is = absurd (unset_is_not l.negated is)
tells_from x (True ∷ vs) zero l at is = first (record { letter = record { 0 = x }; negated = true }) (falses_from (suc x) vs) l
    (same_literal x true l (omega (arith, at)) (negated_of l.negated is))
tells_from x (False ∷ vs) zero l at is = first (record { letter = record { 0 = x }; negated = false }) (falses_from (suc x) vs) l
    (same_literal x false l (omega (arith, at)) (plain_of l.negated is))
tells_from x (Unset ∷ vs) (suc k) l at is = tells_from (suc x) vs k l (omega (arith, at)) is
tells_from x (True ∷ vs) (suc k) l at is = Contains-append_right (record { letter = record { 0 = x }; negated = true } ∷ []) (falses_from (suc x) vs) l
    (tells_from (suc x) vs k l (omega (arith, at)) is)
tells_from x (False ∷ vs) (suc k) l at is = Contains-append_right (record { letter = record { 0 = x }; negated = false } ∷ []) (falses_from (suc x) vs) l
    (tells_from (suc x) vs k l (omega (arith, at)) is)

-- the false literals are those whose value is false
pub false_from : (values : List Truth) (l : Literal) → value_of values l ≡ False → Contains (falses_in values) l
false_from values l is = tells_from 0 values l.letter.0 l (omega arith) is

pub false_to : (values : List Truth) (l : Literal) → Contains (falses_in values) l → value_of values l ≡ False
unfolding Tells
false_to values l c =
    let t = tells_to 0 values l c in
    let at : l.letter.0 ≡ t.0 = omega (arith, t.1) in
    subst (λ k. signed l.negated (get_or values k Unset) ≡ False) (sym at) t.2

-- a literal and its opposite
both_false : (b : Bool) (v : Truth) → signed b v ≡ False → signed (not b) v ≡ False → ⊥
both_false true Unset e f = cc
both_false true True e f = cc
both_false true False e f = cc
both_false false Unset e f = cc
both_false false True e f = cc
both_false false False e f = cc

other_true : (b : Bool) (v : Truth) → signed b v ≡ True → signed (not b) v ≡ False
other_true true Unset e = cc
other_true true True e = cc
other_true true False e = refl
other_true false Unset e = cc
other_true false True e = refl
other_true false False e = cc

is_unset : (b : Bool) (v : Truth) → ¬ (signed b v ≡ False) → ¬ (signed (not b) v ≡ False) → v ≡ Unset
is_unset true Unset e f = refl
is_unset true True e f = absurd (e refl)
is_unset true False e f = absurd (f refl)
is_unset false Unset e f = refl
is_unset false True e f = absurd (f refl)
is_unset false False e f = absurd (e refl)

none_false : (b : Bool) (v : Truth) → signed b v ≡ Unset → v ≡ Unset
none_false true Unset e = refl
none_false true True e = cc
none_false true False e = cc
none_false false Unset e = refl
none_false false True e = cc
none_false false False e = cc

unset_or_false : (b : Bool) (v : Truth) → v ≡ Unset → signed b v ≡ False → ⊥
unset_or_false b v e f = unset_is_not b (subst (λ w. signed b w ≡ False) e f)

pub not_both : (values : List Truth) (l : Literal) → Contains (falses_in values) l → Contains (falses_in values) (opposite l) → ⊥
not_both values l one two = both_false l.negated (get_or values l.letter.0 Unset) (false_to values l one) (false_to values (opposite l) two)

pub true_is : (values : List Truth) (l : Literal) → value_of values l ≡ True → Contains (falses_in values) (opposite l)
true_is values l is = false_from values (opposite l) (other_true l.negated (get_or values l.letter.0 Unset) is)

pub unset_letter : (values : List Truth) (l : Literal) → value_of values l ≡ Unset → get_or values l.letter.0 Unset ≡ Unset
unset_letter values l is = none_false l.negated (get_or values l.letter.0 Unset) is

pub unset_is : (values : List Truth) (l : Literal)
    → value_of values l ≡ Unset → (¬ Contains (falses_in values) l) × (¬ Contains (falses_in values) (opposite l))
unset_is values l is =
    let none = unset_letter values l is in (
      λ c. unset_or_false l.negated (get_or values l.letter.0 Unset) none (false_to values l c),
      λ c. unset_or_false (not l.negated) (get_or values l.letter.0 Unset) none (false_to values (opposite l) c),
    )

pub unset_from : (values : List Truth) (l : Literal) → (¬ Contains (falses_in values) l) → (¬ Contains (falses_in values) (opposite l))
    → get_or values l.letter.0 Unset ≡ Unset
unset_from values l one two =
    is_unset l.negated (get_or values l.letter.0 Unset) (λ e. one (false_from values l e)) (λ e. two (false_from values (opposite l) e))

-- one more literal is false
signed_false : (b : Bool) → signed b (false_of b) ≡ False
signed_false true = refl
signed_false false = refl

signed_same : (a b : Bool) → signed a (false_of b) ≡ False → a ≡ b
signed_same true true e = refl
signed_same true false e = cc
signed_same false true e = cc
signed_same false false e = refl

pub falses_more : (values : List Truth) (l k : Literal) → l.letter.0 < length values → get_or values l.letter.0 Unset ≡ Unset
    → Contains (falses_in (set values l.letter.0 (false_of l.negated))) k ↔ Contains (l ∷ falses_in values) k
falses_more values l k low none = (
  λ c. to (false_to (set values l.letter.0 (false_of l.negated)) k c),
  λ c. cases_cons l (falses_in values) k c (Contains (falses_in (set values l.letter.0 (false_of l.negated))) k) here there,
)
  where
    to : value_of (set values l.letter.0 (false_of l.negated)) k ≡ False → Contains (l ∷ falses_in values) k
    to is = elim (cases_eq k.letter.0 l.letter.0) [
      | inl at ↦
          let here : signed k.negated (false_of l.negated) ≡ False =
          ap (signed k.negated) (sym (get_or-set_same values l.letter.0 (false_of l.negated) Unset low))
          ∙ subst (λ x. signed k.negated (get_or (set values l.letter.0 (false_of l.negated)) x Unset) ≡ False) at is in
          first l (falses_in values) k (same_literal l.letter.0 l.negated k at (signed_same k.negated l.negated here))
      | inr other ↦ Contains-append_right (l ∷ []) (falses_in values) k
          (false_from values k (ap (signed k.negated) (sym (get_or-set_other values l.letter.0 k.letter.0 (false_of l.negated) Unset other)) ∙ is))
    ]

    here : l ≡ k → Contains (falses_in (set values l.letter.0 (false_of l.negated))) k
    here at = subst (λ m. Contains (falses_in (set values l.letter.0 (false_of l.negated))) m) at (false_from (set values l.letter.0 (false_of l.negated)) l
        (ap (signed l.negated) (get_or-set_same values l.letter.0 (false_of l.negated) Unset low) ∙ signed_false l.negated))

    there : Contains (falses_in values) k → Contains (falses_in (set values l.letter.0 (false_of l.negated))) k
    there c = false_from (set values l.letter.0 (false_of l.negated)) k (elim (cases_eq k.letter.0 l.letter.0) [
      | inl at ↦ absurd (unset_or_false k.negated (get_or values k.letter.0 Unset) (ap (λ x. get_or values x Unset) at ∙ none) (false_to values k c))
      | inr other ↦ ap (signed k.negated) (get_or-set_other values l.letter.0 k.letter.0 (false_of l.negated) Unset other) ∙ false_to values k c
    ])

-- where no letter has a value, nothing is false
pub falses_none : (n x : ℕ) → falses_from x (replicate n Unset) ≡ []
falses_none zero x = refl
falses_none (suc n) x = falses_none n (suc x)
