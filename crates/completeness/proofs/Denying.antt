-- The assignment that makes each literal of a clause false. Where the clause has each letter and follows from a list, it falsifies a clause of the list.
use Rattle.std.proofs.Common.{◌≡◌, ℕ, suc, ◌<◌, ◌≤◌, ◌⊎◌, inl, inr, Bool, true, false, not, List, [], ◌∷◌, All, Contains, Some}
use Rattle.std.proofs.Common.{slice_get, get_or, refl, sym, ap, ap₂, ◌∙◌, arith}
use mathlib.Core.Bool.{false≢true}
use Rattle.std.proofs.lemmas.Bool.{cases_lt}
use Rattle.std.proofs.lemmas.List.Elements.{All-nil, All-cons, All-contains, Contains-get_or}
use Rattle.std.proofs.lemmas.List.Folds.{list_any_at}
use Rattle.cnf_base.specs.declared.literal.Literal.{Literal}
use Rattle.cnf_base.specs.Known.{IsKnown, AreKnown}
use Rattle.cnf_base.specs.Step.{HasNoPair, IsFalse}
use Rattle.cnf_base.specs.Meaning.{literal_value, clause_value, Satisfies}
use Rattle.cnf_base.proofs.Soundness.{some_element}
use Rattle.derivation.proofs.Renaming.{Contains-there, Contains-cases, Contains-nil}
use Rattle.completeness.specs.Reaching.{Follows}

-- ---- whether a clause has a literal

-- the literal of this letter and this sign
abbrev pub literal_of : ℕ → Bool → Literal
literal_of n b = record { letter = record { 0 = n }; negated = b }

pub number_or_not : (m n : ℕ) → (m ≡ n) ⊎ ¬ (m ≡ n)
number_or_not m n = elim (cases_lt m n) [
  | inl less ↦ inr (λ e. omega (arith, e, less))
  | inr more ↦ elim (cases_lt n m) [ inl less ↦ inr (λ e. omega (arith, e, less)) | inr most ↦ inl (omega (arith, more, most)) ]
]

sign_or_not : (a b : Bool) → (a ≡ b) ⊎ ¬ (a ≡ b)
sign_or_not true true = inl refl
sign_or_not true false = inr (λ e. false≢true (sym e))
sign_or_not false true = inr (λ e. false≢true e)
sign_or_not false false = inl refl

same_or_not : (a b : Literal) → (a ≡ b) ⊎ ¬ (a ≡ b)
same_or_not a b = elim (number_or_not a.letter.0 b.letter.0) [
  | inr other ↦ inr (λ e. other (ap (λ (l : Literal). l.letter.0) e))
  | inl same ↦ elim (sign_or_not a.negated b.negated) [
    | inr other ↦ inr (λ e. other (ap (λ (l : Literal). l.negated) e))
    | inl sign ↦ inl (ap₂ literal_of same sign)
  ]
]

pub has_or_not : (clause : List Literal) (l : Literal) → Contains clause l ⊎ ¬ Contains clause l
has_or_not [] l = inr (Contains-nil l)
has_or_not (x ∷ clause) l = elim (same_or_not x l) [
  | inl e ↦ inl (0, omega arith, e)
  | inr other ↦ elim (has_or_not clause l) [
    | inl there ↦ inl (Contains-there x l clause there)
    | inr none ↦ inr (λ c. elim (Contains-cases x l clause c) [ inl e ↦ other e | inr there ↦ none there ])
  ]
]

abbrev pub is_first : {A B : Type 0} → A ⊎ B → Bool
is_first (inl a) = true
is_first (inr b) = false

pub first_true : {A B : Type 0} (d : A ⊎ B) → is_first d ≡ true → A
first_true (inl a) e = a
first_true (inr b) e = absurd (false≢true e)

first_false : {A B : Type 0} (d : A ⊎ B) → is_first d ≡ false → B
first_false (inl a) e = absurd (false≢true (sym e))
first_false (inr b) e = b

pub first_is : {A : Type 0} (d : A ⊎ ¬ A) → A → is_first d ≡ true
first_is (inl a) there = refl
first_is (inr none) there = absurd (none there)

first_is_not : {A : Type 0} (d : A ⊎ ¬ A) → ¬ A → is_first d ≡ false
first_is_not (inl a) none = absurd (none a)
first_is_not (inr b) none = refl

-- ---- the assignment

-- a letter is true where the clause has its negation
abbrev pub denying : List Literal → ℕ → Bool
denying clause n = is_first (has_or_not clause (literal_of n true))

-- each letter above the low one and up to the greatest stands in the clause
abbrev pub Covers : ℕ → ℕ → List Literal → Type 0
Covers low greatest clause = (n : ℕ) → low < n → n ≤ greatest → Contains clause (literal_of n false) ⊎ Contains clause (literal_of n true)

module _ (clause : List Literal) where
  denied_as : HasNoPair clause → (n : ℕ) (b : Bool) → Contains clause (literal_of n b) → literal_value (denying clause) (literal_of n b) ≡ false
  denied_as lone n true there = ap not (first_is (has_or_not clause (literal_of n true)) there)
  denied_as lone n false there = first_is_not (has_or_not clause (literal_of n true)) (lone (literal_of n false) there)

  denied : HasNoPair clause → (l : Literal) → Contains clause l → literal_value (denying clause) l ≡ false
  denied lone l there = denied_as lone l.letter.0 l.negated there

  not_true : (b : Bool) → not b ≡ false → b ≡ true
  not_true true e = refl
  not_true false e = absurd (false≢true (sym e))

  found_as : (greatest n : ℕ) (b : Bool) → Covers 0 greatest clause → IsKnown greatest (literal_of n b)
      → literal_value (denying clause) (literal_of n b) ≡ false → Contains clause (literal_of n b)
  found_as greatest n true covers known e = first_true (has_or_not clause (literal_of n true)) (not_true (denying clause n) e)
  found_as greatest n false covers known e = elim (covers n known.from_one known.within) [
    | inl there ↦ there
    | inr other ↦ absurd (first_false (has_or_not clause (literal_of n true)) e other)
  ]

-- ---- a false clause of the list

false_in : (v : ℕ → Bool) (clause : List Literal) → clause_value v clause ≡ false → (l : Literal) → Contains clause l → literal_value v l ≡ false
false_in v clause none l there = go (literal_value v l) refl
  where
    go : (b : Bool) → literal_value v l ≡ b → literal_value v l ≡ false
    go false e = e
    go true e = absurd (false≢true (sym none ∙ list_any_at (literal_value v) clause there.0 l there.1 (ap (literal_value v) there.2 ∙ e)))

abbrev HasFalse : (ℕ → Bool) → List (List Literal) → Type 0
HasFalse v list = (k : ℕ) × (clause : List Literal) × (slice_get list k ≡ Some clause) × Contains list clause × (clause_value v clause ≡ false)

false_or_all : (v : ℕ → Bool) (list : List (List Literal)) → HasFalse v list ⊎ Satisfies v list
false_or_all v [] = inr (All-nil (λ clause. clause_value v clause ≡ true))
false_or_all v (c ∷ list) = go (clause_value v c) refl (false_or_all v list)
  where
    go : (b : Bool) → clause_value v c ≡ b → HasFalse v list ⊎ Satisfies v list → HasFalse v (c ∷ list) ⊎ Satisfies v (c ∷ list)
    go false e rest = inl (0, c, refl, (0, omega arith, refl), e)
    go true e (inl (k, clause, is, there, none)) = inl (suc k, clause, is, Contains-there c clause list there, none)
    go true e (inr all) = inr (All-cons (λ clause. clause_value v clause ≡ true) c list e all)

-- a clause that has each letter and follows from the list has all literals of some clause of the list
pub falsified : (list : List (List Literal)) (greatest : ℕ) (clause : List Literal) → AreKnown greatest list → HasNoPair clause
    → Covers 0 greatest clause → Follows list clause
    → (k : ℕ) × (other : List Literal) × (slice_get list k ≡ Some other) × IsFalse clause other
falsified list greatest clause known lone covers follows = elim (false_or_all (denying clause) list) [
  | inl (k, other, is, there, none) ↦ (
    k,
    other,
    is,
    λ j d lt.
        let l = get_or other j d in
        let inside : Contains other l = Contains-get_or other j d lt in
        found_as clause greatest l.letter.0 l.negated covers (All-contains (IsKnown greatest) other l
        (All-contains (All (IsKnown greatest)) list other known there) inside)
        (false_in (denying clause) other none l inside),
  )
  | inr all ↦
      let w = some_element (literal_value (denying clause)) clause (follows (denying clause) all) in
      absurd (false≢true (sym (denied clause lone w.0 w.1) ∙ w.2))
]
