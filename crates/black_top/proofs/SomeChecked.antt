-- `check` has an answer: a text has a form fault or says a certificate, and of that there is a first bad line or none, and a first bad target or none.
use Rattle.std.proofs.Common.{◌≡◌, ◌≢◌, ◌∙◌, ℕ, zero, suc, ◌+◌, ◌<◌, ◌≤◌, ◌⊎◌, inl, inr, Bool, true, false, List, [], ◌∷◌, get_or, All, Contains, Option, Some}
use Rattle.std.proofs.Common.{None, refl, sym, ap₂, subst, arith}
use Rattle.std.proofs.lemmas.Bool.{cases_lt}
use Rattle.std.proofs.lemmas.List.Elements.{All-nil, All-cons, All-head, All-tail}
use native.Mathlib.Decide.{dec_le}
use Rattle.ltl_syntax.specs.declared.node.Kind.{Kind}
use Rattle.ltl_syntax.specs.declared.node.Kind.TheVariants as kinds
use Rattle.ltl_syntax.specs.Formula.{Formula}
use Rattle.ltl_syntax.specs.Size.{formula_size}
use Rattle.cnf_base.specs.declared.literal.Literal.{Literal}
use Rattle.enc_layout.specs.Letters.{letters_through}
use Rattle.enc_layout.specs.Clauses.{counts, clause_list}
use Rattle.enc_layout.specs.Limit.{IsInForce}
use Rattle.cert_text.specs.Text.{Certificate, IsTextOf}
use Rattle.cert_text.specs.Live.{live_line}
use Rattle.cert_text.specs.Laws.{OthersHaveOne}
use Rattle.log_checker.specs.Judging.{IsFirstBad, IsFirstBadLine}
use Rattle.log_checker.specs.Laws.{FirstBadIsThere}
use Rattle.cert_check.specs.Lawful.{target_literals, IsGoodTarget}
use Rattle.cert_check.specs.Answer.{Answer as CheckAnswer, FormFault, OtherKind, TooManyLetters, BadLine, BadTarget, Verified, HasFewLetters, AreGoodLines}
use Rattle.cert_check.specs.Answer.{IsAnswer, AllGoodIsVerified}
use Rattle.core_extract.specs.Laws.{LimitIsThere}
use Rattle.black_top.specs.Check.{shown_of, IsChecked}
use Rattle.black_top.proofs.SomeBatched.{same_number}
use Rattle.black_top.proofs.Parted.{HasSome}

-- ---- the first bad place

pub first_or_none : (Good : ℕ → Type 0) → ((k : ℕ) → Good k ⊎ ¬ Good k) → (n : ℕ) → (o : Option ℕ) × IsFirstBad Good 0 n o
first_or_none Good decide zero = (None, λ k above low. absurd (omega arith))
first_or_none Good decide (suc n) = by (first_or_none Good decide n) (decide n)
  where
    each : ((k : ℕ) → 0 ≤ k → k < n → Good k) → Good n → (k : ℕ) → 0 ≤ k → k < suc n → Good k
    each good here k above low = elim (cases_lt k n) [
      | inl less ↦ good k above less
      | inr more ↦ let same : n ≡ k = omega arith in subst Good same here
    ]

    by : (o : Option ℕ) × IsFirstBad Good 0 n o → Good n ⊎ ¬ Good n → (o : Option ℕ) × IsFirstBad Good 0 (suc n) o
    by (Some k, is) b = let low = is.1 in (Some k, (omega arith, omega arith, is.2, is.3))
    by (None, is) (inl here) = (None, each is here)
    by (None, is) (inr bad) = (Some n, (omega arith, omega arith, bad, is))

-- ---- targets

same_sign : (a b : Bool) → (a ≡ b) ⊎ (a ≢ b)
same_sign true true = inl refl
same_sign true false = inr (λ e. cc)
same_sign false true = inr (λ e. cc)
same_sign false false = inl refl

same_literal : (a b : Literal) → (a ≡ b) ⊎ (a ≢ b)
same_literal a b =
    let make : ℕ → Bool → Literal = λ x n. record { letter = record { 0 = x }; negated = n } in
    elim (same_number a.letter.0 b.letter.0) [
      | inr n ↦ inr (λ e. n (cc))
      | inl e ↦ elim (same_sign a.negated b.negated) [
        | inr n ↦ inr (λ e. n (cc))
        | inl f ↦ inl (ap₂ make e f)
      ]
    ]

not_there : (x l : Literal) (xs : List Literal) → x ≢ l → ¬ Contains xs l → ¬ Contains (x ∷ xs) l
not_there x l xs other none (zero, lt, e) = other e
not_there x l xs other none (suc k, lt, e) = none (k, omega arith, e)

contains_or_not : (xs : List Literal) (l : Literal) → Contains xs l ⊎ ¬ Contains xs l
contains_or_not [] l = inr (λ (k, lt, e). absurd (omega arith))
contains_or_not (x ∷ xs) l = elim (same_literal x l) [
  | inl e ↦ inl (zero, omega arith, e)
  | inr other ↦ elim (contains_or_not xs l) [
    | inl w ↦ let low = w.1 in inl (suc w.0, omega arith, w.2)
    | inr none ↦ inr (not_there x l xs other none)
  ]
]

all_or_not : (lits line : List Literal) → All (Contains lits) line ⊎ ¬ All (Contains lits) line
all_or_not lits [] = inl (All-nil (Contains lits))
all_or_not lits (l ∷ line) = elim (contains_or_not lits l) [
  | inr none ↦ inr (λ h. none (All-head (Contains lits) l line h))
  | inl here ↦ elim (all_or_not lits line) [
    | inl rest ↦ inl (All-cons (Contains lits) l line here rest)
    | inr none ↦ inr (λ h. none (All-tail (Contains lits) l line h))
  ]
]

target_or_not : (f : Formula) (c : Certificate) (i : ℕ) → IsGoodTarget f c i ⊎ ¬ IsGoodTarget f c i
target_or_not f c i = by (live_line c.parts (get_or c.targets i 0)) refl
  where
    bad : (line : List Literal) → live_line c.parts (get_or c.targets i 0) ≡ Some line → ¬ All (Contains (target_literals f c.kind c.depth i)) line
        → ¬ IsGoodTarget f c i
    bad line e none (other, is, all) =
        let both : Some line ≡ Some other = sym e ∙ is in
        let same : other ≡ line = cc in
        none (subst (All (Contains (target_literals f c.kind c.depth i))) same all)

    by : (o : Option (List Literal)) → live_line c.parts (get_or c.targets i 0) ≡ o → IsGoodTarget f c i ⊎ ¬ IsGoodTarget f c i
    by None e = inr (λ (other, is, all). let both : None ≡ Some other = sym e ∙ is in cc)
    by (Some line) e = elim (all_or_not (target_literals f c.kind c.depth i) line) [
      | inl all ↦ inl (line, e, all)
      | inr none ↦ inr (bad line e none)
    ]

-- ---- the answer

same_kind : (a b : Kind) → (a ≡ b) ⊎ (a ≢ b)
same_kind kinds.Infinite kinds.Infinite = inl refl
same_kind kinds.Infinite kinds.Finite = inr (λ e. cc)
same_kind kinds.Finite kinds.Infinite = inr (λ e. cc)
same_kind kinds.Finite kinds.Finite = inl refl

-- what is known of the texts of certificates and of checks
pub record CheckLaws : Type 0 where
  pub texts : OthersHaveOne
  pub first : FirstBadIsThere
  pub good : AllGoodIsVerified
  pub limit : LimitIsThere

module _ (laws : CheckLaws) (f : Formula) (few : formula_size f ≤ 16384) (kind : Kind) (text : List ℕ) where
  abbrev IsFound : Type 0
  IsFound = (a : CheckAnswer) × IsAnswer f kind text a

  module _ (c : Certificate) (is : IsTextOf text c) (e : c.kind ≡ kind) where
    by_targets : HasFewLetters f c → AreGoodLines f c → (o : Option ℕ) → IsFirstBad (IsGoodTarget f c) 0 (c.depth + 2) o → IsFound
    by_targets fits lines (Some i) bad = (BadTarget (suc i), (c, is, e, fits, lines, i, refl, bad))
    by_targets fits lines None good = (Verified, laws.good f kind text c is e fits lines good)

    by_lines : HasFewLetters f c → (o : Option ℕ)
        → IsFirstBadLine (clause_list f c.kind c.depth) (letters_through c.kind (counts f) c.depth) c.parts o → IsFound
    by_lines fits (Some k) bad = (BadLine (suc k), (c, is, e, fits, k, refl, bad))
    by_lines fits None good = let w = first_or_none (IsGoodTarget f c) (target_or_not f c) (c.depth + 2) in by_targets fits good w.0 w.1

    of_kind : IsFound
    of_kind = elim (dec_le (letters_through c.kind (counts f) c.depth) 16777216) [
      | no none ↦
          let limit = laws.limit f c.kind c.depth few in
          (TooManyLetters limit.0, (c, is, e, none, subst (λ k. IsInForce f k c.depth limit.0) e limit.1))
      | yes fits ↦
          let w = laws.first (clause_list f c.kind c.depth) (letters_through c.kind (counts f) c.depth) c.parts in
          by_lines fits w.0 w.1
    ]

  some_found : IsFound
  some_found = elim (laws.texts text) [
    | inr w ↦ (FormFault w.0, w.1)
    | inl (c, is) ↦ elim (same_kind c.kind kind) [
      | inr other ↦ (OtherKind, (c, is, other))
      | inl e ↦ of_kind c is e
    ]
  ]

pub some_checked : CheckLaws → (kind : Kind) → HasSome (IsChecked kind)
some_checked laws kind part text f read = let w = some_found laws f read.few kind text in (shown_of w.0, record { found = w.0; is = w.1; shown = refl })
