-- A clause by its short form.
use Rattle.std.proofs.Common.{◌≡◌, ℕ, ◌+◌, ◌-◌, ◌/◌, ◌<◌, ◌≤◌, List, [], ◌∷◌, ◌++◌, length, get_or, All, Contains, sym, ap, ◌∙◌, subst, arith, inl, inr}
use Rattle.std.proofs.lemmas.Bool.{cases_lt}
use Rattle.std.proofs.lemmas.List.{get_or_append_left}
use Rattle.std.proofs.Math.Seq.{get_or-append_seam}
use Rattle.std.proofs.lemmas.List.Elements.{All-head, All-tail, All-nil}
use Rattle.cnf_base.specs.declared.literal.Literal.{Literal}
use Rattle.cnf_base.specs.Known.{IsKnown, AreKnown}
use Rattle.cnf_base.specs.Step.{clause_at}
use Rattle.log_checker.specs.Values.{letters_in}
use Rattle.log_checker.specs.Judging.{IsOutcome}
use Rattle.log_checker.specs.Shorts.{literal_of, IsShort, AreShorts}
use Rattle.log_checker.specs.declared.assignment.Truth.{Truth}
use Rattle.log_checker.specs.declared.outcome.ClauseStatus.TheVariants.{AllFalse}
use Rattle.log_checker.specs.declared.stored.Short.{Short}
use Rattle.log_checker.proofs.Named.{known_within, clause_known}

-- one more short form
pub short_more : (shorts more : List Short) (s : Short) (clauses : List (List Literal)) (n : ℕ) → length shorts ≡ n → more ≡ shorts ++ s ∷ []
    → ((k : ℕ) (d : Short) → k < n → IsShort (get_or shorts k d) (get_or clauses k [])) → IsShort s (get_or clauses n [])
    → (k : ℕ) (d : Short) → k < n + 1 → IsShort (get_or more k d) (get_or clauses k [])
short_more shorts more s clauses n size pushed each is k d low =
    elim (cases_lt k n) [
      | inl early ↦ subst (λ t. IsShort t (get_or clauses k []))
          (sym (ap (λ xs. get_or xs k d) pushed ∙ get_or_append_left shorts (s ∷ []) d k (omega (arith, size, early)))) (each k d early)
      | inr late ↦
          let here : k ≡ n = omega (arith, late, low) in
          let last : get_or more k d ≡ s =
          ap (λ xs. get_or xs k d) pushed ∙ ap (λ i. get_or (shorts ++ s ∷ []) i d) (here ∙ sym size) ∙ get_or-append_seam shorts s [] d in
          subst (λ t. IsShort t (get_or clauses k [])) (sym last) (subst (λ i. IsShort s (get_or clauses i [])) (sym here) is)
    ]

-- what is nothing is all false
pub all_false : (falses : List Literal) → IsOutcome falses [] AllFalse
all_false falses = All-nil (λ l. Contains falses l)

module _ (values : List Truth) (clauses : List (List Literal)) (number : ℕ) (known : AreKnown (letters_in values) clauses) (low : 1 ≤ number)
    (high : number ≤ length clauses) where
  known_as : (ls : List Literal) → clause_at clauses number ≡ ls → All (IsKnown (letters_in values)) ls
  known_as ls is = subst (All (IsKnown (letters_in values))) is (clause_known (letters_in values) clauses number known low high)

  pub first_known : (a : ℕ) (ls : List Literal) → clause_at clauses number ≡ literal_of a ∷ ls → a / 2 < length values
  first_known a ls is = known_within values (literal_of a) (All-head (IsKnown (letters_in values)) (literal_of a) ls (known_as (literal_of a ∷ ls) is))

  pub second_known : (a b : ℕ) (ls : List Literal) → clause_at clauses number ≡ literal_of a ∷ literal_of b ∷ ls → b / 2 < length values
  second_known a b ls is =
      known_within values (literal_of b) (All-head (IsKnown (letters_in values)) (literal_of b) ls
      (All-tail (IsKnown (letters_in values)) (literal_of a) (literal_of b ∷ ls) (known_as (literal_of a ∷ literal_of b ∷ ls) is)))

  pub third_known : (a b c : ℕ) → clause_at clauses number ≡ literal_of a ∷ literal_of b ∷ literal_of c ∷ [] → c / 2 < length values
  third_known a b c is =
      let known_all = All-tail (IsKnown (letters_in values)) (literal_of a) (literal_of b ∷ literal_of c ∷ [])
      (known_as (literal_of a ∷ literal_of b ∷ literal_of c ∷ []) is) in
      known_within values (literal_of c)
      (All-head (IsKnown (letters_in values)) (literal_of c) [] (All-tail (IsKnown (letters_in values)) (literal_of b) (literal_of c ∷ []) known_all))

-- the clause is what its short form says
pub said : (shorts : List Short) (clauses : List (List Literal)) (number : ℕ) (s d : Short) → AreShorts shorts clauses → 1 ≤ number → number ≤ length clauses
    → get_or shorts (number - 1) d ≡ s → IsShort s (clause_at clauses number)
said shorts clauses number s d are low high is = subst (λ t. IsShort t (clause_at clauses number)) is (are.each (number - 1) d (omega (arith, low, high)))
