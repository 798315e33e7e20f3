-- A verdict of UNSAT has a refutation: what each target says follows from the clause list, and is reached behind the lines to the targets before it.
use Rattle.std.proofs.Common.{◌≡◌, ℕ, zero, suc, ◌<◌, ◌≤◌, inl, inr, Bool, true, false, not, ◌||◌, List, [], ◌∷◌, ◌++◌, length, length-append, get_or, All}
use Rattle.std.proofs.Common.{Contains, Some, refl, sym, ap, ap₂, subst, ◌∙◌, arith}
use mathlib.Core.Bool.{false≢true}
use Rattle.std.proofs.lemmas.Bool.{cases_lt}
use Rattle.std.proofs.lemmas.List.{get_or_append_left, get_or_at}
use Rattle.std.proofs.lemmas.List.Elements.{All-nil, All-cons, All-contains_itself}
use Rattle.ltl_syntax.specs.declared.node.Kind.{Kind}
use Rattle.ltl_syntax.specs.Formula.{Formula}
use Rattle.ltl_closure.specs.Run.{IsVerdict, no_run, all_pruned, Unsat, HasRun, HasAccepted, HasUnpruned}
use Rattle.cnf_base.specs.declared.literal.Literal.{Literal as Signed}
use Rattle.cnf_base.specs.Literal.{opposite}
use Rattle.cnf_base.specs.Step.{numbered, HasNoPair}
use Rattle.cnf_base.specs.Known.{IsKnown, AreKnown}
use Rattle.cnf_base.specs.Meaning.{Satisfies, clause_value}
use Rattle.clause_log.specs.LogValue.{greatest_u32}
use Rattle.derivation.specs.Steps.{DerivationValue, AreSteps}
use Rattle.derivation.proofs.Renaming.{Contains-cases, Contains-nil}
use Rattle.enc_layout.specs.Letters.{Meaning, Unpruned, Here, Accepted, IsLetter, letters_through}
use Rattle.enc_layout.specs.Clauses.{counts, number_in, clause_list}
use Rattle.enc_layout.specs.Assigned.{states_of}
use Rattle.enc_layout.specs.Targets.{negative_of, IsTarget, CloseTableau}
use Rattle.enc_layout.proofs.Numbering.{list_range}
use Rattle.enc_layout.proofs.Numbers.{number_within}
use Rattle.enc_layout.proofs.Questions.{run_from, accepted_from, unpruned_from}
use Rattle.completeness.specs.Reaching.{Follows, Reaches}
use Rattle.completeness.specs.Refuted.{RefutationIsThere}
use Rattle.completeness.proofs.Reaching.{steps_are_complete}

-- ---- what a verdict says of each depth

no_more : (f : Formula) (kind : Kind) (limit k : ℕ) → IsVerdict f kind limit (Unsat k)
    → ((i : ℕ) → i ≤ k → HasAccepted f kind i → ⊥) × (HasUnpruned f kind k → ⊥)
no_more f kind limit k (no_run low before none) = (
  λ i le has. elim (cases_lt i k) [
    | inl less ↦ (before i less).rejected has
    | inr more ↦ let same : i ≡ k = omega arith in none (subst (HasRun f) same (has.0, has.1))
  ],
  λ has. none (has.0, has.1),
)
no_more f kind limit k (all_pruned low before none pruned) = (
  λ i le has. elim (cases_lt i k) [
    | inl less ↦ (before i less).rejected has
    | inr more ↦ let same : i ≡ k = omega arith in none (subst (HasAccepted f kind) same has)
  ],
  pruned,
)

-- ---- a target that stays one

pub target_stays : (lines new : List (List Signed)) (targets : List ℕ) (number i : ℕ) (literals : List Signed) → i < length targets
    → ((m : ℕ) (line : List Signed) → numbered lines m ≡ Some line → numbered new m ≡ Some line) → IsTarget lines targets i literals
    → IsTarget new (targets ++ number ∷ []) i literals
target_stays lines new targets number i literals lt keeps t = (
  t.0,
  subst (λ m. numbered new m ≡ Some t.0) (sym (get_or_append_left targets (number ∷ []) 0 i lt)) (keeps (get_or targets i 0) t.0 t.1),
  t.2,
)

pub target_last : (new : List (List Signed)) (targets : List ℕ) (number i : ℕ) (line literals : List Signed) → length targets ≡ i
    → numbered new number ≡ Some line → All (Contains literals) line → IsTarget new (targets ++ number ∷ []) i literals
target_last new targets number i line literals at is all =
    (line, subst (λ m. numbered new m ≡ Some line) (sym (get_or_at targets number [] 0 i at)) is, all)

own_last : (new : List (List Signed)) (targets : List ℕ) (number i : ℕ) (literals : List Signed) → length targets ≡ i
    → numbered new number ≡ Some literals → IsTarget new (targets ++ number ∷ []) i literals
own_last new targets number i literals at is = target_last new targets number i literals literals at is (All-contains_itself literals)

module _ (f : Formula) (kind : Kind) (k : ℕ) (few : letters_through kind (counts f) k ≤ greatest_u32) where
  abbrev list : List (List Signed)
  list = clause_list f kind k

  abbrev greatest : ℕ
  greatest = letters_through kind (counts f) k

  -- that not both letters are true
  abbrev deny : Meaning → Meaning → List Signed
  deny p q = negative_of f kind p ∷ negative_of f kind q ∷ []

  pub list_known : AreKnown greatest list
  list_known i a low j b below = let it = list_range f kind k i a low j b below in record { from_one = omega (arith, it.0); within = it.1 }

  each_negated : (p q : Meaning) (l : Signed) → Contains (deny p q) l → l.negated ≡ true
  each_negated p q l c = elim (Contains-cases (negative_of f kind p) l (negative_of f kind q ∷ []) c) [
    | inl e ↦ ap (λ (x : Signed). x.negated) (sym e)
    | inr more ↦ elim (Contains-cases (negative_of f kind q) l [] more) [
      | inl e ↦ ap (λ (x : Signed). x.negated) (sym e)
      | inr none ↦ absurd (Contains-nil l none)
    ]
  ]

  deny_lone : (p q : Meaning) → HasNoPair (deny p q)
  deny_lone p q l one other = false≢true (sym (ap not (each_negated p q l one)) ∙ each_negated p q (opposite l) other)

  letter_known : (p : Meaning) → IsLetter kind (counts f) k p → IsKnown greatest (negative_of f kind p)
  letter_known p is = let w = number_within kind (counts f) k p is in record { from_one = omega (arith, w.0); within = w.1 }

  deny_known : (p q : Meaning) → IsLetter kind (counts f) k p → IsLetter kind (counts f) k q → All (IsKnown greatest) (deny p q)
  deny_known p q is also =
      All-cons (IsKnown greatest) (negative_of f kind p) (negative_of f kind q ∷ []) (letter_known p is)
      (All-cons (IsKnown greatest) (negative_of f kind q) [] (letter_known q also) (All-nil (IsKnown greatest)))

  -- what no assignment makes true together is denied
  deny_follows : (p q : Meaning)
      → ((v : ℕ → Bool) → Satisfies v list → v (number_in f kind p) ≡ true → v (number_in f kind q) ≡ true → ⊥) → Follows list (deny p q)
  deny_follows p q never v holds = go (v (number_in f kind p)) (v (number_in f kind q)) refl refl
    where
      go : (a b : Bool) → v (number_in f kind p) ≡ a → v (number_in f kind q) ≡ b → clause_value v (deny p q) ≡ true
      go true true e e' = absurd (never v holds e e')
      go false b e e' = ap (λ x. not x || (not (v (number_in f kind q)) || false)) e
      go true false e e' = ap₂ (λ x y. not x || (not y || false)) e e'

  reach : (p q : Meaning) (d : DerivationValue) → IsLetter kind (counts f) k p → IsLetter kind (counts f) k q → Follows list (deny p q)
      → AreSteps list d → AreKnown greatest d.lines → Reaches list greatest d (deny p q)
  reach p q d is also follows are letters =
      steps_are_complete list greatest d (deny p q) few list_known are letters (deny_known p q is also) (deny_lone p q) follows

  module _ (rejected : (i : ℕ) → i ≤ k → HasAccepted f kind i → ⊥) (pruned : HasUnpruned f kind k → ⊥) where
    -- the first j targets
    record Closed (j : ℕ) : Type 0 where
      log : DerivationValue
      targets : List ℕ
      steps : AreSteps list log
      letters : AreKnown greatest log.lines
      count : length targets ≡ j
      each : (i : ℕ) → i < j → IsTarget log.lines targets i (deny (Here i) (Accepted i))

    closed : (j : ℕ) → j ≤ suc k → Closed j
    closed zero le = record {
      log = record { lines = []; hints = [] };
      targets = [];
      steps = record { paired = refl; steps = λ i lt. absurd (omega arith) };
      letters = All-nil (All (IsKnown greatest));
      count = refl;
      each = λ i lt. absurd (omega arith);
    }
    closed (suc j) le =
        let within : j ≤ k = omega arith in
        let before = closed j (omega arith) in
        let never : Follows list (deny (Here j) (Accepted j)) =
        deny_follows (Here j) (Accepted j) (λ v holds here also.
        rejected j within (states_of f kind v, run_from f kind k j v within holds here, accepted_from f kind k j v within holds also)) in
        let r = reach (Here j) (Accepted j) before.log within within never before.steps before.letters in
        let count = before.count in record {
          log = r.new;
          targets = before.targets ++ r.number ∷ [];
          steps = r.steps;
          letters = r.letters;
          count = omega (arith, length-append before.targets (r.number ∷ []), count);
          each = λ i lt. elim (cases_lt i j) [
            | inl less ↦ target_stays before.log.lines r.new.lines before.targets r.number i (deny (Here i) (Accepted i)) (omega arith) r.keeps
                (before.each i less)
            | inr more ↦
                let same : j ≡ i = omega arith in
                subst (λ n. IsTarget r.new.lines (before.targets ++ r.number ∷ []) n (deny (Here n) (Accepted n))) same
                (own_last r.new.lines before.targets r.number j (deny (Here j) (Accepted j)) count r.is)
          ];
        }

    refuted : (log : DerivationValue) × (targets : List ℕ) × AreSteps list log × AreKnown greatest log.lines × CloseTableau f kind k log.lines targets
    refuted =
        let here : k ≤ k = omega arith in
        let before = closed (suc k) (omega arith) in
        let never : Follows list (deny (Here k) Unpruned) =
        deny_follows (Here k) Unpruned (λ v holds there also.
        pruned (states_of f kind v, run_from f kind k k v here holds there, unpruned_from f kind k v holds also)) in
        let r = reach (Here k) Unpruned before.log here tt never before.steps before.letters in
        let count = before.count in (
          r.new,
          before.targets ++ r.number ∷ [],
          r.steps,
          r.letters,
          record {
            count = omega (arith, length-append before.targets (r.number ∷ []), count);
            accepted = λ i le. target_stays before.log.lines r.new.lines before.targets r.number i (deny (Here i) (Accepted i)) (omega arith) r.keeps
                (before.each i (omega arith));
            unpruned = own_last r.new.lines before.targets r.number (suc k) (deny (Here k) Unpruned) count r.is;
          },
        )

pub refutation_is_there : RefutationIsThere
refutation_is_there f kind limit k few h = let none = no_more f kind limit k h in refuted f kind k few none.0 none.1
