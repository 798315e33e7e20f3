-- What follows from lines and targets, and what claims say of states.
use Rattle.std.proofs.Common.{◌≡◌, ℕ, zero, suc, ◌<◌, ◌≤◌, Bool, true, not, ◌||◌, ◌⊎◌, inl, inr, refl, ap, ap₂, ◌∙◌, arith, List, [], ◌∷◌, ◌++◌, length, map}
use Rattle.std.proofs.Common.{get_or, All, Contains, if◌then◌else◌}
use Rattle.std.specs.List.{AllByRecursion as Each}
use Rattle.std.proofs.lemmas.List.{get_or_default}
use Rattle.std.proofs.lemmas.List.Elements.{All-nil, All-cons, All-append, All-map, All-contains, Contains-append_cases, recursion_from_All}
use Rattle.std.proofs.lemmas.List.Folds.{list_any_at}
use Rattle.ltl_syntax.specs.Formula.{Formula}
use Rattle.cnf_base.specs.declared.literal.Literal.{Literal as Signed}
use Rattle.cnf_base.specs.Meaning.{Satisfies, literal_value, clause_value}
use Rattle.cnf_base.specs.Known.{IsKnown, AreKnown}
use Rattle.cnf_base.proofs.Soundness.{some_element, satisfied_number, hinted_step_follows}
use Rattle.ltl_closure.specs.Run.{RunState}
use Rattle.enc_layout.specs.Targets.{IsTarget}
use Rattle.claims.specs.Between.{width}
use Rattle.claims.specs.Certificate.{HintedLine, Layer, line_at, claim_at, first_clauses, clauses_of, at_next, next_claims}
use Rattle.claims.specs.Lawful.{AreHintedSteps}
use Rattle.claims.specs.Sequences.{value_at, step_values}
use Rattle.claims.proofs.Values.{value_here, value_next}

-- each line is true wherever the clauses and the earlier lines are
pub first_steps_follow : (v : ℕ → Bool) (clauses earlier : List (List Signed)) (greatest : ℕ) (lines : List HintedLine)
    → Satisfies v clauses → Satisfies v earlier → AreHintedSteps clauses earlier greatest lines
    → (k : ℕ) → k ≤ length lines → Satisfies v (first_clauses lines k)
first_steps_follow v clauses earlier greatest lines holds before steps zero le = All-nil (λ c. clause_value v c ≡ true)
first_steps_follow v clauses earlier greatest lines holds before steps (suc k) le =
    let P : List Signed → Type 0 = λ c. clause_value v c ≡ true in
    let those : Satisfies v (first_clauses lines k) = first_steps_follow v clauses earlier greatest lines holds before steps k (omega arith) in
    let it = hinted_step_follows v clauses (earlier ++ first_clauses lines k) greatest (line_at lines k).literals (line_at lines k).hints holds
    (All-append P earlier (first_clauses lines k) before those) (steps k (omega arith)) in
    All-append P (first_clauses lines k) ((line_at lines k).literals ∷ []) those (All-cons P (line_at lines k).literals [] it (All-nil P))

pub steps_follow : (v : ℕ → Bool) (clauses earlier : List (List Signed)) (greatest : ℕ) (lines : List HintedLine) → Satisfies v clauses → Satisfies v earlier
    → AreHintedSteps clauses earlier greatest lines → Satisfies v (clauses_of lines)
steps_follow v clauses earlier greatest lines holds before steps =
    first_steps_follow v clauses earlier greatest lines holds before steps (length lines) (omega arith)

-- a literal that a target may have is true
pub target_true : (v : ℕ → Bool) (lines : List (List Signed)) (targets : List ℕ) (i : ℕ) (literals : List Signed)
    → Satisfies v lines → IsTarget lines targets i literals → (l : Signed) × Contains literals l × (literal_value v l ≡ true)
target_true v lines targets i literals holds target =
    let truth = satisfied_number v lines (get_or targets i 0) target.0 holds target.1 in
    let w = some_element (literal_value v) target.0 truth in
    (w.0, All-contains (Contains literals) target.0 w.0 target.2 w.1, w.2)

some_true : (v : ℕ → Bool) (clause : List Signed) (l : Signed) → Contains clause l → literal_value v l ≡ true → clause_value v clause ≡ true
some_true v clause l there holds = list_any_at (literal_value v) clause there.0 l there.1 (ap (literal_value v) there.2 ∙ holds)

-- the claim is true, or one of the others is
pub claim_or_other : (v : ℕ → Bool) (lines : List (List Signed)) (targets : List ℕ) (i : ℕ) (claim others : List Signed)
    → Satisfies v lines → IsTarget lines targets i (claim ++ others)
    → (clause_value v claim ≡ true) ⊎ ((l : Signed) × Contains others l × (literal_value v l ≡ true))
claim_or_other v lines targets i claim others holds target =
    let w = target_true v lines targets i (claim ++ others) holds target in
    elim (Contains-append_cases claim others w.0 w.1) [
      | inl there ↦ inl (some_true v claim w.0 there w.2)
      | inr there ↦ inr (w.0, there, w.2)
    ]

module _ (v x : ℕ → Bool) (g : Signed → Signed) (w : ℕ) (same : (l : Signed) → IsKnown w l → literal_value v (g l) ≡ literal_value x l) where
  same_clause : (clause : List Signed) → Each (IsKnown w) clause → clause_value v (map g clause) ≡ clause_value x clause
  same_clause [] known = refl
  same_clause (l ∷ ls) known = ap₂ ◌||◌ (same l known.0) (same_clause ls known.1)

module _ (v x : ℕ → Bool) (w : ℕ) (same : (l : Signed) → IsKnown w l → literal_value v l ≡ literal_value x l) where
  own_clause : (clause : List Signed) → Each (IsKnown w) clause → clause_value v clause ≡ clause_value x clause
  own_clause [] known = refl
  own_clause (l ∷ ls) known = ap₂ ◌||◌ (same l known.0) (own_clause ls known.1)

module _ (f : Formula) (s u : RunState) (has_next is_first is_last : Bool) where
  abbrev V : ℕ → Bool
  V = step_values f s u has_next is_first is_last

  -- a claim at the state, and at the next one
  pub claim_here : (claim : List Signed) → All (IsKnown (width f)) claim → clause_value V claim ≡ clause_value (value_at f s) claim
  claim_here claim known = own_clause V (value_at f s) (width f)
      (λ l k. ap (λ b. if l.negated then not b else b) (value_here f s u has_next is_first is_last l.letter.0 k.within))
      claim (recursion_from_All (IsKnown (width f)) claim known)

  claim_next : (claim : List Signed) → All (IsKnown (width f)) claim → clause_value V (map (at_next (width f)) claim) ≡ clause_value (value_at f u) claim
  claim_next claim known = same_clause V (value_at f u) (at_next (width f)) (width f)
      (λ l k. ap (λ b. if l.negated then not b else b) (value_next f s u has_next is_first is_last l.letter.0 k.from_one k.within))
      claim (recursion_from_All (IsKnown (width f)) claim known)

  pub claims_here : (layer : Layer) → AreKnown (width f) layer.claims → Satisfies (value_at f s) layer.claims → Satisfies V layer.claims
  claims_here layer known holds k d lt = claim_here (get_or layer.claims k d) (known k d lt) ∙ holds k d lt

  pub claims_next : (layer : Layer) → AreKnown (width f) layer.claims → Satisfies (value_at f u) layer.claims → Satisfies V (next_claims (width f) layer)
  claims_next layer known holds = All-map (λ c. clause_value V c ≡ true) (map (at_next (width f))) layer.claims
      (λ k d lt. claim_next (get_or layer.claims k d) (known k d lt) ∙ holds k d lt)

-- claims that hold one by one
pub each_claim : (v : ℕ → Bool) (layer : Layer) → ((q : ℕ) → q < length layer.claims → clause_value v (claim_at layer q) ≡ true) → Satisfies v layer.claims
each_claim v layer each k d lt = ap (clause_value v) (get_or_default layer.claims k d [] lt) ∙ each k lt
