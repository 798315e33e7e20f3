-- The claims of a lawful layer hold at each state of a sequence.
use Rattle.std.proofs.Common.{◌≡◌, ℕ, zero, suc, ◌+◌, ◌-◌, ◌*◌, ◌<◌, ◌≤◌, Bool, true, false, not, IsTrue, ◌⊎◌, inl, inr, sym, ap, subst, ◌∙◌, arith, List, []}
use Rattle.std.proofs.Common.{◌∷◌, ◌++◌, length, Some, None, Option, Contains}
use Rattle.std.proofs.lemmas.Bool.{cases_lt}
use Rattle.std.proofs.lemmas.List.Elements.{All-append, Contains-get_or}
use Rattle.ltl_syntax.specs.declared.node.Kind.{Kind}
use Rattle.ltl_syntax.specs.declared.node.Kind.TheVariants as Kinds
use Rattle.ltl_syntax.specs.Formula.{Formula}
use Rattle.cnf_base.specs.declared.literal.Literal.{Literal as Signed}
use Rattle.cnf_base.specs.Meaning.{Satisfies, literal_value, clause_value}
use Rattle.ltl_closure.specs.Norm.{Norm, NConst}
use Rattle.ltl_closure.specs.Closure.{eventualities}
use Rattle.ltl_closure.specs.Run.{States, request_of, right_of, is_pending, is_fulfilled}
use Rattle.ltl_closure.proofs.Lists.{Contains-nil, Contains-cons_cases}
use Rattle.ltl_closure.proofs.Known.{eventuality_in}
use Rattle.enc_layout.specs.Clauses.{eventuality}
use Rattle.enc_layout.specs.Targets.{IsTarget}
use Rattle.enc_layout.proofs.Carries.{right_in}
use Rattle.enc_layout.proofs.Writing.{request_in}
use Rattle.claims.specs.Between.{width, step_list, greatest}
use Rattle.claims.specs.Certificate.{Layer, claim_at, clauses_of, lines_of, next_claims}
use Rattle.claims.specs.Lawful.{AreTargets, ArePairedTargets, IsBase, IsLawfulLayer, not_after, not_last, pending, not_fulfilled}
use Rattle.claims.specs.Sequences.{IsFirst, AreLinked, IsLast, IsMet, value_at, step_values}
use Rattle.claims.proofs.Values.{entry_next, after_value, last_value}
use Rattle.claims.proofs.Stepping.{step_true}
use Rattle.claims.proofs.Following.{steps_follow, claim_or_other, claim_here, claims_next, each_claim}

pub clash : (a : Bool) → a ≡ true → not a ≡ true → ⊥
clash a h k = cc

-- one other literal, or two
pub one_other : (v : ℕ → Bool) (a : Signed) → (l : Signed) × Contains (a ∷ []) l × (literal_value v l ≡ true) → literal_value v a ≡ true
one_other v a w = elim (Contains-cons_cases a [] w.0 w.1) [
  | inl e ↦ subst (λ l. literal_value v l ≡ true) (sym e) w.2
  | inr n ↦ absurd (Contains-nil w.0 n)
]

two_others : (v : ℕ → Bool) (a b : Signed) → (l : Signed) × Contains (a ∷ b ∷ []) l × (literal_value v l ≡ true)
    → (literal_value v a ≡ true) ⊎ (literal_value v b ≡ true)
two_others v a b w = elim (Contains-cons_cases a (b ∷ []) w.0 w.1) [
  | inl e ↦ inl (subst (λ l. literal_value v l ≡ true) (sym e) w.2)
  | inr r ↦ inr (one_other v b (w.0, r, w.2))
]

-- which states of a sequence have a next one, and which are marked as a first or a last one
pub record Marks (f : Formula) (u : States) : Type 0 where
  pub has_next : ℕ → Bool
  pub is_first : ℕ → Bool
  pub is_last : ℕ → Bool
  pub linked : (i : ℕ) → IsTrue (has_next i) → AreLinked f (u i) (u (suc i))
  pub firsts : (i : ℕ) → IsTrue (is_first i) → IsFirst f (u i)
  pub lasts : (i : ℕ) → IsTrue (is_last i) → IsLast f (u i)

module _ (f : Formula) (u : States) (marks : Marks f u) where
  -- the values of the letters of the step from state i
  abbrev pub at : ℕ → ℕ → Bool
  at i = step_values f (u i) (u (suc i)) (marks.has_next i) (marks.is_first i) (marks.is_last i)

  pub list_true : (i : ℕ) → Satisfies (at i) (step_list f)
  list_true i =
      step_true f (u i) (u (suc i)) (marks.has_next i) (marks.is_first i) (marks.is_last i) (marks.linked i) (marks.firsts i) (marks.lasts i)

  -- how a sequence of the kind goes on
  abbrev pub Goes : Kind → Type 0
  Goes Kinds.Infinite =
      ((i : ℕ) → IsTrue (marks.has_next i)) × ((e : Norm) → Contains (eventualities f) e → (i : ℕ) → (j : ℕ) × (i < j) × IsMet (u j) e)
  Goes Kinds.Finite = (k : ℕ) × ((i : ℕ) → i < k → IsTrue (marks.has_next i)) × ((i : ℕ) → k ≤ i → IsTrue (marks.is_last i))

  abbrev pub Holds : Layer → ℕ → Type 0
  Holds layer i = Satisfies (value_at f (u i)) layer.claims

  after_here : (i : ℕ) → IsTrue (marks.has_next i) → literal_value (at i) (not_after f) ≡ true → ⊥
  after_here i h l =
      clash (marks.has_next i) h (ap not (sym (after_value f (u i) (u (suc i)) (marks.has_next i) (marks.is_first i) (marks.is_last i))) ∙ l)

  last_here : (i : ℕ) → IsTrue (marks.is_last i) → literal_value (at i) (not_last f) ≡ true → ⊥
  last_here i h l =
      clash (marks.is_last i) h (ap not (sym (last_value f (u i) (u (suc i)) (marks.has_next i) (marks.is_first i) (marks.is_last i))) ∙ l)

  module _ (kind : Kind) (clauses lines : List (List Signed)) (layer : Layer)
      (clauses_hold : (i : ℕ) → Satisfies (at i) clauses) (lines_hold : (i : ℕ) → Satisfies (at i) lines)
      (lawful : IsLawfulLayer f kind clauses lines layer) where
    abbrev P : ℕ → List Signed → Type 0
    P i c = clause_value (at i) c ≡ true

    -- the lines before those of the step
    abbrev early : List (List Signed)
    early = lines ++ clauses_of layer.base_lines

    base_true : (i : ℕ) → Satisfies (at i) (clauses_of layer.base_lines)
    base_true i = steps_follow (at i) clauses lines (greatest f) layer.base_lines (clauses_hold i) (lines_hold i) lawful.base_lines

    early_true : (i : ℕ) → Satisfies (at i) early
    early_true i = All-append (P i) lines (clauses_of layer.base_lines) (lines_hold i) (base_true i)

    next_true : (i : ℕ) → Holds layer (suc i) → Satisfies (at i) (next_claims (width f) layer)
    next_true i h = claims_next f (u i) (u (suc i)) (marks.has_next i) (marks.is_first i) (marks.is_last i) layer lawful.claims h

    step_lines_true : (i : ℕ) → Holds layer (suc i) → Satisfies (at i) (clauses_of layer.step_lines)
    step_lines_true i h = steps_follow (at i) (clauses ++ next_claims (width f) layer) early (greatest f) layer.step_lines
        (All-append (P i) clauses (next_claims (width f) layer) (clauses_hold i) (next_true i h)) (early_true i) lawful.step_lines

    -- the lines of the layer, where its claims hold at the next state
    pub own_lines : (i : ℕ) → Holds layer (suc i) → Satisfies (at i) (lines_of layer)
    own_lines i h = All-append (P i) (clauses_of layer.base_lines) (clauses_of layer.step_lines) (base_true i) (step_lines_true i h)

    -- a claim from the value that the step gives it
    claim_true : (i q : ℕ) → q < length layer.claims → clause_value (at i) (claim_at layer q) ≡ true
        → clause_value (value_at f (u i)) (claim_at layer q) ≡ true
    claim_true i q lt h =
        sym (claim_here f (u i) (u (suc i)) (marks.has_next i) (marks.is_first i) (marks.is_last i) (claim_at layer q) (lawful.claims q [] lt)) ∙ h

    -- the claims hold where one other literal is false
    by_targets : (i : ℕ) (known : List (List Signed)) (targets : List ℕ) (other : Signed) → Satisfies (at i) known
        → AreTargets known layer targets (other ∷ []) → (literal_value (at i) other ≡ true → ⊥) → Holds layer i
    by_targets i known targets other holds are off = each_claim (value_at f (u i)) layer (λ q lt.
        elim (claim_or_other (at i) known targets q (claim_at layer q) (other ∷ []) holds (are q lt)) [
          | inl h ↦ claim_true i q lt h
          | inr w ↦ absurd (off (one_other (at i) other w))
        ])

    -- from a state to the one before it
    holds_before : (i : ℕ) → IsTrue (marks.has_next i) → Holds layer (suc i) → Holds layer i
    holds_before i more h =
        by_targets i (early ++ clauses_of layer.step_lines) layer.step_targets (not_after f)
        (All-append (P i) early (clauses_of layer.step_lines) (early_true i) (step_lines_true i h)) lawful.step (after_here i more)

    down : (d i j : ℕ) → j ≡ i + d → ((n : ℕ) → n < j → IsTrue (marks.has_next n)) → Holds layer j → Holds layer i
    down zero i j e more h = let same : j ≡ i = omega arith in subst (Holds layer) same h
    down (suc d) i j e more h = holds_before i (more i (omega arith)) (down d (suc i) j (omega arith) more h)

    abbrev Paired : ℕ → Type 0
    Paired m = ArePairedTargets early layer layer.base_targets (not_after f ∷ pending f m ∷ []) (not_after f ∷ not_fulfilled f m ∷ [])

    -- the claims hold before a state that meets the eventuality
    module _ (m : ℕ) (some : m < length (eventualities f)) (paired : Paired m) where
      abbrev e : Norm
      e = eventuality f m

      there : Contains (eventualities f) e
      there = Contains-get_or (eventualities f) m (NConst false) some

      pending_is : (i : ℕ) → literal_value (at i) (pending f m) ≡ is_pending (u (suc i)) e
      pending_is i = entry_next f (u i) (u (suc i)) (marks.has_next i) (marks.is_first i) (marks.is_last i) (request_of e) (request_in f e there)

      fulfilled_is : (i : ℕ) → literal_value (at i) (not_fulfilled f m) ≡ not (is_fulfilled (u (suc i)) e)
      fulfilled_is i =
          let right = right_in f e (eventuality_in f e there) in
          ap not (entry_next f (u i) (u (suc i)) (marks.has_next i) (marks.is_first i) (marks.is_last i) (right_of e) right)

      -- of two literals that a target may have, the one that is not that of the next state
      second : (i : ℕ) (other : Signed) → IsTrue (marks.has_next i) → (l : Signed) × Contains (not_after f ∷ other ∷ []) l × (literal_value (at i) l ≡ true)
          → literal_value (at i) other ≡ true
      second i other more w = elim (two_others (at i) (not_after f) other w) [ inl n ↦ absurd (after_here i more n) | inr a ↦ a ]

      -- the claim holds, or this literal is true
      or_literal : (i q n : ℕ) (other : Signed) → IsTrue (marks.has_next i) → IsTarget early layer.base_targets n (claim_at layer q ++ not_after f ∷ other ∷ [])
          → (clause_value (at i) (claim_at layer q) ≡ true) ⊎ (literal_value (at i) other ≡ true)
      or_literal i q n other more is =
          elim (claim_or_other (at i) early layer.base_targets n (claim_at layer q) (not_after f ∷ other ∷ []) (early_true i) is) [
            | inl c ↦ inl c
            | inr w ↦ inr (second i other more w)
          ]

      before_met : (i : ℕ) → IsTrue (marks.has_next i) → IsMet (u (suc i)) e → Holds layer i
      before_met i more met = each_claim (value_at f (u i)) layer (λ q lt.
          elim (or_literal i q (2 * q) (pending f m) more (paired.one q lt)) [
            | inl c ↦ claim_true i q lt c
            | inr waits ↦ elim (or_literal i q (2 * q + 1) (not_fulfilled f m) more (paired.other q lt)) [
              | inl c ↦ claim_true i q lt c
              | inr fails ↦ absurd (clash (is_fulfilled (u (suc i)) e) (met (sym (pending_is i) ∙ waits)) (sym (fulfilled_is i) ∙ fails))
            ]
          ])

    pub everywhere : (which : Option ℕ) → IsBase f kind early layer which → Goes kind → (i : ℕ) → Holds layer i
    everywhere which base goes i = go kind which base goes
      where
        late : (m : ℕ) → (m < length (eventualities f)) × Paired m → Goes Kinds.Infinite → (j : ℕ) → i < j → IsMet (u j) (eventuality f m) → Holds layer i
        late m base goes zero lt is = absurd (omega (arith, lt))
        late m base goes (suc j) lt is = down (j - i) i j (omega (arith, lt)) (λ n _. goes.0 n) (before_met m base.0 base.1 j (goes.0 j) is)

        go : (kind : Kind) (which : Option ℕ) → IsBase f kind early layer which → Goes kind → Holds layer i
        go Kinds.Finite None base goes = elim (cases_lt i goes.0) [
          | inl lt ↦ down (goes.0 - i) i goes.0 (omega (arith, lt)) (λ n less. goes.1 n less)
              (by_targets goes.0 early layer.base_targets (not_last f) (early_true goes.0) base (last_here goes.0 (goes.2 goes.0 (omega arith))))
          | inr ge ↦ by_targets i early layer.base_targets (not_last f) (early_true i) base (last_here i (goes.2 i ge))
        ]
        go Kinds.Finite (Some m) base goes = absurd base
        go Kinds.Infinite None base goes = by_targets i early layer.base_targets (not_after f) (early_true i) base (after_here i (goes.0 i))
        go Kinds.Infinite (Some m) base goes =
            let w = goes.1 (eventuality f m) (Contains-get_or (eventualities f) m (NConst false) base.0) i in
            late m base goes w.0 w.1 w.2
