-- How a search begins, begins anew, and ends.
use Rattle.std.proofs.Common.{◌≡◌, ◌≢◌, ℕ, ◌<◌, ◌≤◌, ◌+◌, ◌*◌, ◌^◌, ◌⊎◌, inl, inr, [], ◌∷◌, List, All, AllPairs, Contains, Bool, false, true, take, length}
use Rattle.std.proofs.Common.{get_or, None, refl, sym, ap, ◌∙◌, subst, arith, length-take-le}
use Rattle.std.proofs.lemmas.Bool.{cases_lt, cases_eq}
use Rattle.std.proofs.lemmas.List.{get_or-take, get_or_append_left, get_or_at, length_push}
use Rattle.std.proofs.lemmas.List.Elements.{All-contains}
use Rattle.cnf_base.specs.declared.literal.Literal.{Literal}
use Rattle.cnf_base.specs.declared.literal.Hint.{Hint}
use Rattle.cnf_base.specs.Literal.{opposite}
use Rattle.cnf_base.specs.Step.{clause_at}
use Rattle.cnf_base.proofs.SameLiteral.{opposite_opposite}
use Rattle.clause_log.specs.LogValue.{with_line}
use Rattle.cdcl_state.specs.StateValue.{StateValue, with_log, with_all_lines, IsBack, Propagated}
use Rattle.cdcl_trail.specs.Trail.{literals_of, blank_entry, literal_at, IsDecision}
use Rattle.cdcl_state.specs.Turns.{IsFront, IsRefuted, IsTurn}
use Rattle.cdcl_analyze.specs.Analysis.{refuted_at}
use Rattle.cdcl_trail.specs.declared.assigned.TrailEntry.{TrailEntry}
use Rattle.cdcl_analyze.specs.declared.analyze.Learnt.{Learnt}
use Rattle.cdcl_trail.proofs.Measure.{measure, restart_falls}
use Rattle.cdcl_trail.proofs.Standing.{true_place}
use Rattle.cdcl.specs.Choice.{IsAssumedTop, IsFreeTop}
use Rattle.cdcl.specs.Solving.{IsAfter, IsRestarted, IsNegated, IsConsistent, IsLineOf, IsFound}
use Rattle.cdcl.specs.declared.solve.Answer.{Answer}
use Rattle.cdcl.specs.declared.solve.Answer.TheVariants.{Sat, Unsat}
use Rattle.cdcl.proofs.Search.{EachDecision, IsGuided, IsAssumed, HasNoNear, IsSearch, each_take, each_forced, assumed_negated, after_none, after_same}
use Rattle.cdcl.proofs.Search.{after_trail, search_propagated, search_turned, places_of, fuel}

-- what is forgotten, or heeded again, stays in the log
pub after_all_lines : (old s new : StateValue) (all_lines : Bool) → IsAfter old s → new ≡ with_all_lines s all_lines → IsAfter old new
after_all_lines old s new all_lines after is = after_same old s new after (ap (λ (x : StateValue). x.letters) is) (ap (λ (x : StateValue). x.log) is)

-- at the start no decision stands but of assumptions, and each line is heeded
pub search_start : (old new : StateValue) (assumptions : List Literal) → IsFront (with_all_lines old true) new
    → All (λ e. e.reason ≡ None → Contains assumptions e.literal) new.trail → IsSearch old new assumptions
search_start old new assumptions front decided =
    let each : EachDecision (IsAssumed assumptions) new.trail = λ k below free. decided k blank_entry below free in
    record {
      after = after_trail old (with_all_lines old true) _ new (after_all_lines old old (with_all_lines old true) true (after_none old) refl) front.after;
      guided = λ k below free. inl (each k below free);
      near = inl (record {
        decided = each;
        lines = ap (λ (s : StateValue). s.log.lines) front.after;
        all_lines = ap (λ (s : StateValue). s.all_lines) front.after;
      });
    }

-- a way back keeps what holds of the search
pub search_back : (old s new : StateValue) (assumptions : List Literal) (level : ℕ) → IsSearch old s assumptions → IsBack s new level
    → IsSearch old new assumptions
search_back old s new assumptions level search back =
    let t : new.trail ≡ take (length new.trail) s.trail = ap (λ (x : StateValue). x.trail) back.front in
    record {
      after = after_trail old s _ new search.after back.front;
      guided = subst (EachDecision (IsGuided assumptions)) (sym t) (each_take (IsGuided assumptions) (length new.trail) s.trail back.short search.guided);
      near = elim search.near [
        | inl quiet ↦ inl (record {
          decided =
              subst (EachDecision (IsAssumed assumptions)) (sym t) (each_take (IsAssumed assumptions) (length new.trail) s.trail back.short quiet.decided);
          lines = ap (λ (x : StateValue). x.log.lines) back.front ∙ quiet.lines;
          all_lines = ap (λ (x : StateValue). x.all_lines) back.front ∙ quiet.all_lines;
        })
        | inr none ↦ inr none
      ];
    }

-- where no clause is near, lines may be forgotten
pub search_reduced : (old s new : StateValue) (assumptions : List Literal) → HasNoNear old.log assumptions → IsSearch old s assumptions
    → (new ≡ s) ⊎ (new ≡ with_all_lines s false) → IsSearch old new assumptions
search_reduced old s new assumptions none search cases = elim cases [
  | inl same ↦ subst (λ (x : StateValue). IsSearch old x assumptions) (sym same) search
  | inr light ↦ record {
    after = after_all_lines old s new false search.after light;
    guided = subst (EachDecision (IsGuided assumptions)) (sym (ap (λ (x : StateValue). x.trail) light)) search.guided;
    near = inr none;
  }
]

-- what comes of a conflict, after the search did or did not begin anew
pub search_restarted : (old s new : StateValue) (assumptions : List Literal) (left before : ℕ) → HasNoNear old.log assumptions → IsSearch old s assumptions
    → ((new ≡ s) × (left ≡ before)) ⊎ (IsRestarted s new × (before ≡ left + 1)) → IsSearch old new assumptions
search_restarted old s new assumptions left before none search cases = elim cases [
  | inl same ↦ subst (λ (x : StateValue). IsSearch old x assumptions) (sym same.0) search
  | inr anew ↦
      let restarted = anew.0 in
      search_reduced old restarted.mid new assumptions none (search_back old s restarted.mid assumptions 0 search restarted.back) restarted.after
]

restarted_letters : (old new : StateValue) → IsRestarted old new → new.letters ≡ old.letters
restarted_letters old new restarted =
    let back : restarted.mid.letters ≡ old.letters = ap (λ (x : StateValue). x.letters) restarted.back.front in
    elim restarted.after [
      | inl same ↦ ap (λ (x : StateValue). x.letters) same ∙ back
      | inr light ↦ ap (λ (x : StateValue). x.letters) light ∙ back
    ]

pub falls_at_restart : (first s new : StateValue) (left before : ℕ) → s.letters ≡ first.letters → fuel s < fuel first
    → ((new ≡ s) × (left ≡ before)) ⊎ (IsRestarted s new × (before ≡ left + 1))
    → measure left (places_of new) new.trail < measure before (places_of first) first.trail
falls_at_restart first s new left before letters falls cases = elim cases [
  | inl same ↦
      let places : places_of s ≡ places_of first = ap (λ n. n + 2) letters in
      let power : 3 ^ places_of s ≡ 3 ^ places_of first = ap (λ n. 3 ^ n) places in
      subst (λ (x : StateValue). measure left (places_of x) x.trail < measure before (places_of first) first.trail) (sym same.0)
      (subst (λ n. measure n (places_of s) s.trail < measure before (places_of first) first.trail) (sym same.1)
      (subst (λ n. before * (n + 1) + fuel s < before * (3 ^ places_of first + 1) + fuel first) (sym power) (omega (arith, falls))))
  | inr anew ↦
      let places : places_of new ≡ places_of first = ap (λ n. n + 2) (restarted_letters s new anew.0 ∙ letters) in
      subst (λ n. measure left n new.trail < measure before (places_of first) first.trail) (sym places)
      (subst (λ n. measure left (places_of first) new.trail < measure n (places_of first) first.trail) (sym anew.1)
      (restart_falls left (places_of first) first.trail new.trail))
]

module _ (trail : List TrailEntry) (apart : AllPairs (λ e f. e.literal.letter.0 ≢ f.literal.letter.0) trail) where
  -- one letter stands at one place
  pub one_place : (i j : ℕ) → i < length trail → j < length trail → (literal_at trail i).letter.0 ≡ (literal_at trail j).letter.0 → i ≡ j
  one_place i j i_low j_low same = elim (cases_lt i j) [
    | inl earlier ↦ absurd (apart i j blank_entry earlier j_low same)
    | inr high ↦ elim (cases_eq i j) [
      | inl equal ↦ equal
      | inr differ ↦ absurd (apart j i blank_entry (omega (arith, high, differ)) i_low (sym same))
    ]
  ]

  -- where all assumptions were true before a place, none of their letters stands there or behind
  not_later : (assumptions : List Literal) (k p : ℕ) (l : Literal) → k ≤ p → p < length trail → All (Contains (literals_of (take k trail))) assumptions
      → Contains assumptions l → ¬ ((literal_at trail p).letter.0 ≡ l.letter.0)
  not_later assumptions k p l before low all there same =
      let at = true_place trail k l (omega (arith, before, low)) (All-contains (Contains (literals_of (take k trail))) assumptions l all there) in
      let equal = one_place at.0 p (omega (arith, at.1, before, low)) low (ap (λ (m : Literal). m.letter.0) at.2 ∙ sym same) in
      omega (arith, equal, at.1, before)

  module _ (assumptions : List Literal) (guided : EachDecision (IsGuided assumptions) trail) where
    -- where a place has an assumption's letter, the decisions up to it are assumptions
    pub assumed_up : (p : ℕ) (l : Literal) → p < length trail → Contains assumptions l → (literal_at trail p).letter.0 ≡ l.letter.0 → (k : ℕ)
        → k ≤ p → (get_or trail k blank_entry).reason ≡ None → Contains assumptions (literal_at trail k)
    assumed_up p l low there same k before free = elim (guided k (omega (arith, before, low)) free) [
      | inl is ↦ is
      | inr all ↦ absurd (not_later assumptions k p l before low all there same)
    ]

    pub all_assumed : IsAssumedTop trail assumptions → EachDecision (IsAssumed assumptions) trail
    all_assumed cases = elim cases [
      | inl forced ↦ each_forced (IsAssumed assumptions) trail forced
      | inr at ↦
          let top = at.2 in
          λ k below free. elim (cases_lt top.place k) [
            | inl later ↦ absurd (top.last k later below free)
            | inr before ↦ assumed_up top.place at.0 top.decision.within at.1 (ap (λ (m : Literal). m.letter.0) top.is) k before free
          ]
    ]

    -- a false assumption's opposite was not decided
    pub not_decided : IsConsistent assumptions → (l : Literal) → Contains assumptions l → (p : ℕ) → IsDecision trail p → literal_at trail p ≢ opposite l
    not_decided consistent l there p decision is = elim (guided p decision.within decision.free) [
      | inl assumed ↦ consistent l there (subst (Contains assumptions) is assumed)
      | inr all ↦ not_later assumptions p p l (omega arith) decision.within all there (ap (λ (m : Literal). m.letter.0) is)
    ]

    -- the clause that explains a false assumption has only opposites of assumptions
    pub refuted_assumed : (l : Literal) (p : ℕ) → Contains assumptions l → p < length trail → literal_at trail p ≡ opposite l
        → EachDecision (IsAssumed assumptions) (refuted_at trail p)
    refuted_assumed l p there low is k below free =
        let e : TrailEntry = record { literal = opposite (literal_at trail p); level = p + 1; reason = None } in
        let front : length (take p trail) ≡ p = length-take-le p trail (omega (arith, low)) in
        elim (cases_lt k p) [
          | inl earlier ↦
              let same : get_or (refuted_at trail p) k blank_entry ≡ get_or trail k blank_entry =
              get_or_append_left (take p trail) (e ∷ []) blank_entry k (omega (arith, earlier, front)) ∙ get_or-take p trail k blank_entry earlier in
              subst (λ (f : TrailEntry). Contains assumptions f.literal) (sym same)
              (assumed_up p l low there (ap (λ (m : Literal). m.letter.0) is) k (omega (arith, earlier)) (ap (λ (f : TrailEntry). f.reason) (sym same) ∙ free))
          | inr high ↦
              let last : length (take p trail) ≡ k = omega (arith, high, below, front, length_push (take p trail) e) in
              let same : get_or (refuted_at trail p) k blank_entry ≡ e = get_or_at (take p trail) e [] blank_entry k last in
              subst (λ (f : TrailEntry). Contains assumptions f.literal) (sym same)
              (subst (Contains assumptions) (sym (ap opposite is ∙ opposite_opposite l)) there)
        ]

pub refuted_negated : (s : StateValue) (assumptions : List Literal) (l : Literal) (learnt : Learnt)
    → AllPairs (λ e f. e.literal.letter.0 ≢ f.literal.letter.0) s.trail → EachDecision (IsGuided assumptions) s.trail → Contains assumptions l
    → IsRefuted s l learnt
    → IsNegated assumptions learnt.clause.items
refuted_negated s assumptions l learnt apart guided there is =
    assumed_negated s.log (refuted_at s.trail is.place) learnt assumptions is.explains is.decisions
    (refuted_assumed s.trail apart assumptions guided l is.place there is.within is.is)

-- where the last decision is no assumption, no clause is near
pub none_near : (old s : StateValue) (assumptions : List Literal) → IsSearch old s assumptions → IsFreeTop s.trail assumptions → HasNoNear old.log assumptions
none_near old s assumptions search top = elim search.near [
  | inl quiet ↦ absurd (top.1 (subst (Contains assumptions) top.2.is (quiet.decided top.2.place top.2.decision.within top.2.decision.free)))
  | inr none ↦ none
]

-- what came of a conflict where the last decision is no assumption
module _ (old first s : StateValue) (assumptions : List Literal) (search : IsSearch old first assumptions) (grown : Propagated first s)
    (top : IsFreeTop s.trail assumptions) where
  pub conflict_none : HasNoNear old.log assumptions
  conflict_none = none_near old s assumptions (search_propagated old first s assumptions search grown) top

  -- it was explained and learnt from, and then the search did or did not begin anew
  pub conflict_restarted : (same learnt new : StateValue) (clause : List Literal) (hints : List Hint) (left before : ℕ)
      → same ≡ s → IsTurn (with_log same (with_line same.log clause hints)) learnt
      → ((new ≡ learnt) × (left ≡ before)) ⊎ (IsRestarted learnt new × (before ≡ left + 1)) → IsSearch old new assumptions
  conflict_restarted same learnt new clause hints left before is turn cases =
      let derived = ap (λ (x : StateValue). with_log x (with_line x.log clause hints)) is in
      let turned = search_turned old s _ learnt clause hints assumptions (search_propagated old first s assumptions search grown) conflict_none derived turn in
      search_restarted old learnt new assumptions left before conflict_none turned cases

only_of : (P : Literal → Type 0) (clause literals : List Literal) → All P clause → All (Contains clause) literals → All P literals
only_of P clause literals each within = λ k d lt. All-contains P clause (get_or literals k d) each (within k d lt)

-- the answer by a line
pub line_found : (s : StateValue) (assumptions clause : List Literal) (answer : Answer) → IsNegated assumptions clause → IsLineOf s clause answer
    → IsFound s assumptions answer
line_found s assumptions clause Sat negated is = absurd is
line_found s assumptions clause (Unsat line) negated is =
    (is.0, is.1, only_of (λ l. Contains assumptions (opposite l)) clause (clause_at s.log.lines line) negated is.2)
