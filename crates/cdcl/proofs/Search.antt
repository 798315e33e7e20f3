-- What holds from turn to turn of the search.
use Rattle.std.proofs.Common.{◌≡◌, ◌≢◌, ℕ, suc, ◌<◌, ◌≤◌, ◌+◌, ◌-◌, ◌⊎◌, inl, inr, ◌++◌, ◌∷◌, List, All, Any, Contains, take, drop, length, get_or, []}
use Rattle.std.proofs.Common.{add-one, Bool, true, Some, None, refl, sym, ap, ◌∙◌, subst, arith, length-append, length-take}
use Rattle.std.proofs.lemmas.Bool.{cases_lt}
use Rattle.std.proofs.lemmas.List.{append-nil, append_assoc, take-take, take-append-le, take_at, take-append-drop, drop_more, get_or-take, get_or_append_left}
use Rattle.std.proofs.lemmas.List.{get_or_at, get_or-map, length-map, length_push}
use Rattle.std.proofs.lemmas.Option.{slice_get-get_or}
use Rattle.std.proofs.lemmas.List.Elements.{All-nil, All-cons, All-head, All-tail, All-contains}
use Rattle.cnf_base.specs.declared.literal.Literal.{Literal}
use Rattle.cnf_base.specs.declared.literal.Hint.{Hint}
use Rattle.cnf_base.specs.declared.literal.Hint.TheVariants.{Clause, Line}
use Rattle.cnf_base.specs.Literal.{opposite}
use Rattle.cnf_base.specs.Step.{numbered, IsHintedStep, Refutes, conflict, propagate}
use Rattle.cnf_base.proofs.SameLiteral.{opposite_opposite}
use Rattle.cnf_base.proofs.MoreClauses.{refutes_more}
use Rattle.clause_log.specs.LogValue.{LogValue, greatest_u32, with_line}
use Rattle.cdcl_state.specs.StateValue.{StateValue, with_trail, with_log, IsHeeded, IsSettled, AreSet, IsSet, Propagated}
use Rattle.cdcl_trail.specs.Trail.{literals_of, IsReason, blank_entry, literal_at, IsDecision}
use Rattle.cdcl_analyze.specs.Learnt.{IsLearnt}
use Rattle.cdcl_state.specs.Turns.{IsTurn, IsUnturned, IsDecided}
use Rattle.cdcl_trail.specs.declared.assigned.TrailEntry.{TrailEntry}
use Rattle.cdcl_analyze.specs.declared.analyze.Learnt.{Learnt}
use Rattle.cdcl_trail.proofs.Weight.{weight, weight_push, weight_swap}
use Rattle.cdcl.specs.Solving.{IsLonger, IsAfter, IsNegated}

-- P holds of the literals before each decision and of the decision
abbrev pub EachDecision : (List Literal → Literal → Type 0) → List TrailEntry → Type 0
EachDecision P trail = (k : ℕ) → k < length trail → (get_or trail k blank_entry).reason ≡ None → P (literals_of (take k trail)) (literal_at trail k)

-- a decision is an assumption, or came when all assumptions were true
abbrev pub IsGuided : List Literal → List Literal → Literal → Type 0
IsGuided assumptions before l = Contains assumptions l ⊎ All (Contains before) assumptions

abbrev pub IsAssumed : List Literal → List Literal → Literal → Type 0
IsAssumed assumptions before l = Contains assumptions l

-- no clause of opposites of assumptions is a hinted step over the log
abbrev pub HasNoNear : LogValue → List Literal → Type 0
HasNoNear log assumptions =
    (clause : List Literal) (hints : List Hint) → IsNegated assumptions clause → ¬ IsHintedStep log.inputs log.lines greatest_u32 clause hints

-- only assumptions were decided, and each line is an earlier one and is heeded
pub record IsQuiet (old s : StateValue) (assumptions : List Literal) : Type 0 where
  pub decided : EachDecision (IsAssumed assumptions) s.trail
  pub lines : s.log.lines ≡ old.log.lines
  pub all_lines : s.all_lines ≡ true

pub record IsSearch (old s : StateValue) (assumptions : List Literal) : Type 0 where
  pub after : IsAfter old s
  pub guided : EachDecision (IsGuided assumptions) s.trail
  pub near : IsQuiet old s assumptions ⊎ HasNoNear old.log assumptions

module _ (P : List Literal → Literal → Type 0) where
  pub each_take : (n : ℕ) (trail : List TrailEntry) → n ≤ length trail → EachDecision P trail → EachDecision P (take n trail)
  each_take n trail fits each k below free =
      let low : k < n = omega (arith, length-take n trail) in
      let same = get_or-take n trail k blank_entry low in
      subst (λ (e : TrailEntry). P (literals_of (take k (take n trail))) e.literal) (sym same)
      (subst (λ t. P (literals_of t) (literal_at trail k)) (sym (take-take k n trail (omega arith)))
      (each k (omega arith) (ap (λ (e : TrailEntry). e.reason) (sym same) ∙ free)))

  pub each_push : (trail : List TrailEntry) (e : TrailEntry) → EachDecision P trail → (e.reason ≡ None → P (literals_of trail) e.literal)
      → EachDecision P (trail ++ e ∷ [])
  each_push trail e each here k below free = elim (cases_lt k (length trail)) [
    | inl old ↦
        let same = get_or_append_left trail (e ∷ []) blank_entry k old in
        subst (λ (f : TrailEntry). P (literals_of (take k (trail ++ e ∷ []))) f.literal) (sym same)
        (subst (λ t. P (literals_of t) (literal_at trail k)) (sym (take-append-le k trail (e ∷ []) (omega arith)))
        (each k old (ap (λ (f : TrailEntry). f.reason) (sym same) ∙ free)))
    | inr high ↦
        let last : length trail ≡ k = omega (arith, length_push trail e) in
        let same = get_or_at trail e [] blank_entry k last in
        subst (λ (f : TrailEntry). P (literals_of (take k (trail ++ e ∷ []))) f.literal) (sym same)
        (subst (λ t. P (literals_of t) e.literal) (sym (take_at trail (e ∷ []) k last))
        (here (ap (λ (f : TrailEntry). f.reason) (sym same) ∙ free)))
  ]

  pub each_append : (trail more : List TrailEntry) → EachDecision P trail → All (λ e. e.reason ≢ None) more → EachDecision P (trail ++ more)
  each_append trail [] each forced = subst (EachDecision P) (sym (append-nil trail)) each
  each_append trail (e ∷ more) each forced =
      subst (EachDecision P) (append_assoc trail (e ∷ []) more)
      (each_append (trail ++ e ∷ []) more (each_push trail e each (λ free. absurd (All-head (λ f. f.reason ≢ None) e more forced free)))
      (All-tail (λ f. f.reason ≢ None) e more forced))

  pub each_forced : (trail : List TrailEntry) → All (λ e. e.reason ≢ None) trail → EachDecision P trail
  each_forced trail forced k below free = absurd (forced k blank_entry below free)

-- what the measure does, with places enough for the trail
abbrev pub places_of : StateValue → ℕ
places_of s = s.letters + 2

abbrev pub fuel : StateValue → ℕ
fuel s = weight (places_of s) s.trail

pub weight_turned : (old new : StateValue) → IsTurn old new → length old.trail ≤ old.letters + 1 → fuel new < fuel old
weight_turned old new turn bounded =
    let front = take turn.place old.trail in
    let d = get_or old.trail turn.place blank_entry in
    let rest = drop (turn.place + 1) old.trail in
    let split : old.trail ≡ front ++ d ∷ rest =
    sym (take-append-drop turn.place old.trail) ∙ ap (λ t. front ++ t) (drop_more old.trail turn.place blank_entry turn.decision.within) in
    let fits : length old.trail ≤ places_of old = omega (arith, bounded) in
    let falls = weight_swap (places_of old) front rest d turn.entry turn.decision.free turn.forced (subst (λ t. length t ≤ places_of old) split fits) in
    subst (λ (s : StateValue). fuel s < fuel old) (sym turn.after)
    (subst (λ t. weight (places_of old) (front ++ turn.entry ∷ []) < weight (places_of old) t) (sym split) falls)

pub weight_grown : (n : ℕ) (trail more : List TrailEntry) → length (trail ++ more) ≤ n → weight n (trail ++ more) ≤ weight n trail
weight_grown n trail [] fits = subst (λ t. weight n t ≤ weight n trail) (sym (append-nil trail)) (omega arith)
weight_grown n trail (e ∷ more) fits =
    let longer : length (trail ++ e ∷ more) ≡ length trail + length (e ∷ more) = length-append trail (e ∷ more) in
    let assoc = append_assoc trail (e ∷ []) more in
    let rest = subst (λ t. weight n t ≤ weight n (trail ++ e ∷ [])) assoc
    (weight_grown n (trail ++ e ∷ []) more (subst (λ t. length t ≤ n) (sym assoc) fits)) in
    omega (arith, rest, weight_push n trail e (omega arith))

pub weight_propagated : (old new : StateValue) → Propagated old new → length new.trail ≤ new.letters + 1 → fuel new ≤ fuel old
weight_propagated old new grown bounded =
    let same : places_of new ≡ places_of old = ap (λ n. n + 2) grown.letters in
    let fits : length (old.trail ++ grown.more) ≤ places_of old = omega (arith, bounded, grown.letters, ap length grown.trail) in
    subst (λ n. weight n new.trail ≤ fuel old) (sym same)
    (subst (λ t. weight (places_of old) t ≤ fuel old) (sym grown.trail) (weight_grown (places_of old) old.trail grown.more fits))

pub weight_decided : (old new : StateValue) (l : Literal) → IsDecided old new l → length old.trail ≤ old.letters + 1 → fuel new < fuel old
weight_decided old new l decided bounded =
    let e : TrailEntry = record { literal = l; level = decided.level; reason = None } in
    subst (λ (s : StateValue). fuel s < fuel old) (sym decided.after) (weight_push (places_of old) old.trail e (omega (arith, bounded)))

-- where no line is forgotten, each clause is heeded
all_heeded : (all_lines : Bool) → all_lines ≡ true → (hint : Hint) → IsHeeded all_lines hint
all_heeded all_lines is (Clause n) = tt
all_heeded all_lines is (Line n) = is

-- a clause of opposites of true literals is no hinted step where the trail is settled and no line is forgotten
settled_refutes_nothing : (s : StateValue) → IsSettled s → s.all_lines ≡ true → {falses : List Literal} {hints : List Hint}
    → Refutes s.log.inputs s.log.lines greatest_u32 falses hints → ¬ All (λ l. Contains (literals_of s.trail) (opposite l)) falses
settled_refutes_nothing s settled all_lines {falses} (conflict {hint = hint} {clause = clause} names all_false) on_trail =
    (settled hint (all_heeded s.all_lines all_lines hint)).0 (record {
      clause = clause;
      is = names.is;
      all_false = λ k d below. All-contains (λ l. Contains (literals_of s.trail) (opposite l)) falses (get_or clause k d) on_trail (all_false k d below);
    })
settled_refutes_nothing s settled all_lines {falses} (propagate {hint = hint} {clause = clause} {u = u} names unit rest) on_trail =
    let T = literals_of s.trail in
    let reason : IsReason s.log.inputs s.log.lines T u hint = record {
      clause = clause;
      is = names.is;
      there = unit.there;
      others = λ k d below. elim (unit.others k d below) [
        | inl c ↦ inr (All-contains (λ l. Contains T (opposite l)) falses (get_or clause k d) on_trail c)
        | inr e ↦ inl e
      ];
    } in
    let here = settled hint (all_heeded s.all_lines all_lines hint) in
    let not_unset = here.1 u reason in
    not_unset (record {
      not_true = λ there. settled_refutes_nothing s settled all_lines rest
          (All-cons (λ l. Contains T (opposite l)) (opposite u) falses (subst (Contains T) (sym (opposite_opposite u)) there) on_trail);
      not_false = λ there. here.0 (record {
        clause = clause;
        is = names.is;
        all_false = λ k d below. elim (reason.others k d below) [ inl e ↦ subst (λ l. Contains T (opposite l)) (sym e) there | inr c ↦ c ];
      });
    })

pub no_near : (old s : StateValue) (assumptions : List Literal) → IsAfter old s → IsSettled s
    → s.all_lines ≡ true → All (Contains (literals_of s.trail)) assumptions → HasNoNear old.log assumptions
no_near old s assumptions after settled all_lines all_true clause hints negated step =
    let more = refutes_more old.log.inputs [] old.log.lines after.log.more greatest_u32 step.refutes in
    let here : Refutes s.log.inputs s.log.lines greatest_u32 clause hints =
    subst (λ i. Refutes i s.log.lines greatest_u32 clause hints) (append-nil old.log.inputs ∙ sym after.log.inputs)
    (subst (λ ls. Refutes (old.log.inputs ++ []) ls greatest_u32 clause hints) (sym after.log.lines) more) in
    settled_refutes_nothing s settled all_lines here
    (λ k d below. All-contains (Contains (literals_of s.trail)) assumptions (opposite (get_or clause k d)) all_true (negated k d below))

-- where each letter is set, a clause has a true literal or is false
true_or_false : (true_ones clause : List Literal) → ((l : Literal) → Contains clause l → Contains true_ones l ⊎ Contains true_ones (opposite l))
    → Any (Contains true_ones) clause ⊎ All (λ l. Contains true_ones (opposite l)) clause
true_or_false true_ones [] set = inr (All-nil (λ l. Contains true_ones (opposite l)))
true_or_false true_ones (l ∷ clause) set = elim (set l (0, omega arith, refl)) [
  | inl h ↦ inl (0, l, omega arith, refl, h)
  | inr wrong ↦ elim (true_or_false true_ones clause (λ m c. set m (suc c.0, omega (arith, c.1), c.2))) [
    | inl a ↦ inl (suc a.0, a.1, omega (arith, a.2), a.3, a.4)
    | inr all ↦ inr (All-cons (λ m. Contains true_ones (opposite m)) l clause wrong all)
  ]
]

-- a learnt clause of assumed decisions has only opposites of assumptions
pub assumed_negated : (log : LogValue) (trail : List TrailEntry) (learnt : Learnt) (assumptions : List Literal) → IsLearnt log trail learnt
    → All (IsDecision trail) learnt.places.items → EachDecision (IsAssumed assumptions) trail → IsNegated assumptions learnt.clause.items
assumed_negated log trail learnt assumptions is decisions each k d below =
    let f : ℕ → Literal = λ p. opposite (literal_at trail p) in
    let low : k < length learnt.places.items = omega (arith, below, ap length is.clause_is, length-map learnt.places.items f) in
    let at : get_or learnt.clause.items k d ≡ f (get_or learnt.places.items k 0) =
    ap (λ c. get_or c k d) is.clause_is ∙ get_or-map f learnt.places.items k 0 d low in
    let decision = decisions k 0 low in
    subst (Contains assumptions) (sym (ap opposite at ∙ opposite_opposite (literal_at trail (get_or learnt.places.items k 0))))
    (each (get_or learnt.places.items k 0) decision.within decision.free)

longer_none : (log : LogValue) → IsLonger log log
longer_none log = record { inputs = refl; more = []; lines = sym (append-nil log.lines); reasons = []; hints = sym (append-nil log.hints) }

pub after_none : (s : StateValue) → IsAfter s s
after_none s = record { letters = refl; log = longer_none s.log }

-- the log and the letters are as they were
pub after_same : (old s new : StateValue) → IsAfter old s → new.letters ≡ s.letters → new.log ≡ s.log → IsAfter old new
after_same old s new after letters log = record { letters = letters ∙ after.letters; log = subst (IsLonger old.log) (sym log) after.log }

pub after_trail : (old s : StateValue) (trail : List TrailEntry) (new : StateValue) → IsAfter old s → new ≡ with_trail s trail → IsAfter old new
after_trail old s trail new after is = after_same old s new after (ap (λ (x : StateValue). x.letters) is) (ap (λ (x : StateValue). x.log) is)

longer_line : (old mid : LogValue) (clause : List Literal) (hints : List Hint) → IsLonger old mid → IsLonger old (with_line mid clause hints)
longer_line old mid clause hints longer = record {
  inputs = longer.inputs;
  more = longer.more ++ clause ∷ [];
  lines = ap (λ ls. ls ++ clause ∷ []) longer.lines ∙ append_assoc old.lines longer.more (clause ∷ []);
  reasons = longer.reasons ++ hints ∷ [];
  hints = ap (λ hs. hs ++ hints ∷ []) longer.hints ∙ append_assoc old.hints longer.reasons (hints ∷ []);
}

pub after_line : (old s new : StateValue) (clause : List Literal) (hints : List Hint) → IsAfter old s
    → new ≡ with_log s (with_line s.log clause hints) → IsAfter old new
after_line old s new clause hints after is =
    subst (IsAfter old) (sym is) (record { letters = after.letters; log = longer_line old.log s.log clause hints after.log })

-- a learnt clause that was not attached
pub after_unturned : (old s new : StateValue) (learnt : Learnt) → IsAfter old s → IsUnturned s new learnt → IsAfter old new
after_unturned old s new learnt after un = elim un.log [
  | inl same ↦ after_same old s new after un.letters same
  | inr lined ↦ record {
    letters = un.letters ∙ after.letters;
    log = subst (IsLonger old.log) (sym lined) (longer_line old.log s.log learnt.clause.items learnt.hints.items after.log);
  }
]

pub search_propagated : (old s new : StateValue) (assumptions : List Literal) → IsSearch old s assumptions → Propagated s new → IsSearch old new assumptions
search_propagated old s new assumptions search grown = record {
  after = after_same old s new search.after grown.letters grown.log;
  guided = rw grown.trail (each_append (IsGuided assumptions) s.trail grown.more search.guided grown.forced);
  near = elim search.near [
    | inl quiet ↦ inl (record {
      decided = rw grown.trail (each_append (IsAssumed assumptions) s.trail grown.more quiet.decided grown.forced);
      lines = ap (λ (l : LogValue). l.lines) grown.log ∙ quiet.lines;
      all_lines = grown.all_lines ∙ quiet.all_lines;
    })
    | inr none ↦ inr none
  ];
}

pub search_turned : (old s mid new : StateValue) (clause : List Literal) (hints : List Hint) (assumptions : List Literal) → IsSearch old s assumptions
    → HasNoNear old.log assumptions
    → mid ≡ with_log s (with_line s.log clause hints) → IsTurn mid new → IsSearch old new assumptions
search_turned old s mid new clause hints assumptions search none derived turn =
    let same : mid.trail ≡ s.trail = ap (λ (t : StateValue). t.trail) derived in
    let guided = subst (EachDecision (IsGuided assumptions)) (sym same) search.guided in
    let t : new.trail ≡ take turn.place mid.trail ++ turn.entry ∷ [] = ap (λ (x : StateValue). x.trail) turn.after in
    let fits : turn.place ≤ length mid.trail = omega (arith, turn.decision.within) in
    record {
      after = after_trail old mid _ new (after_line old s mid clause hints search.after derived) turn.after;
      guided = rw t (each_push (IsGuided assumptions) (take turn.place mid.trail) turn.entry (each_take (IsGuided assumptions) turn.place mid.trail fits guided)
          (λ free. absurd (turn.forced free)));
      near = inr none;
    }

pub search_assumed : (old s new : StateValue) (l : Literal) (assumptions : List Literal) → IsSearch old s assumptions → Contains assumptions l
    → IsDecided s new l → IsSearch old new assumptions
search_assumed old s new l assumptions search there decided =
    let e : TrailEntry = record { literal = l; level = decided.level; reason = None } in
    let t : new.trail ≡ s.trail ++ e ∷ [] = ap (λ (x : StateValue). x.trail) decided.after in
    record {
      after = after_trail old s _ new search.after decided.after;
      guided = rw t (each_push (IsGuided assumptions) s.trail e search.guided (λ _. inl there));
      near = elim search.near [
        | inl quiet ↦ inl (record {
          decided = rw t (each_push (IsAssumed assumptions) s.trail e quiet.decided (λ _. there));
          lines = ap (λ (x : StateValue). x.log.lines) decided.after ∙ quiet.lines;
          all_lines = ap (λ (x : StateValue). x.all_lines) decided.after ∙ quiet.all_lines;
        })
        | inr none ↦ inr none
      ];
    }

pub search_free : (old s new : StateValue) (l : Literal) (assumptions : List Literal) → IsSearch old s assumptions → IsSettled s
    → All (Contains (literals_of s.trail)) assumptions → IsDecided s new l → IsSearch old new assumptions
search_free old s new l assumptions search settled all_true decided =
    let e : TrailEntry = record { literal = l; level = decided.level; reason = None } in
    let t : new.trail ≡ s.trail ++ e ∷ [] = ap (λ (x : StateValue). x.trail) decided.after in
    record {
      after = after_trail old s _ new search.after decided.after;
      guided = rw t (each_push (IsGuided assumptions) s.trail e search.guided (λ _. inr all_true));
      near = elim search.near [
        | inl quiet ↦ inr (no_near old s assumptions search.after settled quiet.all_lines all_true)
        | inr none ↦ inr none
      ];
    }

-- the last line by its number
pub last_line : (s mid : StateValue) (clause : List Literal) (hints : List Hint) (line : ℕ) → mid ≡ with_log s (with_line s.log clause hints)
    → line ≡ length mid.log.lines → numbered mid.log.lines line ≡ Some clause
last_line s mid clause hints line derived is =
    let lines : mid.log.lines ≡ s.log.lines ++ clause ∷ [] = ap (λ (x : StateValue). x.log.lines) derived in
    let number : line ≡ suc (length s.log.lines) = is ∙ ap length lines ∙ length_push s.log.lines clause ∙ add-one (length s.log.lines) in
    rw (number, lines) (slice_get-get_or (s.log.lines ++ clause ∷ []) (length s.log.lines) clause (omega (
      arith,
      length_push s.log.lines clause,
    )) ∙ ap Some (get_or_at s.log.lines clause [] clause (length s.log.lines) refl))

-- where each letter of an input is set and no clause is false, each input has a true literal
pub inputs_true : (s : StateValue) → IsSettled s → AreSet s → All (λ clause. Any (Contains (literals_of s.trail)) clause) s.log.inputs
inputs_true s settled set k d below =
    let clause = get_or s.log.inputs k d in
    elim (true_or_false (literals_of s.trail) clause (λ l c. All-contains (IsSet s.trail) clause l (set k d below) c)) [
      | inl some ↦ some
      | inr none ↦ absurd ((settled (Clause (suc k)) tt).0 (record { clause = clause; is = slice_get-get_or s.log.inputs k d below; all_false = none }))
    ]

-- the measure falls from the turn's beginning to its end
pub turn_falls : (s t mid new : StateValue) (clause : List Literal) (hints : List Hint) → Propagated s t
    → length t.trail ≤ t.letters + 1 → mid ≡ with_log t (with_line t.log clause hints) → IsTurn mid new → fuel new < fuel s
turn_falls s t mid new clause hints grown short derived turn =
    let fits : length mid.trail ≤ mid.letters + 1 = subst (λ (x : StateValue). length x.trail ≤ x.letters + 1) (sym derived) short in
    let same : fuel mid ≡ fuel t = ap fuel derived in
    omega (arith, weight_turned mid new turn fits, same, weight_propagated s t grown short)

pub decision_falls : (s t new : StateValue) (l : Literal) → Propagated s t → length t.trail ≤ t.letters + 1 → IsDecided t new l → fuel new < fuel s
decision_falls s t new l grown short decided = omega (arith, weight_decided t new l decided short, weight_propagated s t grown short)
