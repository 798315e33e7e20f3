-- What propagation, a way back and a decision leave of a state.
use Rattle.std.proofs.Common.{◌≡◌, ℕ, zero, suc, ◌<◌, ◌≤◌, ◌+◌, ◌*◌, ◌-◌, ◌⊎◌, inl, inr, Bool, true, false, if◌then◌else◌, List, [], ◌∷◌, ◌++◌, Option, Some}
use Rattle.std.proofs.Common.{None, take, drop, map, Contains, length, get_or, refl, sym, ap, ap₂, ◌∙◌, subst, arith, length-take-le, length-append}
use Rattle.std.proofs.lemmas.Bool.{cases_lt}
use Rattle.std.proofs.lemmas.List.{take-take, take-append-le, get_or-take, get_or_default, get_or_append_left, get_or-map, length-map, map-append, length_push}
use Rattle.std.proofs.lemmas.List.{take-append-drop, take_all}
use Rattle.std.proofs.lemmas.List.Elements.{All-contains, All-append, Contains-append_left, All-push}
use Rattle.cnf_base.specs.declared.literal.Literal.{Literal}
use Rattle.cnf_base.specs.declared.literal.Hint.{Hint}
use Rattle.cnf_base.specs.declared.literal.Hint.TheVariants.{Clause, Line}
use Rattle.cnf_base.specs.Literal.{opposite}
use Rattle.cnf_base.specs.Step.{named, numbered}
use Rattle.cnf_base.specs.Known.{IsKnown, AreKnown}
use Rattle.clause_log.specs.LogValue.{LogValue}
use Rattle.cdcl_trail.specs.Trail.{literals_of, AreValues, IsTrail, IsConflict, IsReason, IsUnset, StandsAt, blank_entry, literal_at}
use Rattle.cdcl_state.specs.StateValue.{StateValue, IsBack, IsSettled, Propagated, state_of}
use Rattle.cdcl_trail.specs.Values.{AreBelow}
use Rattle.cdcl_watches.specs.Watching.{WatchValue, IsWatching, clause_of}
use Rattle.cdcl_watches.specs.Heads.{ArenaValue}
use Rattle.cdcl_trail.specs.Assigned.{AssignedValue}
use Rattle.cdcl_trail.specs.Entries.{hint_of}
use Rattle.cdcl_propagate.specs.Visit.{HasTrue, IsReady, IsStored, IsGrown, IsGuarded, HaveSame, blank_hint, names_of}
use Rattle.cdcl_propagate.specs.Lasting.{IsLasting}
use Rattle.cdcl_analyze.specs.Reason.{IsAnalyzable}
use Rattle.cdcl_state.specs.State.{Parts, IsState, AreAll, AreLong, AreKnownDecisions}
use Rattle.cdcl_propagate.specs.Units.{IsOne, AreFirm}
use Rattle.cdcl_trail.specs.declared.assigned.TrailEntry.{TrailEntry}
use Rattle.cdcl_trail.proofs.Standing.{not_both}
use Rattle.cdcl_propagate.proofs.Settled.{settled_watched}
use Rattle.cdcl_state.proofs.Back.{lasting_back}
use Rattle.cdcl_propagate.proofs.Lasting.{guarded_lasting}
use Rattle.cdcl_trail.proofs.Levels.{level_at, levels_rise, level_bound}
use Rattle.cdcl_trail.proofs.Assign.{trail_take, trail_push}

-- what a caller sees of the parts
abbrev pub seen : Parts → StateValue
seen s = state_of s.letters s.assigned.trail s.log s.all_lines

some_same : {X : Type 0} {x y : X} {o : Option X} → o ≡ Some x → o ≡ Some y → x ≡ y
some_same a b = cc

-- a known letter is one of the values'
pub below_values : (letters : ℕ) (a : AssignedValue) (clauses : List (List Literal)) → ((x : ℕ) → 1 ≤ x → x ≤ letters → x < length a.values)
    → AreKnown letters clauses → AreBelow (length a.values) clauses
below_values letters a clauses room known i d below j e low =
    let k = known i d below j e low in
    (k.from_one, room (get_or (get_or clauses i d) j e).letter.0 k.from_one k.within)

-- what holds of a state is what an analysis asks for
pub analyzable : {s : Parts} → IsState s → (arena : ArenaValue) → arena.clauses ≡ s.watches.clauses → arena.names ≡ s.watches.names
    → IsAnalyzable s.log s.assigned arena
analyzable {s} state arena clauses names = record {
  is_trail = state.ready.is_trail;
  known_inputs = below_values s.letters s.assigned s.log.inputs state.room state.known_inputs;
  known_lines = below_values s.letters s.assigned s.log.lines state.room state.known_lines;
  few = state.few;
  stored = subst (λ cs. IsStored s.log.inputs s.log.lines cs (map hint_of arena.names)) (sym clauses)
      (subst (λ ns. IsStored s.log.inputs s.log.lines s.watches.clauses (map hint_of ns)) (sym names) state.ready.stored);
}

-- a watched clause has two literals
pub long_clause : (inputs lines clauses : List (List Literal)) (names : List Hint) → IsStored inputs lines clauses names → AreLong inputs lines names → (c : ℕ)
    → c < length clauses → 2 ≤ length (clause_of clauses c)
long_clause inputs lines clauses names stored long c known = elim (cases_lt (length (clause_of clauses c)) 2) [
  | inr enough ↦ enough
  | inl few ↦
      let from = stored.from_log c known in
      let r = clause_of clauses c in
      absurd (long c from.0 (omega (arith, known, stored.paired)) from.1 (λ l m l_in m_in.
      let l_r = All-contains (Contains r) from.0 l from.2.there l_in in
      let m_r = All-contains (Contains r) from.0 m from.2.there m_in in
      let same : l_r.0 ≡ m_r.0 = omega (arith, l_r.1, m_r.1, few) in
      sym l_r.2 ∙ get_or_default r l_r.0 l m l_r.1 ∙ ap (λ n. get_or r n m) same ∙ m_r.2))
]

-- where all lists were visited and all short clauses are true, the state is settled
pub settled : {s : Parts} → IsState s → AreValues s.assigned.values s.assigned.trail → IsWatching s.watches.clauses s.watches.lists
    → s.propagated ≡ length s.assigned.trail → s.units_done ≡ length s.units → IsSettled (seen s)
settled {s} state are watching all finished hint heeded = (
  (λ conflict. elim (state.all hint conflict.clause heeded conflict.is) [
    | inl at ↦ (watched at).0 conflict
    | inr at ↦
        let told = unit at conflict.clause conflict.is in
        not_both s.assigned.values s.assigned.trail are told.0 told.2
        (All-contains (λ l. Contains (literals_of s.assigned.trail) (opposite l)) conflict.clause told.0 conflict.all_false told.1)
  ]),
  (λ u reason unset. elim (state.all hint reason.clause heeded reason.is) [
    | inl at ↦ (watched at).1 u reason unset
    | inr at ↦
        let told = unit at reason.clause reason.is in
        let of_short = state.short at.0 at.1 in
        let same : of_short.0 ≡ reason.clause = some_same of_short.1 (ap (named s.log.inputs s.log.lines) at.2 ∙ reason.is) in
        let one : IsOne reason.clause = subst IsOne same of_short.2 in
        unset.not_true (subst (Contains (literals_of s.assigned.trail)) (one told.0 u told.1 reason.there) told.2)
  ]),
)
  where
    guarded : IsGuarded s.watches.clauses s.assigned.trail (length s.assigned.trail)
    guarded = subst (λ n. IsGuarded s.watches.clauses s.assigned.trail n) all state.ready.guarded

    watched : ((c : ℕ) × (c < length (names_of s.watches)) × (get_or (names_of s.watches) c blank_hint ≡ hint))
        → (¬ IsConflict s.log.inputs s.log.lines (literals_of s.assigned.trail) hint)
        × ((u : Literal) → IsReason s.log.inputs s.log.lines (literals_of s.assigned.trail) u hint → ¬ IsUnset (literals_of s.assigned.trail) u)
    watched at =
        settled_watched s.assigned.values s.assigned.trail are s.watches.clauses guarded s.log hint watching.apart
        (long_clause s.log.inputs s.log.lines s.watches.clauses (names_of s.watches) state.ready.stored state.long)
        (λ clause is.
        let known : at.0 < length s.watches.clauses = omega (arith, at.1, state.ready.stored.paired) in
        let from = state.ready.stored.from_log at.0 known in
        (at.0, known, subst (λ x. HaveSame x (clause_of s.watches.clauses at.0)) (some_same from.1 (ap (named s.log.inputs s.log.lines) at.2 ∙ is)) from.2))

    unit : ((u : ℕ) × (u < length s.units) × (get_or s.units u blank_hint ≡ hint)) → (clause : List Literal) → named s.log.inputs s.log.lines hint ≡ Some clause
        → HasTrue (literals_of s.assigned.trail) clause
    unit at clause is =
        let told = state.are_firm at.0 clause (omega (arith, at.1, finished)) (ap (named s.log.inputs s.log.lines) at.2 ∙ is) in
        (told.0, told.1, front_true s.assigned.trail s.units_trail told.0 state.units_trail_in told.2)
      where
        front_true : (trail : List TrailEntry) (n : ℕ) (l : Literal) → n ≤ length trail → Contains (literals_of (take n trail)) l
            → Contains (literals_of trail) l
        front_true trail n l fits (k, low, is_l) =
            let k_take : k < length (take n trail) = omega (arith, low, length-map (take n trail) (λ (e : TrailEntry). e.literal)) in
            let k_low : k < n = omega (arith, k_take, length-take-le n trail fits) in
            let k_in : k < length trail = omega arith in (
              k,
              omega (arith, k_in, length-map trail (λ (e : TrailEntry). e.literal)),
              get_or-map (λ (e : TrailEntry). e.literal) trail k blank_entry l k_in
                  ∙ ap (λ (e : TrailEntry). e.literal) (sym (get_or-take n trail k blank_entry k_low))
                  ∙ sym (get_or-map (λ (e : TrailEntry). e.literal) (take n trail) k blank_entry l k_take) ∙ is_l,
            )

-- forced entries more on the trail
pub state_grown : {s : Parts} {b : AssignedValue} {v : WatchValue} {next : ℕ} (later : ℕ) → IsState s → IsReady s.log.inputs s.log.lines next b v
    → IsGrown s.assigned.trail b.trail → length b.values ≡ length s.assigned.values → v.names ≡ s.watches.names → later ≤ next
    → IsLasting v.clauses b.trail later → IsState (record s { assigned = b; watches = v; propagated = next; lasting = later })
state_grown {s} {b} {v} {next} later state ready grown same names_are low is_lasting =
    record {
      ready = ready;
      low = low;
      is_lasting = is_lasting;
      all = subst (λ ns. AreAll s.all_lines s.log.inputs s.log.lines (map hint_of ns) s.units) (sym names_are) state.all;
      long = subst (λ ns. AreLong s.log.inputs s.log.lines (map hint_of ns)) (sym names_are) state.long;
      short = state.short;
      ones = state.ones;
      units_done_in = state.units_done_in;
      units_trail_in = omega (arith, state.units_trail_in, ap length grown.trail, length-append s.assigned.trail grown.more);
      are_firm = λ u clause below is.
          let front : take s.units_trail b.trail ≡ take s.units_trail s.assigned.trail =
          ap (take s.units_trail) grown.trail ∙ take-append-le s.units_trail s.assigned.trail grown.more state.units_trail_in in
          subst (λ t. HasTrue (literals_of t) clause) (sym front) (state.are_firm u clause below is);
      known_inputs = state.known_inputs;
      known_lines = state.known_lines;
      decided = subst (AreKnownDecisions s.letters) (sym grown.trail)
          (All-append (λ e. e.reason ≡ None → IsKnown s.letters e.literal) s.assigned.trail grown.more state.decided
          (λ k d below free. absurd (grown.forced k d below free)));
      room = λ x from_one within. omega (arith, state.room x from_one within, same);
      few = omega (arith, same, state.few);
      size = omega (arith, same, state.size);
    }

-- a front of the trail
pub state_back : {s : Parts} (b : AssignedValue) (m n level still solid : ℕ) → IsState s → b.trail ≡ take n s.assigned.trail
    → length b.values ≡ length s.assigned.values → n ≤ length s.assigned.trail → IsBack (seen s) (seen (record s { assigned = b })) level
    → m ≤ s.lasting → m ≤ n
    → ((s.units_trail ≤ n) × (still ≡ s.units_done) × (solid ≡ s.units_trail)) ⊎ ((still ≡ 0) × (solid ≡ 0))
    → IsState (record s { assigned = b; propagated = m; lasting = m; units_done = still; units_trail = solid })
state_back {s} b m n level still solid state trail_is values_is fits back m_lasting m_n units_are =
    let len : length b.trail ≡ n = ap length trail_is ∙ length-take-le n s.assigned.trail fits in
    let new_lasting = lasting_back s.watches.clauses (seen s) (seen (record s { assigned = b })) level s.lasting m state.ready.is_trail back
    state.is_lasting m_lasting (omega (arith, len)) in
    record {
      ready = record {
        is_trail = subst (IsTrail s.log.inputs s.log.lines) (sym trail_is) (trail_take s.log.inputs s.log.lines s.assigned.trail n fits state.ready.is_trail);
        stored = state.ready.stored;
        guarded = guarded_lasting s.watches.clauses b.trail m new_lasting;
        within = omega (arith, len);
        sized = state.ready.sized ∙ ap (λ x. 2 * x) (sym values_is);
      };
      low = omega arith;
      is_lasting = new_lasting;
      all = state.all;
      long = state.long;
      short = state.short;
      ones = state.ones;
      units_done_in = elim units_are [ inl kept ↦ omega (arith, kept.1, state.units_done_in) | inr none ↦ omega (arith, none.0) ];
      units_trail_in = elim units_are [ inl kept ↦ omega (arith, kept.0, kept.2, len) | inr none ↦ omega (arith, none.1) ];
      are_firm = λ u clause below is. elim units_are [
        | inl kept ↦
            let front : take solid b.trail ≡ take s.units_trail s.assigned.trail =
            ap₂ (λ k t. take k t) kept.2 trail_is ∙ take-take s.units_trail n s.assigned.trail kept.0 in
            subst (λ t. HasTrue (literals_of t) clause) (sym front) (state.are_firm u clause (omega (arith, below, kept.1)) is)
        | inr none ↦ absurd (omega (arith, below, none.0))
      ];
      known_inputs = state.known_inputs;
      known_lines = state.known_lines;
      decided = subst (AreKnownDecisions s.letters) (sym trail_is) (λ k d below.
          let k_low : k < n = omega (arith, below, length-take-le n s.assigned.trail fits) in
          subst (λ e. e.reason ≡ None → IsKnown s.letters e.literal) (sym (get_or-take n s.assigned.trail k d k_low)) (state.decided k d (omega arith)));
      room = λ x from_one within. omega (arith, state.room x from_one within, values_is);
      few = omega (arith, values_is, state.few);
      size = omega (arith, values_is, state.size);
    }

-- the way back of the trail, from the entries beside its end
pub back_of : (letters : ℕ) (a b : AssignedValue) (log : LogValue) (all_lines : Bool) (n level : ℕ) → IsTrail log.inputs log.lines a.trail
    → b.trail ≡ take n a.trail → n ≤ length a.trail
    → (0 < n → level_at a.trail (n - 1) ≤ level) → (n < length a.trail → level < level_at a.trail n)
    → IsBack (state_of letters a.trail log all_lines) (state_of letters b.trail log all_lines) level
back_of letters a b log all_lines n level is_trail trail_is fits low high =
    let len : length b.trail ≡ n = ap length trail_is ∙ length-take-le n a.trail fits in
    record {
      front = ap (λ t. state_of letters t log all_lines) (trail_is ∙ ap (λ m. take m a.trail) (sym len));
      short = omega (arith, len);
      low = λ k d below.
          let k_low : k < n = omega (arith, below, len) in
          let at : get_or b.trail k d ≡ get_or a.trail k blank_entry =
          ap (λ t. get_or t k d) trail_is ∙ get_or-take n a.trail k d k_low ∙ get_or_default a.trail k d blank_entry (omega arith) in
          let rises : level_at a.trail k ≤ level_at a.trail (n - 1) = elim (cases_lt k (n - 1)) [
            | inl front ↦ levels_rise log.inputs log.lines a.trail is_trail k (n - 1) front (omega arith)
            | inr last ↦ let same : k ≡ n - 1 = omega arith in omega (arith, ap (level_at a.trail) same)
          ] in
          omega (arith, ap (λ (e : TrailEntry). e.level) at, rises, low (omega arith));
      high = λ d below.
          let shorter : n < length a.trail = omega (arith, len) in
          let at : get_or a.trail (length b.trail) d ≡ get_or a.trail n blank_entry =
          ap (λ m. get_or a.trail m d) len ∙ get_or_default a.trail n d blank_entry shorter in
          omega (arith, ap (λ (e : TrailEntry). e.level) at, high shorter);
    }

-- entries more behind the trail keep the watch rule
pub guarded_push : (clauses : List (List Literal)) (trail more : List TrailEntry) (n : ℕ) → n ≤ length trail → IsGuarded clauses trail n
    → IsGuarded clauses (trail ++ more) n
guarded_push clauses trail more n fits guarded c k a known watch below is_false =
    let same : literal_at (trail ++ more) k ≡ literal_at trail k =
    ap (λ (f : TrailEntry). f.literal) (get_or_append_left trail more blank_entry k (omega arith)) in
    let told = guarded c k a known watch below (sym same ∙ is_false) in (
      told.0,
      told.1,
      subst (λ ls. Contains ls told.0) (sym (map-append (λ (f : TrailEntry). f.literal) trail more))
          (Contains-append_left (literals_of trail) (literals_of more) told.0 told.2),
    )

pub lasting_push : (clauses : List (List Literal)) (trail more : List TrailEntry) (n : ℕ) → n ≤ length trail → IsLasting clauses trail n
    → IsLasting clauses (trail ++ more) n
lasting_push clauses trail more n fits lasting c k a known watch below is_false =
    let k_same = get_or_append_left trail more blank_entry k (omega arith) in
    let at = lasting c k a known watch below (ap (λ (f : TrailEntry). f.literal) (sym k_same) ∙ is_false) in
    let j_same = get_or_append_left trail more blank_entry at.0 at.1 in (
      at.0,
      omega (arith, at.1, length-append trail more),
      subst (Contains (clause_of clauses c)) (ap (λ (f : TrailEntry). f.literal) (sym j_same)) at.2,
      omega (
        arith,
        at.3,
        ap (λ (f : TrailEntry). f.level) j_same,
        ap (λ (f : TrailEntry). f.level) k_same,
      ),
    )

-- a decision stands behind the trail
pub decision_stands : (inputs lines : List (List Literal)) (trail : List TrailEntry) (l : Literal) (level : ℕ) → IsTrail inputs lines trail
    → level ≡ length trail + 1 → StandsAt inputs lines trail (record { literal = l; level = level; reason = None })
decision_stands inputs lines trail l level is_trail is = record {
  reason = tt;
  decision = λ _. is;
  rising = λ k d below.
      let bound = level_bound inputs lines trail is_trail k (length trail) below (omega arith) (level_at trail k) refl in
      omega (arith, bound, is, ap (λ (e : TrailEntry). e.level) (get_or_default trail k d blank_entry below));
}

-- an entry more behind the trail
module _ {s : Parts} (b : AssignedValue) (e : TrailEntry) (state : IsState s) (values_is : length b.values ≡ length s.assigned.values)
    (stands : StandsAt s.log.inputs s.log.lines s.assigned.trail e) (known : e.reason ≡ None → IsKnown s.letters e.literal) where
  pub state_pushed : b.trail ≡ s.assigned.trail ++ e ∷ [] → IsState (record s { assigned = b })
  state_pushed is = record {
    ready = record {
      is_trail = subst (IsTrail s.log.inputs s.log.lines) (sym is) (trail_push s.log.inputs s.log.lines s.assigned.trail e state.ready.is_trail stands);
      stored = state.ready.stored;
      guarded =
          subst (λ t. IsGuarded s.watches.clauses t s.propagated) (sym is)
          (guarded_push s.watches.clauses s.assigned.trail (e ∷ []) s.propagated state.ready.within state.ready.guarded);
      within = omega (arith, state.ready.within, ap length is, length_push s.assigned.trail e);
      sized = state.ready.sized ∙ ap (λ x. 2 * x) (sym values_is);
    };
    low = state.low;
    is_lasting = subst (λ t. IsLasting s.watches.clauses t s.lasting) (sym is)
        (lasting_push s.watches.clauses s.assigned.trail (e ∷ []) s.lasting (omega (arith, state.low, state.ready.within)) state.is_lasting);
    all = state.all;
    long = state.long;
    short = state.short;
    ones = state.ones;
    units_done_in = state.units_done_in;
    units_trail_in = omega (arith, state.units_trail_in, ap length is, length_push s.assigned.trail e);
    are_firm = λ u clause below named_is.
        let front : take s.units_trail b.trail ≡ take s.units_trail s.assigned.trail =
        ap (take s.units_trail) is ∙ take-append-le s.units_trail s.assigned.trail (e ∷ []) state.units_trail_in in
        subst (λ t. HasTrue (literals_of t) clause) (sym front) (state.are_firm u clause below named_is);
    known_inputs = state.known_inputs;
    known_lines = state.known_lines;
    decided = subst (AreKnownDecisions s.letters) (sym is)
        (All-push (λ f. f.reason ≡ None → IsKnown s.letters f.literal) s.assigned.trail e state.decided known);
    room = λ x from_one within. omega (arith, state.room x from_one within, values_is);
    few = omega (arith, values_is, state.few);
    size = omega (arith, values_is, state.size);
  }

  pub state_same : b.trail ≡ s.assigned.trail → IsState (record s { assigned = b })
  state_same is = record {
    ready = record {
      is_trail = subst (IsTrail s.log.inputs s.log.lines) (sym is) state.ready.is_trail;
      stored = state.ready.stored;
      guarded = subst (λ t. IsGuarded s.watches.clauses t s.propagated) (sym is) state.ready.guarded;
      within = omega (arith, state.ready.within, ap length is);
      sized = state.ready.sized ∙ ap (λ x. 2 * x) (sym values_is);
    };
    low = state.low;
    is_lasting = subst (λ t. IsLasting s.watches.clauses t s.lasting) (sym is) state.is_lasting;
    all = state.all;
    long = state.long;
    short = state.short;
    ones = state.ones;
    units_done_in = state.units_done_in;
    units_trail_in = omega (arith, state.units_trail_in, ap length is);
    are_firm = λ u clause below named_is. subst (λ t. HasTrue (literals_of (take s.units_trail t)) clause) (sym is) (state.are_firm u clause below named_is);
    known_inputs = state.known_inputs;
    known_lines = state.known_lines;
    decided = subst (AreKnownDecisions s.letters) (sym is) state.decided;
    room = λ x from_one within. omega (arith, state.room x from_one within, values_is);
    few = omega (arith, values_is, state.few);
    size = omega (arith, values_is, state.size);
  }

  pub state_assigned : (ok : Bool) → b.trail ≡ (if ok then s.assigned.trail ++ e ∷ [] else s.assigned.trail)
      → IsState (record s { assigned = b })
  state_assigned true is = state_pushed is
  state_assigned false is = state_same is

-- forced entries more keep the watch rule below the propagated
pub ready_grown : (inputs lines : List (List Literal)) (propagated : ℕ) (a b : AssignedValue) (w : WatchValue) → IsReady inputs lines propagated a w
    → IsGrown a.trail b.trail → IsTrail inputs lines b.trail → length b.values ≡ length a.values
    → IsReady inputs lines propagated b w
ready_grown inputs lines propagated a b w ready grown is_trail same = record {
  is_trail = is_trail;
  stored = ready.stored;
  guarded = subst (λ t. IsGuarded w.clauses t propagated) (sym grown.trail) (guarded_push w.clauses a.trail grown.more propagated ready.within ready.guarded);
  within = omega (arith, ready.within, ap length grown.trail, length-append a.trail grown.more);
  sized = ready.sized ∙ ap (λ x. 2 * x) (sym same);
}

pub lasting_grown : (clauses : List (List Literal)) (old new : List TrailEntry) (n : ℕ) → n ≤ length old → IsGrown old new → IsLasting clauses old n
    → IsLasting clauses new n
lasting_grown clauses old new n fits grown lasting = subst (λ t. IsLasting clauses t n) (sym grown.trail) (lasting_push clauses old grown.more n fits lasting)

-- what is true on the front is true on the trail
pub firm_now : (inputs lines : List (List Literal)) (units : List Hint) (units_done units_trail : ℕ) (trail : List TrailEntry) → units_trail ≤ length trail
    → AreFirm inputs lines units units_done (literals_of (take units_trail trail)) → AreFirm inputs lines units units_done (literals_of trail)
firm_now inputs lines units units_done units_trail trail fits are u clause below is =
    let told = are u clause below is in (
      told.0,
      told.1,
      subst (λ ls. Contains ls told.0) (sym
          (ap literals_of (sym (take-append-drop units_trail trail))
          ∙ map-append (λ (e : TrailEntry). e.literal) (take units_trail trail) (drop units_trail trail)))
          (Contains-append_left (literals_of (take units_trail trail)) (literals_of (drop units_trail trail)) told.0 told.2),
    )

-- all short clauses are true
pub state_firm : {s : Parts} (still solid : ℕ) → IsState s → AreFirm s.log.inputs s.log.lines s.units (length s.units) (literals_of s.assigned.trail)
    → ((length s.units ≤ s.units_done) × (still ≡ s.units_done) × (solid ≡ s.units_trail)) ⊎ ((still ≡ length s.units) × (solid ≡ length s.assigned.trail))
    → IsState (record s { units_done = still; units_trail = solid })
state_firm {s} still solid state are cases = record {
  ready = state.ready;
  low = state.low;
  is_lasting = state.is_lasting;
  all = state.all;
  long = state.long;
  short = state.short;
  ones = state.ones;
  units_done_in = elim cases [ inl kept ↦ omega (arith, kept.1, state.units_done_in) | inr now ↦ omega (arith, now.0) ];
  units_trail_in = elim cases [ inl kept ↦ omega (arith, kept.2, state.units_trail_in) | inr now ↦ omega (arith, now.1) ];
  are_firm = λ u clause below is. elim cases [
    | inl kept ↦ subst (λ n. HasTrue (literals_of (take n s.assigned.trail)) clause) (sym kept.2) (state.are_firm u clause (omega (arith, below, kept.1)) is)
    | inr now ↦
        subst (λ t. HasTrue (literals_of t) clause) (sym (take_all solid s.assigned.trail (omega (arith, now.1))))
        (are u clause (omega (arith, below, now.0)) is)
  ];
  known_inputs = state.known_inputs;
  known_lines = state.known_lines;
  decided = state.decided;
  room = state.room;
  few = state.few;
  size = state.size;
}

pub finished : (count units_done still solid units_trail len : ℕ)
    → units_done ≤ count → ((count ≤ units_done) × (still ≡ units_done) × (solid ≡ units_trail)) ⊎ ((still ≡ count) × (solid ≡ len)) → still ≡ count
finished count units_done still solid units_trail len fits cases = elim cases [ inl kept ↦ omega (arith, kept.0, kept.1, fits) | inr now ↦ now.0 ]

-- the same, for what callers see
pub is_propagated : (letters : ℕ) (log : LogValue) (all_lines : Bool) (old new : List TrailEntry) → IsGrown old new
    → Propagated (state_of letters old log all_lines) (state_of letters new log all_lines)
is_propagated letters log all_lines old new grown =
    record { letters = refl; log = refl; all_lines = refl; more = grown.more; trail = grown.trail; forced = grown.forced }

-- the short clauses were visited
pub state_visited : {s : Parts} (b : AssignedValue) → IsState s → IsGrown s.assigned.trail b.trail → IsTrail s.log.inputs s.log.lines b.trail
    → length b.values ≡ length s.assigned.values → IsState (record s { assigned = b })
state_visited {s} b state grown is_trail same =
    state_grown s.lasting state (ready_grown s.log.inputs s.log.lines s.propagated s.assigned b s.watches state.ready grown is_trail same) grown same refl
    state.low
    (lasting_grown s.watches.clauses s.assigned.trail b.trail s.lasting (omega (arith, state.low, state.ready.within)) grown state.is_lasting)

-- the state that knows nothing
pub state_new : (a : AssignedValue) (w : WatchValue) (units : List Hint) (log : LogValue) (marked : ℕ) → a ≡ record { values = []; trail = [] }
    → w ≡ record { clauses = []; lists = []; names = [] } → units ≡ [] → log ≡ record { inputs = []; lines = []; hints = [] }
    → IsState (record {
      letters = 0;
      assigned = a;
      watches = w;
      units = units;
      log = log;
      propagated = 0;
      lasting = 0;
      units_done = 0;
      units_trail = 0;
      marked = marked;
      all_lines = true;
    })
state_new a w units log marked a_is w_is units_is log_is = rw (a_is, w_is, units_is, log_is) (record {
  ready = record {
    is_trail = λ k d below. absurd (omega (arith, below));
    stored = record { paired = refl; from_log = λ c known. absurd (omega (arith, known)) };
    guarded = λ c k x known watch below is. absurd (omega (arith, below));
    within = omega arith;
    sized = refl;
  };
  low = omega arith;
  is_lasting = λ c k x known watch below is. absurd (omega (arith, below));
  all = λ hint clause heeded is. absurd (none hint clause is);
  long = λ c clause known. absurd (omega (arith, known));
  short = λ u below. absurd (omega (arith, below));
  ones = λ hint clause is one. absurd (none hint clause is);
  units_done_in = omega arith;
  units_trail_in = omega arith;
  are_firm = λ u clause below is. absurd (omega (arith, below));
  known_inputs = λ i d below. absurd (omega (arith, below));
  known_lines = λ i d below. absurd (omega (arith, below));
  decided = λ k d below. absurd (omega (arith, below));
  room = λ x from_one within. absurd (omega (arith, from_one, within));
  few = omega arith;
  size = omega arith;
})
  where
    none_numbered : (n : ℕ) (clause : List Literal) → ¬ (numbered [] n ≡ Some clause)
    none_numbered zero clause is = cc
    none_numbered (suc n) clause is = cc

    none : (hint : Hint) (clause : List Literal) → ¬ (named [] [] hint ≡ Some clause)
    none (Clause n) clause is = none_numbered n clause is
    none (Line n) clause is = none_numbered n clause is
