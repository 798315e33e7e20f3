-- The clauses of a log that are gathered anew or come from the log, and the state that watches them.
use Rattle.std.proofs.Common.{◌≡◌, ℕ, zero, suc, ◌<◌, ◌≤◌, ◌+◌, ◌*◌, ◌-◌, ◌⊎◌, inl, inr, Bool, true, false, List, [], ◌∷◌, ◌++◌, Some, All, length, map, get_or}
use Rattle.std.proofs.Common.{sym, ap, ◌∙◌, subst, arith}
use Rattle.std.proofs.lemmas.Bool.{cases_lt}
use Rattle.std.proofs.Math.ListN.{get_or-map, get_or-eq_default}
use Rattle.std.proofs.lemmas.List.{map-append, length-map}
use Rattle.std.proofs.lemmas.Option.{slice_get-get_or, slice_get_within}
use mathlib.Core.Bool.{false≢true}
use Rattle.cnf_base.specs.declared.literal.Literal.{Literal}
use Rattle.cnf_base.specs.declared.literal.Hint.{Hint}
use Rattle.cnf_base.specs.declared.literal.Hint.TheVariants.{Clause, Line}
use Rattle.cnf_base.specs.Step.{named, numbered, clause_at}
use Rattle.cnf_base.specs.Known.{AreKnown}
use Rattle.clause_log.specs.LogValue.{LogValue}
use Rattle.cdcl_watches.specs.Watching.{WatchValue, AreApart, with_clause}
use Rattle.cdcl_trail.specs.Entries.{hint_of}
use Rattle.cdcl_propagate.specs.Visit.{HaveSame, IsStored, names_of}
use Rattle.cdcl_propagate.specs.Units.{IsOne}
use Rattle.cdcl_propagate.proofs.Ready.{code_known}
use Rattle.cdcl_state.specs.State.{Parts, IsState, IsNamed, AreAll, AreLong, IsListed}
use Rattle.cdcl_state.specs.StateValue.{IsHeeded}
use Rattle.cdcl_state.specs.Gathered.{HasRoom, IsPut, AreThere, IsMet, IsCarried, IsGathered}
use Rattle.cdcl_state.proofs.Attach.{IsMore, listed_more, listed_last, stored_more, long_more, lists_added}
use Rattle.cdcl_state.proofs.Distinct.{one_short, same_itself, same_again}

-- a clause that was put is the same whatever it is made of
pub put_same : (old new : WatchValue) (clause r : List Literal) (hint : Hint) → HaveSame clause r → IsPut old new r hint → IsPut old new clause hint
put_same old new clause r hint same put = record { stored = put.stored; same = same_again clause r put.stored same put.same; apart = put.apart; is = put.is }

pub put_long : (old new : WatchValue) (clause : List Literal) (hint : Hint) → AreApart clause → 2 ≤ length clause → IsNamed old new clause hint
    → IsPut old new clause hint
put_long old new clause hint apart long named = record { stored = clause; same = same_itself clause; apart = apart; is = inr (long, named) }

-- the lists stay as many
pub put_lists : (old new : WatchValue) (clause : List Literal) (hint : Hint) → IsPut old new clause hint → length new.lists ≡ length old.lists
put_lists old new clause hint put = elim put.is [
  | inl few ↦ ap (λ (w : WatchValue). length w.lists) few.1
  | inr long ↦ ap (λ (w : WatchValue). length w.lists) long.1.is ∙ lists_added old put.stored long.1.name
]

-- the clause of a number
pub numbered_at : (clauses : List (List Literal)) (n : ℕ) → 1 ≤ n → n ≤ length clauses → numbered clauses n ≡ Some (clause_at clauses n)
numbered_at clauses zero from_one within = absurd (omega (arith, from_one))
numbered_at clauses (suc n) from_one within =
    let same : n ≡ suc n - 1 = omega arith in
    slice_get-get_or clauses n [] (omega (arith, within)) ∙ ap (λ k. Some (get_or clauses k [])) same

pub numbered_within : (clauses : List (List Literal)) (n : ℕ) (clause : List Literal) → numbered clauses n ≡ Some clause → (1 ≤ n) × (n ≤ length clauses)
numbered_within clauses zero clause is = cc
numbered_within clauses (suc n) clause is = let low = slice_get_within clauses n clause is in (omega arith, omega (arith, low))

-- fewer were met
pub gathered_fewer : (log : LogValue) (w : WatchValue) (met fewer : Hint → Type 0) → IsGathered met log w
    → ((h : Hint) (c : List Literal) → fewer h → named log.inputs log.lines h ≡ Some c → met h) → IsGathered fewer log w
gathered_fewer log w met fewer gathered were =
    record { stored = gathered.stored; long = gathered.long; held = λ h c here is. gathered.held h c (were h c here is) is }

-- one more was met, and put among the watched ones
pub gathered_put : (log : LogValue) (old new : WatchValue) (met more : Hint → Type 0) (hint : Hint) (clause : List Literal) → IsGathered met log old
    → IsPut old new clause hint → named log.inputs log.lines hint ≡ Some clause
    → ((h : Hint) → more h → met h ⊎ (h ≡ hint)) → IsGathered more log new
gathered_put log old new met more hint clause gathered put here met_one = elim put.is [
  | inl few ↦ subst (λ x. IsGathered more log x) (sym few.1) (record {
    stored = gathered.stored;
    long = gathered.long;
    held = λ h c met is. elim (met_one h met) [
      | inl was ↦ gathered.held h c was is
      | inr e ↦
          let same : Some clause ≡ Some c = sym here ∙ ap (named log.inputs log.lines) (sym e) ∙ is in
          let of_clause : clause ≡ c = cc in
          inr (subst IsOne of_clause (one_short clause put.stored put.same few.0))
    ];
  })
  | inr long ↦
      let r = put.stored in
      let v = with_clause old r long.1.name in
      let itself : IsMore log log hint clause = record { kept = λ h c is. is; only = λ h c is. inl is; here = here } in
      let names_are : names_of v ≡ names_of old ++ hint ∷ [] = map-append hint_of old.names (long.1.name ∷ []) ∙ ap (λ x. names_of old ++ x ∷ []) long.1.says in
      subst (λ x. IsGathered more log x) (sym long.1.is) (record {
        stored = subst (IsStored log.inputs log.lines v.clauses) (sym names_are)
            (stored_more log log hint clause itself old.clauses (names_of old) r put.same gathered.stored);
        long = subst (AreLong log.inputs log.lines) (sym names_are)
            (long_more log log hint clause itself old.clauses (names_of old) r put.same long.0 put.apart gathered.stored gathered.long);
        held = subst (λ ns. (h : Hint) (c : List Literal) → more h → named log.inputs log.lines h ≡ Some c → IsListed ns h ⊎ IsOne c) (sym names_are)
            (λ h c met is. elim (met_one h met) [
              | inl was ↦ elim (gathered.held h c was is) [ inl at ↦ inl (listed_more (names_of old) hint h at) | inr one ↦ inr one ]
              | inr e ↦ inl (listed_last (names_of old) hint h e)
            ]);
      })
]

-- one line more
pub met_line : (names : List Hint) (there : List Bool) (j : ℕ) (h : Hint) → IsMet names there (j + 1) h → IsMet names there j h ⊎ (h ≡ Line (j + 1))
met_line names there j (Clause n) met = inl met
met_line names there j (Line n) met = elim met [
  | inl marked ↦ inl (inl marked)
  | inr first ↦ elim (cases_lt n (j + 1)) [
    | inl low ↦ inl (inr (omega (arith, low)))
    | inr high ↦ let same : n ≡ j + 1 = omega (arith, first, high) in inr (ap Line same)
  ]
]

-- a line that is marked
pub met_marked : (names : List Hint) (there : List Bool) (j : ℕ) (h : Hint) → get_or there (j + 1) false ≡ true → IsMet names there (j + 1) h
    → IsMet names there j h
met_marked names there j h marked met = elim (met_line names there j h met) [
  | inl was ↦ was
  | inr e ↦ subst (IsMet names there j) (sym e) (inl marked)
]

-- what was met at the beginning
pub met_begun : (names : List Hint) (there : List Bool) (j : ℕ) (h : Hint) → IsMet names there 0 h → IsMet names there j h
met_begun names there j (Clause n) met = met
met_begun names there j (Line n) met = elim met [
  | inl marked ↦ inl marked
  | inr none ↦ inr (omega (arith, none))
]

pub gathered_begun : (names : List Hint) (there : List Bool) (j : ℕ) (log : LogValue) (w : WatchValue) → IsGathered (IsMet names there j) log w
    → IsGathered (IsMet names there 0) log w
gathered_begun names there j log w gathered =
    gathered_fewer log w (IsMet names there j) (IsMet names there 0) gathered (λ h c met is. met_begun names there j h met)

-- where lines are left out, the inputs
carried_inputs : (names : List Hint) (there : List Bool) (h : Hint) → IsCarried false names h → IsMet names there 0 h
carried_inputs names there (Clause n) carried = carried
carried_inputs names there (Line n) carried = absurd (false≢true carried)

pub gathered_inputs : (names : List Hint) (there : List Bool) (log : LogValue) (w : WatchValue) → IsGathered (IsMet names there 0) log w
    → IsGathered (IsCarried false names) log w
gathered_inputs names there log w gathered =
    gathered_fewer log w (IsMet names there 0) (IsCarried false names) gathered (λ h c carried is. carried_inputs names there h carried)

-- where every line was met
carried_all : (log : LogValue) (names : List Hint) (there : List Bool) (h : Hint) (clause : List Literal) → IsCarried true names h
    → named log.inputs log.lines h ≡ Some clause → IsMet names there (length log.lines) h
carried_all log names there (Clause n) clause carried is = carried
carried_all log names there (Line n) clause carried is = inr (numbered_within log.lines n clause is).1

pub gathered_all : (names : List Hint) (there : List Bool) (log : LogValue) (w : WatchValue) → IsGathered (IsMet names there (length log.lines)) log w
    → IsGathered (IsCarried true names) log w
gathered_all names there log w gathered =
    gathered_fewer log w (IsMet names there (length log.lines)) (IsCarried true names) gathered (λ h c carried is. carried_all log names there h c carried is)

-- no line is marked yet
pub there_none : (names : List Hint) (there : List Bool) → All (λ mark. mark ≡ false) there → AreThere names there
there_none names there unmarked n is = elim (cases_lt n (length there)) [
  | inl low ↦ absurd (false≢true (sym (unmarked n false low) ∙ is))
  | inr high ↦ absurd (false≢true (sym (get_or-eq_default there false high) ∙ is))
]

-- a line that is watched is marked
pub there_more : (names : List ℕ) (there marks : List Bool) (c name : ℕ) → AreThere (map hint_of names) there → c < length names → name ≡ get_or names c 0
    → ((n : ℕ) → get_or marks n false ≡ true → (get_or there n false ≡ true) ⊎ (hint_of name ≡ Line n)) → AreThere (map hint_of names) marks
there_more names there marks c name are low name_is only n is = elim (only n is) [
  | inl was ↦ are n was
  | inr e ↦ (c, omega (arith, low, length-map names hint_of), get_or-map hint_of names c 0 ∙ ap hint_of (sym name_is) ∙ e)
]

-- what is watched before a line comes from the log
pub gathered_there : (log : LogValue) (w : WatchValue) (there : List Bool) → IsStored log.inputs log.lines w.clauses (names_of w)
    → AreLong log.inputs log.lines (names_of w) → AreThere (names_of w) there → IsGathered (IsMet (names_of w) there 0) log w
gathered_there log w there stored long are = record { stored = stored; long = long; held = held }
  where
    held : (hint : Hint) (clause : List Literal) → IsMet (names_of w) there 0 hint → named log.inputs log.lines hint ≡ Some clause
        → IsListed (names_of w) hint ⊎ IsOne clause
    held (Clause n) clause met is = inl met
    held (Line n) clause met is = elim met [
      | inl marked ↦ inl (are n marked)
      | inr none ↦ let within = numbered_within log.lines n clause is in absurd (omega (arith, within.0, none))
    ]

-- the inputs among what is watched
pub gathered_itself : (log : LogValue) (w : WatchValue) → IsStored log.inputs log.lines w.clauses (names_of w) → AreLong log.inputs log.lines (names_of w)
    → IsGathered (IsCarried false (names_of w)) log w
gathered_itself log w stored long = record { stored = stored; long = long; held = held }
  where
    held : (hint : Hint) (clause : List Literal) → IsCarried false (names_of w) hint → named log.inputs log.lines hint ≡ Some clause
        → IsListed (names_of w) hint ⊎ IsOne clause
    held (Clause n) clause carried is = inl carried
    held (Line n) clause carried is = absurd (false≢true carried)

-- a clause's literals have room where all clauses' have
pub room_at : (marked lists m n i : ℕ) (clauses : List (List Literal)) (clause : List Literal) → All (All (HasRoom marked lists)) clauses
    → m ≡ marked → n ≡ lists → i < length clauses → clause ≡ clause_at clauses (i + 1) → All (HasRoom m n) clause
room_at marked lists m n i clauses clause room same_marked same_lists low is =
    let at : i + 1 - 1 ≡ i = omega arith in
    rw (is, same_marked, same_lists, at) (room i [] low)

-- known letters have room
pub room_known : (letters count marked : ℕ) (clauses : List (List Literal)) → ((x : ℕ) → 1 ≤ x → x ≤ letters → x < count)
    → count ≤ marked → AreKnown letters clauses → All (All (HasRoom marked (2 * count))) clauses
room_known letters count marked clauses room size known i d below j e low =
    let l = get_or (get_or clauses i d) j e in
    let is = known i d below j e low in
    let within : l.letter.0 < count = room l.letter.0 is.from_one is.within in
    record { mark = omega (arith, within, size); list = code_known l count within }

-- a clause that is heeded came over, or is a short one
carried_heeded : (all_lines every : Bool) (log : LogValue) (names units : List Hint) (h : Hint) (clause : List Literal)
    → AreAll all_lines log.inputs log.lines names units → IsHeeded every h → named log.inputs log.lines h ≡ Some clause
    → IsCarried every names h ⊎ IsListed units h
carried_heeded all_lines every log names units (Clause n) clause all heeded is = all (Clause n) clause tt is
carried_heeded all_lines every log names units (Line n) clause all heeded is = inl heeded

-- the state that watches what was gathered, with all lists to visit
pub state_gathered : {s : Parts} (v : WatchValue) (size : ℕ) (every : Bool) → IsState s → IsGathered (IsCarried every (names_of s.watches)) s.log v
    → length v.lists ≡ 2 * length s.assigned.values → size ≡ s.marked
    → IsState (record s { watches = v; propagated = 0; lasting = 0; marked = size; all_lines = every })
state_gathered {s} v size every state gathered lists same = record {
  ready = record {
    is_trail = state.ready.is_trail;
    stored = gathered.stored;
    guarded = λ c k x known watch below is. absurd (omega (arith, below));
    within = omega arith;
    sized = lists;
  };
  low = omega arith;
  is_lasting = λ c k x known watch below is. absurd (omega (arith, below));
  all = λ h c heeded is. elim (carried_heeded s.all_lines every s.log (names_of s.watches) s.units h c state.all heeded is) [
    | inl carried ↦ elim (gathered.held h c carried is) [ inl at ↦ inl at | inr one ↦ inr (state.ones h c is one) ]
    | inr at ↦ inr at
  ];
  long = gathered.long;
  short = state.short;
  ones = state.ones;
  units_done_in = state.units_done_in;
  units_trail_in = state.units_trail_in;
  are_firm = state.are_firm;
  known_inputs = state.known_inputs;
  known_lines = state.known_lines;
  decided = state.decided;
  room = state.room;
  few = state.few;
  size = omega (arith, state.size, same);
}
