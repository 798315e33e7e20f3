-- A clause more in the log, and among those that are watched or short.
use Rattle.std.proofs.Common.{◌≡◌, ℕ, zero, suc, ◌<◌, ◌≤◌, ◌+◌, ◌*◌, ◌⊎◌, inl, inr, List, [], ◌∷◌, ◌++◌, Option, Some, None, IfSome, take, All, length}
use Rattle.std.proofs.Common.{get_or, refl, sym, ap, ◌∙◌, subst, arith, length-set}
use Rattle.std.proofs.lemmas.Bool.{cases_lt}
use Rattle.std.proofs.lemmas.List.{map-append, get_or_append_left, get_or_at, length_push}
use Rattle.std.proofs.lemmas.List.Elements.{All-contains, All-push}
use Rattle.std.proofs.lemmas.Option.{slice_get-get_or, slice_get_within, get_or_from_slice_get}
use Rattle.cnf_base.specs.declared.literal.Literal.{Literal}
use Rattle.cnf_base.specs.declared.literal.Hint.{Hint}
use Rattle.cnf_base.specs.declared.literal.Hint.TheVariants.{Clause, Line}
use Rattle.cnf_base.specs.Literal.{opposite}
use Rattle.cnf_base.specs.Step.{named, numbered}
use Rattle.cnf_base.specs.Known.{IsKnown, AreKnown}
use Rattle.clause_log.specs.LogValue.{LogValue, with_input, with_line}
use Rattle.cdcl_trail.specs.Trail.{literals_of, IsTrail, IsReason, StandsAt, HasLevel, literal_at, place_level}
use Rattle.cdcl_watches.specs.Watching.{IsWatch, AreApart, WatchValue, clause_of, list_of, code, with_clause, with_watch, blank}
use Rattle.cdcl_trail.specs.Assigned.{AssignedValue}
use Rattle.cdcl_trail.specs.Entries.{hint_of}
use Rattle.cdcl_propagate.specs.Visit.{HasTrue, IsStored, IsGuarded, HaveSame, blank_hint, names_of}
use Rattle.cdcl_state.specs.State.{IsUnwatched, IsRewound, IsNamed, Parts, IsState, IsListed, AreAll, AreLong}
use Rattle.cdcl_propagate.specs.Lasting.{IsLasting, IsTrueBy}
use Rattle.cdcl_propagate.specs.Units.{IsOne, AreShort, AreFirm}
use Rattle.cdcl_trail.specs.declared.assigned.TrailEntry.{TrailEntry}
use Rattle.cdcl_watches.proofs.Moves.{first_two}
use Rattle.cdcl_propagate.proofs.Ready.{code_known}

some_same : {X : Type 0} {x y : X} {o : Option X} → o ≡ Some x → o ≡ Some y → x ≡ y
some_same a b = cc

-- two literals that differ are not one
not_one : (clause r : List Literal) → HaveSame clause r → 2 ≤ length r → AreApart r → ¬ IsOne clause
not_one clause r same long apart one =
    apart 0 1 blank (omega arith) (omega (arith, long))
    (one (get_or r 0 blank) (get_or r 1 blank) (same.back 0 blank (omega (arith, long))) (same.back 1 blank (omega (arith, long))))

-- a name more
pub listed_more : (names : List Hint) (x h : Hint) → IsListed names h → IsListed (names ++ x ∷ []) h
listed_more names x h at = (at.0, omega (arith, at.1, length_push names x), get_or_append_left names (x ∷ []) blank_hint at.0 at.1 ∙ at.2)

pub listed_last : (names : List Hint) (x h : Hint) → h ≡ x → IsListed (names ++ x ∷ []) h
listed_last names x h same = (length names, omega (arith, length_push names x), get_or_at names x [] blank_hint (length names) refl ∙ sym same)

-- the new log has the clauses of the old one under their names, and one more
pub record IsMore (old new : LogValue) (hint : Hint) (clause : List Literal) : Type 0 where
  pub kept : (h : Hint) (c : List Literal) → named old.inputs old.lines h ≡ Some c → named new.inputs new.lines h ≡ Some c
  pub only : (h : Hint) (c : List Literal) → named new.inputs new.lines h ≡ Some c → (named old.inputs old.lines h ≡ Some c) ⊎ (h ≡ hint)
  pub here : named new.inputs new.lines hint ≡ Some clause

numbered_kept : (xs : List (List Literal)) (x : List Literal) (n : ℕ) (c : List Literal) → numbered xs n ≡ Some c → numbered (xs ++ x ∷ []) n ≡ Some c
numbered_kept xs x zero c is = cc
numbered_kept xs x (suc n) c is =
    let low = slice_get_within xs n c is in
    slice_get-get_or (xs ++ x ∷ []) n [] (omega (arith, low, length_push xs x))
    ∙ ap Some (get_or_append_left xs (x ∷ []) [] n low ∙ get_or_from_slice_get xs n c [] is)

numbered_only : (xs : List (List Literal)) (x : List Literal) (n : ℕ) (c : List Literal) → numbered (xs ++ x ∷ []) n ≡ Some c
    → (numbered xs n ≡ Some c) ⊎ (n ≡ length xs + 1)
numbered_only xs x zero c is = cc
numbered_only xs x (suc n) c is = elim (cases_lt n (length xs)) [
  | inl low ↦ inl (slice_get-get_or xs n [] low ∙ ap Some (sym (get_or_append_left xs (x ∷ []) [] n low) ∙ get_or_from_slice_get (xs ++ x ∷ []) n c [] is))
  | inr high ↦ inr (omega (arith, slice_get_within (xs ++ x ∷ []) n c is, length_push xs x))
]

numbered_last : (xs : List (List Literal)) (x : List Literal) (n : ℕ) → n ≡ length xs + 1 → numbered (xs ++ x ∷ []) n ≡ Some x
numbered_last xs x zero is = absurd (omega (arith, is))
numbered_last xs x (suc n) is =
    let same : length xs ≡ n = omega (arith, is) in
    slice_get-get_or (xs ++ x ∷ []) n [] (omega (arith, same, length_push xs x)) ∙ ap Some (get_or_at xs x [] [] n same)

pub input_more : (log : LogValue) (clause : List Literal) (n : ℕ) → n ≡ length log.inputs + 1 → IsMore log (with_input log clause) (Clause n) clause
input_more log clause n is = record { kept = kept; only = only; here = numbered_last log.inputs clause n is }
  where
    kept : (h : Hint) (c : List Literal) → named log.inputs log.lines h ≡ Some c → named (log.inputs ++ clause ∷ []) log.lines h ≡ Some c
    kept (Clause m) c h = numbered_kept log.inputs clause m c h
    kept (Line m) c h = h

    only : (h : Hint) (c : List Literal) → named (log.inputs ++ clause ∷ []) log.lines h ≡ Some c → (named log.inputs log.lines h ≡ Some c) ⊎ (h ≡ Clause n)
    only (Clause m) c h = elim (numbered_only log.inputs clause m c h) [ inl old ↦ inl old | inr e ↦ inr (ap Clause (e ∙ sym is)) ]
    only (Line m) c h = inl h

pub line_more : (log : LogValue) (clause : List Literal) (hints : List Hint) (n : ℕ)
    → n ≡ length log.lines + 1 → IsMore log (with_line log clause hints) (Line n) clause
line_more log clause hints n is = record { kept = kept; only = only; here = numbered_last log.lines clause n is }
  where
    kept : (h : Hint) (c : List Literal) → named log.inputs log.lines h ≡ Some c → named log.inputs (log.lines ++ clause ∷ []) h ≡ Some c
    kept (Line m) c h = numbered_kept log.lines clause m c h
    kept (Clause m) c h = h

    only : (h : Hint) (c : List Literal) → named log.inputs (log.lines ++ clause ∷ []) h ≡ Some c → (named log.inputs log.lines h ≡ Some c) ⊎ (h ≡ Line n)
    only (Line m) c h = elim (numbered_only log.lines clause m c h) [ inl old ↦ inl old | inr e ↦ inr (ap Line (e ∙ sym is)) ]
    only (Clause m) c h = inl h

module _ (old new : LogValue) (hint : Hint) (clause : List Literal) (more : IsMore old new hint clause) where
  reason_more : (before : List Literal) (u : Literal) (h : Hint) → IsReason old.inputs old.lines before u h → IsReason new.inputs new.lines before u h
  reason_more before u h reason = record { clause = reason.clause; is = more.kept h reason.clause reason.is; there = reason.there; others = reason.others }

  stands_more : (before : List TrailEntry) (e : TrailEntry) → StandsAt old.inputs old.lines before e → StandsAt new.inputs new.lines before e
  stands_more before e stands = record { reason = go e.reason stands.reason; decision = stands.decision; rising = stands.rising }
    where
      go : (o : Option Hint) → IfSome o
          (λ h. IsReason old.inputs old.lines (literals_of before) e.literal h × (e.level ≤ length before) × ((e.level ≡ 0) ⊎ HasLevel before e.level))
          → IfSome o
          (λ h. IsReason new.inputs new.lines (literals_of before) e.literal h × (e.level ≤ length before) × ((e.level ≡ 0) ⊎ HasLevel before e.level))
      go None told = tt
      go (Some h) told = (reason_more (literals_of before) e.literal h told.0, told.1, told.2)

  pub trail_more : (trail : List TrailEntry) → IsTrail old.inputs old.lines trail → IsTrail new.inputs new.lines trail
  trail_more trail is_trail k d below = stands_more (take k trail) (get_or trail k d) (is_trail k d below)

  pub stored_more : (clauses : List (List Literal)) (names : List Hint) (r : List Literal) → HaveSame clause r → IsStored old.inputs old.lines clauses names
      → IsStored new.inputs new.lines (clauses ++ r ∷ []) (names ++ hint ∷ [])
  stored_more clauses names r same stored = record {
    paired = omega (arith, stored.paired, length_push clauses r, length_push names hint);
    from_log = λ c known. elim (cases_lt c (length clauses)) [
      | inl low ↦
          let from = stored.from_log c low in
          let name = get_or_append_left names (hint ∷ []) blank_hint c (omega (arith, low, stored.paired)) in (
            from.0,
            ap (named new.inputs new.lines) name ∙ more.kept (get_or names c blank_hint) from.0 from.1,
            subst (HaveSame from.0) (sym (get_or_append_left clauses (r ∷ []) [] c low)) from.2,
          )
      | inr high ↦
          let last : length clauses ≡ c = omega (arith, known, length_push clauses r) in (
            clause,
            ap (named new.inputs new.lines) (get_or_at names hint [] blank_hint c (stored.paired ∙ last)) ∙ more.here,
            subst (HaveSame clause) (sym (get_or_at clauses r [] [] c last)) same,
          )
    ];
  }

  pub long_more : (clauses : List (List Literal)) (names : List Hint) (r : List Literal) → HaveSame clause r → 2 ≤ length r → AreApart r
      → IsStored old.inputs old.lines clauses names → AreLong old.inputs old.lines names → AreLong new.inputs new.lines (names ++ hint ∷ [])
  long_more clauses names r same long apart stored old_long c other known is one = elim (cases_lt c (length names)) [
    | inl low ↦
        let from = stored.from_log c (omega (arith, low, stored.paired)) in
        let name = get_or_append_left names (hint ∷ []) blank_hint c low in
        let is_other : from.0 ≡ other = some_same (more.kept (get_or names c blank_hint) from.0 from.1) (ap (named new.inputs new.lines) (sym name) ∙ is) in
        old_long c from.0 low from.1 (subst IsOne (sym is_other) one)
    | inr high ↦
        let last : length names ≡ c = omega (arith, known, length_push names hint) in
        let is_other : clause ≡ other = some_same more.here (ap (named new.inputs new.lines) (sym (get_or_at names hint [] blank_hint c last)) ∙ is) in
        not_one clause r same long apart (subst IsOne (sym is_other) one)
  ]

  short_more : (units : List Hint) → AreShort old.inputs old.lines units → AreShort new.inputs new.lines units
  short_more units short u low = let told = short u low in (told.0, more.kept (get_or units u blank_hint) told.0 told.1, told.2)

  firm_kept : (units : List Hint) (units_done : ℕ) (true_ones : List Literal) → units_done ≤ length units → AreShort old.inputs old.lines units
      → AreFirm old.inputs old.lines units units_done true_ones → AreFirm new.inputs new.lines units units_done true_ones
  firm_kept units units_done true_ones fits short firm u other below is =
      let told = short u (omega arith) in
      let same : told.0 ≡ other = some_same (more.kept (get_or units u blank_hint) told.0 told.1) is in
      subst (HasTrue true_ones) same (firm u told.0 below told.1)

-- a literal that became false below the place is none of the first two
pub not_false_first : (trail : List TrailEntry) (r : List Literal) (place k : ℕ) (x : Literal) → IsUnwatched trail r place → k < place → IsWatch r x
    → ¬ (literal_at trail k ≡ opposite x)
not_false_first trail r place k x free low watch is = elim (first_two r x watch.0 blank watch.1) [
  | inl e ↦ (free k low).0 (is ∙ ap opposite e.0)
  | inr e ↦ (free k low).1 (is ∙ ap opposite e.0)
]

module _ (clauses : List (List Literal)) (r : List Literal) (trail : List TrailEntry) where
  pub guarded_added : (propagated : ℕ) → IsGuarded clauses trail propagated
      → ((k : ℕ) (x : Literal) → IsWatch r x → k < propagated → literal_at trail k ≡ opposite x → HasTrue (literals_of trail) r)
      → IsGuarded (clauses ++ r ∷ []) trail propagated
  guarded_added propagated guarded here c k x known watch below is_false = elim (cases_lt c (length clauses)) [
    | inl low ↦
        let same : clause_of (clauses ++ r ∷ []) c ≡ clause_of clauses c = get_or_append_left clauses (r ∷ []) [] c low in
        subst (HasTrue (literals_of trail)) (sym same) (guarded c k x low (subst (λ s. IsWatch s x) same watch) below is_false)
    | inr high ↦
        let same : clause_of (clauses ++ r ∷ []) c ≡ r = get_or_at clauses r [] [] c (omega (arith, known, length_push clauses r)) in
        subst (HasTrue (literals_of trail)) (sym same) (here k x (subst (λ s. IsWatch s x) same watch) below is_false)
  ]

  pub lasting_added : (lasting : ℕ) → IsLasting clauses trail lasting
      → ((k : ℕ) (x : Literal) → IsWatch r x → k < lasting → literal_at trail k ≡ opposite x → IsTrueBy trail (place_level trail k) r)
      → IsLasting (clauses ++ r ∷ []) trail lasting
  lasting_added lasting is_lasting here c k x known watch below is_false = elim (cases_lt c (length clauses)) [
    | inl low ↦
        let same : clause_of (clauses ++ r ∷ []) c ≡ clause_of clauses c = get_or_append_left clauses (r ∷ []) [] c low in
        subst (IsTrueBy trail (place_level trail k)) (sym same) (is_lasting c k x low (subst (λ s. IsWatch s x) same watch) below is_false)
    | inr high ↦
        let same : clause_of (clauses ++ r ∷ []) c ≡ r = get_or_at clauses r [] [] c (omega (arith, known, length_push clauses r)) in
        subst (IsTrueBy trail (place_level trail k)) (sym same) (here k x (subst (λ s. IsWatch s x) same watch) below is_false)
  ]

-- a clause that was put behind the watched ones leaves the number of lists
pub lists_added : (w : WatchValue) (r : List Literal) (name : ℕ) → length (with_clause w r name).lists ≡ length w.lists
lists_added w r name =
    let a = get_or r 0 blank in
    let b = get_or r 1 blank in
    let n = length w.clauses in
    length-set (with_watch w.lists a n) (code b) (list_of (with_watch w.lists a n) b ++ n ∷ []) ∙ length-set w.lists (code a) (list_of w.lists a ++ n ∷ [])

module _ {s : Parts} {next : LogValue} {hint : Hint} {clause : List Literal} (state : IsState s) (more : IsMore s.log next hint clause)
    (known_inputs : AreKnown s.letters next.inputs) (known_lines : AreKnown s.letters next.lines) where
  -- a clause of at least two literals more
  pub state_long : {v : WatchValue} {r : List Literal} {h l : ℕ} → IsNamed s.watches v r hint → HaveSame clause r → 2 ≤ length r → AreApart r
      → IsRewound s.assigned.trail r s.propagated s.lasting h l → IsState (record s { watches = v; log = next; propagated = h; lasting = l })
  state_long {v} {r} {h} {l} is_named same long apart rewound =
      let u = with_clause s.watches r is_named.name in
      let names_are : names_of u ≡ names_of s.watches ++ hint ∷ [] =
      map-append hint_of s.watches.names (is_named.name ∷ []) ∙ ap (λ x. names_of s.watches ++ x ∷ []) is_named.says in
      subst (λ x. IsState (record s { watches = x; log = next; propagated = h; lasting = l })) (sym is_named.is) (record {
        ready = record {
          is_trail = trail_more s.log next hint clause more s.assigned.trail state.ready.is_trail;
          stored = subst (IsStored next.inputs next.lines u.clauses) (sym names_are)
              (stored_more s.log next hint clause more s.watches.clauses (names_of s.watches) r same state.ready.stored);
          guarded = guarded_added s.watches.clauses r s.assigned.trail h
              (λ c k x known watch below is. state.ready.guarded c k x known watch (omega (arith, below, rewound.propagated_falls)) is)
              (λ k x watch below is. absurd (not_false_first s.assigned.trail r h k x rewound.free below watch is));
          within = omega (arith, rewound.propagated_falls, state.ready.within);
          sized = lists_added s.watches r is_named.name ∙ state.ready.sized;
        };
        low = rewound.low;
        is_lasting = lasting_added s.watches.clauses r s.assigned.trail l
            (λ c k x known watch below is. state.is_lasting c k x known watch (omega (arith, below, rewound.lasting_falls)) is)
            (λ k x watch below is. absurd (not_false_first s.assigned.trail r h k x rewound.free (omega (arith, below, rewound.low)) watch is));
        all = subst (λ ns. AreAll s.all_lines next.inputs next.lines ns s.units) (sym names_are) (λ x c heeded is. elim (more.only x c is) [
          | inl old ↦ elim (state.all x c heeded old) [ inl at ↦ inl (listed_more (names_of s.watches) hint x at) | inr at ↦ inr at ]
          | inr e ↦ inl (listed_last (names_of s.watches) hint x e)
        ]);
        long = subst (AreLong next.inputs next.lines) (sym names_are)
            (long_more s.log next hint clause more s.watches.clauses (names_of s.watches) r same long apart state.ready.stored state.long);
        short = short_more s.log next hint clause more s.units state.short;
        ones = λ x c is one. elim (more.only x c is) [
          | inl old ↦ state.ones x c old one
          | inr e ↦
              let same_clause : clause ≡ c = some_same more.here (ap (named next.inputs next.lines) (sym e) ∙ is) in
              absurd (not_one clause r same long apart (subst IsOne (sym same_clause) one))
        ];
        units_done_in = state.units_done_in;
        units_trail_in = state.units_trail_in;
        are_firm = firm_kept s.log next hint clause more s.units s.units_done _ state.units_done_in state.short state.are_firm;
        known_inputs = known_inputs;
        known_lines = known_lines;
        decided = state.decided;
        room = state.room;
        few = state.few;
        size = state.size;
      })

  -- a short clause more
  pub state_short : IsOne clause → IsState (record s { units = s.units ++ hint ∷ []; log = next })
  state_short one = record {
    ready = record {
      is_trail = trail_more s.log next hint clause more s.assigned.trail state.ready.is_trail;
      stored = record {
        paired = state.ready.stored.paired;
        from_log = λ c known.
            let from = state.ready.stored.from_log c known in
            (from.0, more.kept (get_or (names_of s.watches) c blank_hint) from.0 from.1, from.2);
      };
      guarded = state.ready.guarded;
      within = state.ready.within;
      sized = state.ready.sized;
    };
    low = state.low;
    is_lasting = state.is_lasting;
    all = λ x c heeded is. elim (more.only x c is) [
      | inl old ↦ elim (state.all x c heeded old) [ inl at ↦ inl at | inr at ↦ inr (listed_more s.units hint x at) ]
      | inr e ↦ inr (listed_last s.units hint x e)
    ];
    long = λ c other known is.
        let from = state.ready.stored.from_log c (omega (arith, known, state.ready.stored.paired)) in
        let same : from.0 ≡ other = some_same (more.kept (get_or (names_of s.watches) c blank_hint) from.0 from.1) is in
        λ is_one. state.long c from.0 known from.1 (subst IsOne (sym same) is_one);
    short = λ u low. elim (cases_lt u (length s.units)) [
      | inl old ↦
          let told = state.short u old in (
            told.0,
            ap (named next.inputs next.lines) (get_or_append_left s.units (hint ∷ []) blank_hint u old) ∙ more.kept (get_or s.units u blank_hint) told.0 told.1,
            told.2,
          )
      | inr high ↦
          let last : length s.units ≡ u = omega (arith, low, length_push s.units hint) in
          (clause, ap (named next.inputs next.lines) (get_or_at s.units hint [] blank_hint u last) ∙ more.here, one)
    ];
    ones = λ x c is is_one. elim (more.only x c is) [
      | inl old ↦ listed_more s.units hint x (state.ones x c old is_one)
      | inr e ↦ listed_last s.units hint x e
    ];
    units_done_in = omega (arith, state.units_done_in, length_push s.units hint);
    units_trail_in = state.units_trail_in;
    are_firm = λ u other below is.
        firm_kept s.log next hint clause more s.units s.units_done _ state.units_done_in state.short state.are_firm u other below
        (ap (named next.inputs next.lines) (sym (get_or_append_left s.units (hint ∷ []) blank_hint u (omega (arith, below, state.units_done_in)))) ∙ is);
    known_inputs = known_inputs;
    known_lines = known_lines;
    decided = state.decided;
    room = state.room;
    few = state.few;
    size = state.size;
  }

-- the literals of a known clause have values' places
pub stored_below : (letters : ℕ) (a : AssignedValue) (clause r : List Literal) → ((x : ℕ) → 1 ≤ x → x ≤ letters → x < length a.values)
    → All (IsKnown letters) clause → HaveSame clause r → All (λ l. l.letter.0 < length a.values) r
stored_below letters a clause r room known same k d below =
    let told = All-contains (IsKnown letters) clause (get_or r k d) known (same.back k d below) in
    room (get_or r k d).letter.0 told.from_one told.within

pub stored_fits : (letters : ℕ) (a : AssignedValue) (lists : List (List ℕ)) (clause r : List Literal) → ((x : ℕ) → 1 ≤ x → x ≤ letters → x < length a.values)
    → length lists ≡ 2 * length a.values → All (IsKnown letters) clause → HaveSame clause r
    → All (λ l. code l < length lists) r
stored_fits letters a lists clause r room sized known same k d below =
    omega (arith, sized, code_known (get_or r k d) (length a.values) (stored_below letters a clause r room known same k d below))

pub known_more : (letters : ℕ) (clauses : List (List Literal)) (clause : List Literal) → AreKnown letters clauses → All (IsKnown letters) clause
    → AreKnown letters (clauses ++ clause ∷ [])
known_more letters clauses clause known here = All-push (All (IsKnown letters)) clauses clause known here
