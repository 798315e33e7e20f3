-- A visit stands at one clause.
use Rattle.std.proofs.Common.{◌≡◌, ◌≢◌, ℕ, ◌<◌, ◌≤◌, ◌+◌, ◌*◌, ◌-◌, ◌⊎◌, inl, inr, List, [], ◌∷◌, ◌++◌, Option, Some, None, IfSome, take, map, set, All}
use Rattle.std.proofs.Common.{Contains, length, get_or, refl, sym, ap, ap₂, ◌∙◌, subst, arith, length-set, get_or-set_same, length-take-le}
use Rattle.std.specs.List.{remove, swap}
use Rattle.std.proofs.lemmas.Bool.{cases_lt, cases_eq}
use Rattle.std.proofs.lemmas.List.{map-append, length-map, get_or-map, get_or_default, get_or_append_left, get_or-take}
use Rattle.std.proofs.lemmas.List.Edits.{swapped_from_swap, length-swap}
use Rattle.std.proofs.lemmas.List.Elements.{All-contains, Contains-get_or, Contains-push}
use Rattle.cnf_base.specs.declared.literal.Literal.{Literal}
use Rattle.cnf_base.specs.declared.literal.Hint.{Hint}
use Rattle.cnf_base.specs.Literal.{opposite}
use Rattle.cnf_base.proofs.SameLiteral.{opposite_opposite}
use Rattle.cdcl_trail.specs.Trail.{literals_of, HasLevel, IsTrail, StandsAt, IsReason, IsConflict, blank_entry, literal_at}
use Rattle.cdcl_trail.specs.Entries.{hint_of}
use Rattle.cdcl_trail.specs.declared.assigned.TrailEntry.{TrailEntry}
use Rattle.cdcl_trail.proofs.Assign.{entry_there, level_there}
use Rattle.cdcl_watches.specs.Watching.{IsWatch, IsWatching, clause_of, list_of, code, WatchValue, blank}
use Rattle.cdcl_watches.proofs.Moves.{first_two, code_same}
use Rattle.cdcl_trail.specs.Assigned.{AssignedValue}
use Rattle.cdcl_propagate.specs.Visit.{HasTrue, names_of, IsVisiting, IsFaced, IsReplacement, AreFalseFrom, false_at, list_length, watcher_at, blank_hint}
use Rattle.cdcl_propagate.proofs.Guard.{visit_kept, visit_turned, visit_moved, visit_grown}

-- the literal is the second already
pub faced_same : (w : WatchValue) (c : ℕ) (l : Literal) → IsWatch (clause_of w.clauses c) l
    → code l ≡ code (get_or (clause_of w.clauses c) 1 blank) → IsFaced w w c l
faced_same w c l watch is = record {
  long = watch.1.long;
  second = code_same l (get_or (clause_of w.clauses c) 1 blank) is ∙ get_or_default (clause_of w.clauses c) 1 blank l (omega (arith, watch.1.long));
  same = inl refl;
}

pub faced_turned : (w v : WatchValue) (c : ℕ) (l : Literal) → c < length w.clauses → IsWatch (clause_of w.clauses c) l
    → code l ≢ code (get_or (clause_of w.clauses c) 1 blank)
    → v.clauses ≡ set w.clauses c (swap (clause_of w.clauses c) 0 1) → v.lists ≡ w.lists → v.names ≡ w.names → IsFaced w v c l
faced_turned w v c l known watch differ clauses_is lists_is names_are =
    let r = clause_of w.clauses c in
    let s = swap r 0 1 in
    let long = watch.1.long in
    let row : clause_of v.clauses c ≡ s = ap (λ cs. clause_of cs c) clauses_is ∙ get_or-set_same w.clauses c s [] known in
    let S = swapped_from_swap r s 0 1 blank (omega (arith, long)) (omega (arith, long)) refl in
    let len = length-swap r 0 1 in
    record {
      long = subst (λ x. 2 ≤ length x) (sym row) (omega (arith, long));
      second = elim (first_two r l watch.0 blank watch.1) [
        | inl e ↦ e.0 ∙ sym S.1 ∙ get_or_default s 1 blank l (omega (arith, long)) ∙ ap (λ x. get_or x 1 l) (sym row)
        | inr e ↦ absurd (differ (ap code e.0))
      ];
      same = inr (clauses_is, lists_is, names_are);
    }

-- the list was visited up to i, and the clause at i has the false literal second
pub record IsAt (inputs lines : List (List Literal)) (k i : ℕ) (a : AssignedValue) (w : WatchValue) (c : ℕ) : Type 0 where
  pub visiting : IsVisiting inputs lines k i a w
  pub watching : IsWatching w.clauses w.lists
  pub low : i < length (list_of w.lists (false_at a.trail k))
  pub at : get_or (list_of w.lists (false_at a.trail k)) i 0 ≡ c
  pub known : c < length w.clauses
  pub long : 2 ≤ length (clause_of w.clauses c)
  pub second : false_at a.trail k ≡ get_or (clause_of w.clauses c) 1 blank

-- nothing is said of a list that is not begun
pub visit_all : {inputs lines : List (List Literal)} {k i : ℕ} {a : AssignedValue} {v w : WatchValue} → v ≡ w → IsVisiting inputs lines k i a w
    → IsVisiting inputs lines k 0 a v
visit_all {inputs} {lines} {k} {i} {a} same visiting = subst (IsVisiting inputs lines k 0 a) (sym same) (record {
  is_trail = visiting.is_trail;
  stored = visiting.stored;
  guarded = visiting.guarded;
  within = visiting.within;
  sized = visiting.sized;
  done = λ j from below. absurd (omega (arith, from));
})

pub at_faced : (inputs lines : List (List Literal)) (k i : ℕ) (a : AssignedValue) (w v : WatchValue) (c : ℕ) (l : Literal) → l ≡ false_at a.trail k
    → IsWatching v.clauses v.lists
    → i < length (list_of w.lists (false_at a.trail k)) → get_or (list_of w.lists (false_at a.trail k)) i 0 ≡ c → c < length w.clauses → IsFaced w v c l
    → IsVisiting inputs lines k i a w → IsAt inputs lines k i a v c
at_faced inputs lines k i a w v c l l_is new_watching low at known faced visiting =
    let second : false_at a.trail k ≡ get_or (clause_of v.clauses c) 1 blank =
    sym l_is ∙ faced.second ∙ get_or_default (clause_of v.clauses c) 1 l blank (omega (arith, faced.long)) in
    elim faced.same [
      | inl same ↦ record {
        visiting = subst (IsVisiting inputs lines k i a) (sym same) visiting;
        watching = new_watching;
        low = subst (λ (u : WatchValue). i < length (list_of u.lists (false_at a.trail k))) (sym same) low;
        at = ap (λ (u : WatchValue). get_or (list_of u.lists (false_at a.trail k)) i 0) same ∙ at;
        known = subst (λ (u : WatchValue). c < length u.clauses) (sym same) known;
        long = faced.long;
        second = second;
      }
      | inr turned ↦
          let s = swap (clause_of w.clauses c) 0 1 in
          let row : clause_of v.clauses c ≡ s = ap (λ cs. clause_of cs c) turned.0 ∙ get_or-set_same w.clauses c s [] known in
          let was_long : 2 ≤ length (clause_of w.clauses c) = omega (arith, faced.long, ap length row, length-swap (clause_of w.clauses c) 0 1) in
          record {
            visiting = visit_turned inputs lines k i a w c v known was_long turned.0 turned.1 turned.2 visiting;
            watching = new_watching;
            low = subst (λ ls. i < length (list_of ls (false_at a.trail k))) (sym turned.1) low;
            at = ap (λ ls. get_or (list_of ls (false_at a.trail k)) i 0) turned.1 ∙ at;
            known = omega (arith, known, ap length turned.0, length-set w.clauses c s);
            long = faced.long;
            second = second;
          }
    ]

module _ {inputs lines : List (List Literal)} {k i : ℕ} {a : AssignedValue} {w : WatchValue} {c : ℕ} (at : IsAt inputs lines k i a w c) where
  pub at_true : {l : Literal} → l ≡ get_or (clause_of w.clauses c) 0 blank → Contains (literals_of a.trail) l → IsVisiting inputs lines k (i + 1) a w
  at_true l_is there =
      let r = clause_of w.clauses c in
      visit_kept inputs lines k i a w (subst (λ n. HasTrue (literals_of a.trail) (clause_of w.clauses n)) (sym at.at)
      (get_or r 0 blank, Contains-get_or r 0 blank (omega (arith, at.long)), subst (Contains (literals_of a.trail)) l_is there)) at.visiting

  pub at_second_false : Contains (literals_of a.trail) (opposite (false_at a.trail k))
  at_second_false =
      subst (Contains (literals_of a.trail)) (sym (opposite_opposite (literal_at a.trail k))) (entry_there a.trail k blank_entry at.visiting.within)

  -- where all but the first are false, each literal of the log's clause is the first or false
  at_others : AreFalseFrom a.trail (clause_of w.clauses c) 2 (length (clause_of w.clauses c)) → (l : Literal) → Contains (clause_of w.clauses c) l
      → (l ≡ get_or (clause_of w.clauses c) 0 blank) ⊎ Contains (literals_of a.trail) (opposite l)
  at_others rest l (p, low, is) =
      let r = clause_of w.clauses c in
      let l_is : get_or r p blank ≡ l = get_or_default r p blank l low ∙ is in
      elim (cases_lt p 2) [
        | inr high ↦ inr (subst (λ m. Contains (literals_of a.trail) (opposite m)) l_is (rest p high low))
        | inl front ↦ elim (cases_eq p 0) [
          | inl zeroth ↦ inl (sym l_is ∙ ap (λ n. get_or r n blank) zeroth)
          | inr other ↦
              let one : p ≡ 1 = omega (arith, front, other) in
              let is_f : l ≡ false_at a.trail k = sym l_is ∙ ap (λ n. get_or r n blank) one ∙ sym at.second in
              inr (subst (λ m. Contains (literals_of a.trail) (opposite m)) (sym is_f) at_second_false)
        ]
      ]

  pub at_reason : AreFalseFrom a.trail (clause_of w.clauses c) 2 (length (clause_of w.clauses c))
      → IsReason inputs lines (literals_of a.trail) (get_or (clause_of w.clauses c) 0 blank) (get_or (names_of w) c blank_hint)
  at_reason rest =
      let r = clause_of w.clauses c in
      let stored = at.visiting.stored.from_log c at.known in
      record {
        clause = stored.0;
        is = stored.1;
        there = All-contains (Contains stored.0) r (get_or r 0 blank) stored.2.back (Contains-get_or r 0 blank (omega (arith, at.long)));
        others = λ p d below. at_others rest (get_or stored.0 p d) (stored.2.there p d below);
      }

  pub at_conflict : {l : Literal} {hint : Hint} → AreFalseFrom a.trail (clause_of w.clauses c) 2 (length (clause_of w.clauses c))
      → l ≡ get_or (clause_of w.clauses c) 0 blank → hint ≡ get_or (names_of w) c blank_hint → Contains (literals_of a.trail) (opposite l)
      → IsConflict inputs lines (literals_of a.trail) hint
  at_conflict rest l_is hint_is first_false =
      let stored = at.visiting.stored.from_log c at.known in
      subst (IsConflict inputs lines (literals_of a.trail)) (sym hint_is) (record {
        clause = stored.0;
        is = stored.1;
        all_false = λ p d below. elim (at_others rest (get_or stored.0 p d) (stored.2.there p d below)) [
          | inl e ↦ subst (λ m. Contains (literals_of a.trail) (opposite m)) (l_is ∙ sym e) first_false
          | inr h ↦ h
        ];
      })

  pub at_moved : (v : WatchValue) (j : ℕ) → IsReplacement a.trail (clause_of w.clauses c) j → (m : Literal) → m ≡ get_or (clause_of w.clauses c) j blank
      → (f : Literal) → f ≡ false_at a.trail k
      → v.clauses ≡ set w.clauses c (swap (clause_of w.clauses c) 1 j)
      → v.lists ≡ set (set w.lists (code m) (list_of w.lists m ++ c ∷ [])) (code f) (remove (list_of w.lists f) i) → v.names ≡ w.names
      → IsVisiting inputs lines k i a v × (list_length a.trail v k + 1 ≡ list_length a.trail w k)
  at_moved v j found m m_is f f_is clauses_is lists_is names_are =
      visit_moved inputs lines k i a w v c j m at.watching at.low at.known found.behind found.within at.second m_is
      (λ there. found.not_false (subst (λ l. Contains (literals_of a.trail) (opposite l)) m_is there)) clauses_is
      (lists_is ∙ ap (λ l. set (set w.lists (code m) (list_of w.lists m ++ c ∷ [])) (code l) (remove (list_of w.lists l) i)) f_is) names_are at.visiting

  -- the letters of the clause are known
  pub at_letters : All (λ l. l.letter.0 < length a.values) (clause_of w.clauses c)
  at_letters p d below =
      let fits = at.watching.fits c at.known p d below in
      omega (arith, fits, at.visiting.sized, at_bit (get_or (clause_of w.clauses c) p d))
    where
      at_bit : (l : Literal) → 2 * l.letter.0 ≤ code l
      at_bit l = omega arith

-- the last level is the greatest, and stands on the trail
pub last_level : (inputs lines : List (List Literal)) (trail : List TrailEntry) → IsTrail inputs lines trail → 0 < length trail → (u : Literal) (hint : Hint)
    → IsReason inputs lines (literals_of trail) u hint
    → StandsAt inputs lines trail (record { literal = u; level = (get_or trail (length trail - 1) blank_entry).level; reason = Some hint })
last_level inputs lines trail is_trail some u hint reason =
    let n = length trail - 1 in
    let e = get_or trail n blank_entry in
    let here = is_trail n blank_entry (omega arith) in
    let n_len : length (take n trail) ≡ n = length-take-le n trail (omega arith) in
    let low : e.level ≤ length trail = small e.reason refl in
    record {
      reason = (reason, low, inr (level_there trail n blank_entry (omega arith)));
      decision = λ is. cc;
      rising = λ p d below. elim (cases_lt p n) [
        | inl front ↦ subst (λ (f : TrailEntry). f.level ≤ e.level) (get_or-take n trail p d front) (here.rising p d (omega (arith, n_len)))
        | inr back ↦
            let last : p ≡ n = omega arith in
            let is : get_or trail p d ≡ e = ap (λ m. get_or trail m d) last ∙ get_or_default trail n d blank_entry (omega arith) in
            omega (arith, ap (λ (f : TrailEntry). f.level) is)
      ];
    }
  where
    small : (o : Option Hint) → (get_or trail (length trail - 1) blank_entry).reason ≡ o → (get_or trail (length trail - 1) blank_entry).level ≤ length trail
    small None is =
        let here = is_trail (length trail - 1) blank_entry (omega arith) in
        omega (arith, here.decision is, length-take-le (length trail - 1) trail (omega arith))
    small (Some h) is =
        let here = is_trail (length trail - 1) blank_entry (omega arith) in
        let e = get_or trail (length trail - 1) blank_entry in
        let before = take (length trail - 1) trail in
        let told = subst (λ o. IfSome o
        (λ h. IsReason inputs lines (literals_of before) e.literal h × (e.level ≤ length before) × ((e.level ≡ 0) ⊎ HasLevel before e.level))) is here.reason in
        omega (arith, told.1, length-take-le (length trail - 1) trail (omega arith))

pub visit_same : {inputs lines : List (List Literal)} {k i : ℕ} {a : AssignedValue} {w : WatchValue} (n : AssignedValue) → n.trail ≡ a.trail
    → length n.values ≡ length a.values
    → IsVisiting inputs lines k i a w → IsVisiting inputs lines k i n w
visit_same {inputs} {lines} {k} {i} {a} {w} n trail_is values_is v =
    let here : IsVisiting inputs lines k i (record { values = n.values; trail = a.trail }) w = record {
      is_trail = v.is_trail;
      stored = v.stored;
      guarded = v.guarded;
      within = v.within;
      sized = v.sized ∙ ap (λ m. 2 * m) (sym values_is);
      done = v.done;
    } in
    subst (λ t. IsVisiting inputs lines k i (record { values = n.values; trail = t }) w) (sym trail_is) here

pub same_watch : (v w : WatchValue) → v.clauses ≡ w.clauses → v.lists ≡ w.lists → v.names ≡ w.names → v ≡ w
same_watch v w one two three =
    ap₂ (λ x y. let u : WatchValue = record { clauses = x; lists = y; names = v.names } in u) one two
    ∙ ap (λ z. let u : WatchValue = record { clauses = w.clauses; lists = w.lists; names = z } in u) three

-- the hint that is read from the name of a clause
pub named_at : (names : List ℕ) (clauses : List (List Literal)) (n name : ℕ) (hint : Hint) → length (map hint_of names) ≡ length clauses → n < length clauses
    → hint ≡ hint_of name → name ≡ get_or names n 0
    → hint ≡ get_or (map hint_of names) n blank_hint
named_at names clauses n name hint paired low is name_is =
    is ∙ ap hint_of name_is ∙ sym (get_or-map hint_of names n 0 blank_hint (omega (arith, paired, low, length-map names hint_of)))

module _ {inputs lines : List (List Literal)} {k i : ℕ} {a : AssignedValue} {w : WatchValue} {c : ℕ} (at : IsAt inputs lines k i a w c) where
  -- the first literal may be put on the trail
  pub at_forced : {l : Literal} {level : ℕ} {hint : Hint} → AreFalseFrom a.trail (clause_of w.clauses c) 2 (length (clause_of w.clauses c))
      → l ≡ get_or (clause_of w.clauses c) 0 blank → level ≡ (get_or a.trail (length a.trail - 1) blank_entry).level → hint ≡ get_or (names_of w) c blank_hint
      → StandsAt inputs lines a.trail (record { literal = l; level = level; reason = Some hint })
  at_forced rest l_is level_is hint_is =
      rw (l_is, level_is, hint_is)
      (last_level inputs lines a.trail at.visiting.is_trail (omega (arith, at.visiting.within)) (get_or (clause_of w.clauses c) 0 blank)
      (get_or (names_of w) c blank_hint) (at_reason at rest))

  -- and was put there
  pub at_assigned : (e : TrailEntry) (n : AssignedValue) → StandsAt inputs lines a.trail e → e.literal ≡ get_or (clause_of w.clauses c) 0 blank
      → n.trail ≡ a.trail ++ e ∷ [] → length n.values ≡ length a.values → IsVisiting inputs lines k (i + 1) n w
  at_assigned e n stands e_is trail_is values_is =
      let after = visit_grown inputs lines k i a w e n stands trail_is values_is at.visiting in
      let b = get_or (clause_of w.clauses c) 0 blank in
      let same : false_at n.trail k ≡ false_at a.trail k =
      ap (λ t. false_at t k) trail_is ∙ ap (λ (f : TrailEntry). opposite f.literal) (get_or_append_left a.trail (e ∷ []) blank_entry k at.visiting.within) in
      let pushed : literals_of n.trail ≡ literals_of a.trail ++ e.literal ∷ [] = ap literals_of trail_is ∙ map-append (λ f. f.literal) a.trail (e ∷ []) in
      let b_true : Contains (literals_of n.trail) b =
      subst (λ t. Contains t b) (sym pushed) (subst (Contains (literals_of a.trail ++ e.literal ∷ [])) e_is (Contains-push (literals_of a.trail) e.literal)) in
      let told : HasTrue (literals_of n.trail) (clause_of w.clauses c) =
      (b, Contains-get_or (clause_of w.clauses c) 0 blank (omega (arith, at.long)), b_true) in
      visit_kept inputs lines k i n w
      (subst (λ f. HasTrue (literals_of n.trail) (watcher_at w f i)) (sym same)
      (subst (λ m. HasTrue (literals_of n.trail) (clause_of w.clauses m)) (sym at.at) told))
      after
