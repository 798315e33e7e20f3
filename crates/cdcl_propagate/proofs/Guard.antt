-- What a visit keeps.
use Rattle.std.proofs.Common.{◌≡◌, ◌≢◌, ℕ, ◌<◌, ◌≤◌, ◌+◌, ◌*◌, ◌⊎◌, inl, inr, List, [], ◌∷◌, ◌++◌, map, set, Contains, length, get_or, refl, sym, ap, ◌∙◌}
use Rattle.std.proofs.Common.{subst, arith, length-set, get_or-set_same, get_or-set_other}
use Rattle.std.specs.List.{remove, swap}
use Rattle.std.proofs.lemmas.Bool.{cases_eq}
use Rattle.std.proofs.lemmas.List.{map-append, get_or_append_left, length_push}
use Rattle.std.proofs.lemmas.List.Edits.{swapped_from_swap, length-swap}
use Rattle.std.proofs.lemmas.List.Elements.{All-contains, All-weaker, Contains-get_or, Contains-append_left}
use Rattle.cnf_base.specs.declared.literal.Literal.{Literal}
use Rattle.cnf_base.specs.declared.literal.Hint.{Hint}
use Rattle.cnf_base.specs.Literal.{opposite}
use Rattle.cdcl_trail.specs.Trail.{literals_of, IsTrail, StandsAt, blank_entry, literal_at}
use Rattle.cdcl_trail.specs.Entries.{hint_of}
use Rattle.cdcl_trail.specs.declared.assigned.TrailEntry.{TrailEntry}
use Rattle.cdcl_trail.proofs.Assign.{entry_there, trail_push}
use Rattle.cdcl_watches.specs.Watching.{IsWatch, IsWatching, clause_of, list_of, code, WatchValue, blank}
use Rattle.cdcl_watches.proofs.Moves.{first_two, are_first, contains_swapped, contains_unswapped, list_same}
use Rattle.cdcl_watches.proofs.Removed.{length-removed, place_before}
use Rattle.cdcl_trail.specs.Assigned.{AssignedValue}
use Rattle.cdcl_propagate.specs.Visit.{HasTrue, HaveSame, IsStored, names_of, IsVisiting, false_at, list_length, watcher_at}

-- what the turned clause watches, the clause watches
pub watch_turned : (r : List Literal) (a : Literal) → IsWatch (swap r 0 1) a → IsWatch r a
watch_turned r a (b, h) =
    let long : 2 ≤ length r = omega (arith, h.long, length-swap r 0 1) in
    let S = swapped_from_swap r (swap r 0 1) 0 1 a (omega arith) (omega arith) refl in
    (b, are_first r a b a long (elim (first_two (swap r 0 1) a b a h) [ inl p ↦ inr (p.0 ∙ S.0, p.1 ∙ S.1) | inr p ↦ inl (p.0 ∙ S.1, p.1 ∙ S.0) ]))

same_swapped : (clause r : List Literal) (i j : ℕ) → i < length r → j < length r → HaveSame clause r → HaveSame clause (swap r i j)
same_swapped clause r i j i_low j_low same = record {
  there = All-weaker (Contains r) (Contains (swap r i j)) (λ l h. contains_swapped r i j l i_low j_low h) clause same.there;
  back = λ k d below. All-contains (Contains clause) r (get_or (swap r i j) k d) same.back
      (contains_unswapped r i j (get_or (swap r i j) k d) i_low j_low (Contains-get_or (swap r i j) k d below));
}

-- the clauses after one is turned or moved are still those of the log
pub stored_swapped : (inputs lines clauses : List (List Literal)) (names : List Hint) (c i j : ℕ) → c < length clauses → i < length (clause_of clauses c)
    → j < length (clause_of clauses c) → IsStored inputs lines clauses names
    → IsStored inputs lines (set clauses c (swap (clause_of clauses c) i j)) names
stored_swapped inputs lines clauses names c i j known i_low j_low stored =
    let s = swap (clause_of clauses c) i j in
    let len = length-set clauses c s in
    record {
      paired = stored.paired ∙ sym len;
      from_log = λ k low.
          let old = stored.from_log k (omega arith) in (
            old.0,
            old.1,
            elim (cases_eq k c) [
              | inl same ↦
                  subst (λ n. HaveSame old.0 (clause_of (set clauses c s) n)) (sym same) (subst (HaveSame old.0) (sym (get_or-set_same clauses c s [] known))
                  (same_swapped old.0 (clause_of clauses c) i j i_low j_low (subst (λ n. HaveSame old.0 (clause_of clauses n)) same old.2)))
              | inr other ↦ subst (HaveSame old.0) (sym (get_or-set_other clauses c k s [] other)) old.2
            ],
          );
    }

-- what a clause watches after one is replaced
pub watch_set : (clauses : List (List Literal)) (c : ℕ) (s : List Literal) (k : ℕ) (a : Literal) → c < length clauses
    → IsWatch (clause_of (set clauses c s) k) a → ((k ≡ c) × IsWatch s a) ⊎ ((k ≢ c) × IsWatch (clause_of clauses k) a)
watch_set clauses c s k a known h = elim (cases_eq k c) [
  | inl same ↦ inl (same, subst (λ r. IsWatch r a) (get_or-set_same clauses c s [] known) (subst (λ n. IsWatch (clause_of (set clauses c s) n) a) same h))
  | inr other ↦ inr (other, subst (λ r. IsWatch r a) (get_or-set_other clauses c k s [] other) h)
]

-- the clauses have the literals that they had after one is turned or moved
pub literal_set : (clauses : List (List Literal)) (c i j k : ℕ) (l : Literal) → c < length clauses → i < length (clause_of clauses c)
    → j < length (clause_of clauses c) → Contains (clause_of clauses k) l
    → Contains (clause_of (set clauses c (swap (clause_of clauses c) i j)) k) l
literal_set clauses c i j k l known i_low j_low there =
    let r = clause_of clauses c in
    let s = swap r i j in
    elim (cases_eq k c) [
      | inl same ↦
          let in_r : Contains r l = subst (λ n. Contains (clause_of clauses n) l) same there in
          subst (λ n. Contains (clause_of (set clauses c s) n) l) (sym same)
          (subst (λ x. Contains x l) (sym (get_or-set_same clauses c s [] known)) (contains_swapped r i j l i_low j_low in_r))
      | inr other ↦ subst (λ x. Contains x l) (sym (get_or-set_other clauses c k s [] other)) there
    ]

-- and so the true ones
pub true_set : (clauses now : List (List Literal)) (true_ones : List Literal) (c i j k : ℕ) → c < length clauses → i < length (clause_of clauses c)
    → j < length (clause_of clauses c) → now ≡ set clauses c (swap (clause_of clauses c) i j)
    → HasTrue true_ones (clause_of clauses k) → HasTrue true_ones (clause_of now k)
true_set clauses now true_ones c i j k known i_low j_low is told =
    (told.0, subst (λ cs. Contains (clause_of cs k) told.0) (sym is) (literal_set clauses c i j k told.0 known i_low j_low told.1), told.2)

module _ (inputs lines : List (List Literal)) (k i : ℕ) (a : AssignedValue) (w : WatchValue) where
  -- the clause at i is done
  pub visit_kept : HasTrue (literals_of a.trail) (watcher_at w (false_at a.trail k) i) → IsVisiting inputs lines k i a w → IsVisiting inputs lines k (i + 1) a w
  visit_kept told visiting = record {
    is_trail = visiting.is_trail;
    stored = visiting.stored;
    guarded = visiting.guarded;
    within = visiting.within;
    sized = visiting.sized;
    done = λ j from below. elim (cases_eq j i) [
      | inr other ↦ visiting.done j (omega (arith, other)) below
      | inl at ↦ subst (λ n. HasTrue (literals_of a.trail) (watcher_at w (false_at a.trail k) n)) (sym at) told
    ];
  }

  -- the first two of a clause change places
  pub visit_turned : (c : ℕ) (v : WatchValue) → c < length w.clauses → 2 ≤ length (clause_of w.clauses c)
      → v.clauses ≡ set w.clauses c (swap (clause_of w.clauses c) 0 1) → v.lists ≡ w.lists → v.names ≡ w.names
      → IsVisiting inputs lines k i a w → IsVisiting inputs lines k i a v
  visit_turned c v known long clauses_is lists_is names_are visiting =
      let r = clause_of w.clauses c in
      let T = literals_of a.trail in
      let f = false_at a.trail k in
      let back : (n : ℕ) (x : Literal) → IsWatch (clause_of v.clauses n) x → IsWatch (clause_of w.clauses n) x = λ n x h.
      elim (watch_set w.clauses c (swap r 0 1) n x known (subst (λ cs. IsWatch (clause_of cs n) x) clauses_is h)) [
        | inl here ↦ subst (λ m. IsWatch (clause_of w.clauses m) x) (sym here.0) (watch_turned r x here.1)
        | inr other ↦ other.1
      ] in
      let still : (n : ℕ) → HasTrue T (clause_of w.clauses n) → HasTrue T (clause_of v.clauses n) =
      λ n. true_set w.clauses v.clauses T c 0 1 n known (omega arith) (omega arith) clauses_is in
      let len : length v.clauses ≡ length w.clauses = ap length clauses_is ∙ length-set w.clauses c (swap r 0 1) in
      record {
        is_trail = visiting.is_trail;
        stored = subst (λ ns. IsStored inputs lines v.clauses (map hint_of ns)) (sym names_are) (subst (λ cs. IsStored inputs lines cs (names_of w))
            (sym clauses_is) (stored_swapped inputs lines w.clauses (names_of w) c 0 1 known (omega arith) (omega arith) visiting.stored));
        guarded = λ n p x low watch below at. still n (visiting.guarded n p x (omega arith) (back n x watch) below at);
        within = visiting.within;
        sized = ap length lists_is ∙ visiting.sized;
        done = subst (λ ls. (j : ℕ) → j < i → j < length (list_of ls f) → HasTrue T (clause_of v.clauses (get_or (list_of ls f) j 0))) (sym lists_is)
            (λ j from below. still (get_or (list_of w.lists f) j 0) (visiting.done j from below));
      }

  -- the clause at i watches another literal that is not false, and the list is shorter by it
  pub visit_moved : (v : WatchValue) (c j : ℕ) (m : Literal) → IsWatching w.clauses w.lists → i < length (list_of w.lists (false_at a.trail k))
      → c < length w.clauses → 2 ≤ j → j < length (clause_of w.clauses c)
      → false_at a.trail k ≡ get_or (clause_of w.clauses c) 1 blank → m ≡ get_or (clause_of w.clauses c) j blank → ¬ Contains (literals_of a.trail) (opposite m)
      → v.clauses ≡ set w.clauses c (swap (clause_of w.clauses c) 1 j)
      → v.lists ≡ set (set w.lists (code m) (list_of w.lists m ++ c ∷ [])) (code (false_at a.trail k)) (remove (list_of w.lists (false_at a.trail k)) i)
      → v.names ≡ w.names
      → IsVisiting inputs lines k i a w → IsVisiting inputs lines k i a v × (list_length a.trail v k + 1 ≡ list_length a.trail w k)
  visit_moved v c j m watching low known high j_low second_is m_is not_false clauses_is lists_is names_are visiting =
      let T = literals_of a.trail in
      let f = false_at a.trail k in
      let r = clause_of w.clauses c in
      let s = swap r 1 j in
      let ls = list_of w.lists f in
      let S = swapped_from_swap r s 1 j blank (omega arith) (omega arith) refl in
      let x0 = get_or r 0 blank in
      let s0 : get_or s 0 blank ≡ x0 = S.2 0 (λ e. omega (arith, e)) (λ e. omega (arith, e)) in
      let s1 : get_or s 1 blank ≡ m = S.0 ∙ sym m_is in
      let len : length v.clauses ≡ length w.clauses = ap length clauses_is ∙ length-set w.clauses c s in
      let r_watch : IsWatch r x0 = (f, are_first r x0 f blank (omega arith) (inl (refl, second_is))) in
      let still : (n : ℕ) → HasTrue T (clause_of w.clauses n) → HasTrue T (clause_of v.clauses n) =
      λ n. true_set w.clauses v.clauses T c 1 j n known (omega arith) j_low clauses_is in
      let code_f : code f < length w.lists = subst (λ l. code l < length w.lists) (sym second_is) (watching.fits c known 1 blank (omega arith)) in
      let grown = list_of w.lists m ++ c ∷ [] in
      let half = set w.lists (code m) grown in
      let new_list : list_of v.lists f ≡ remove ls i =
      ap (λ x. list_of x f) lists_is ∙ list_same half f (remove ls i) (omega (arith, length-set w.lists (code m) grown)) in (
        record {
          is_trail = visiting.is_trail;
          stored = subst (λ ns. IsStored inputs lines v.clauses (map hint_of ns)) (sym names_are) (subst (λ cs. IsStored inputs lines cs (names_of w))
              (sym clauses_is) (stored_swapped inputs lines w.clauses (names_of w) c 1 j known (omega arith) (omega arith) visiting.stored));
          guarded = λ n p x n_low watch below is_false. elim (watch_set w.clauses c s n x known (subst (λ cs. IsWatch (clause_of cs n) x) clauses_is watch)) [
            | inr other ↦ still n (visiting.guarded n p x (omega arith) other.1 below is_false)
            | inl here ↦
                let there : Contains T (opposite x) = subst (Contains T) is_false (entry_there a.trail p blank_entry (omega (arith, visiting.within))) in
                elim (first_two s x here.1.0 blank here.1.1) [
                  | inl e ↦ subst (λ q. HasTrue T (clause_of v.clauses q)) (sym here.0)
                      (still c (visiting.guarded c p x0 known r_watch below (is_false ∙ ap opposite (e.0 ∙ s0))))
                  | inr e ↦ absurd (not_false (subst (λ l. Contains T (opposite l)) (e.0 ∙ s1) there))
                ]
          ];
          within = visiting.within;
          sized = ap length lists_is ∙ length-set half (code f) (remove ls i) ∙ length-set w.lists (code m) grown ∙ visiting.sized;
          done = subst (λ xs. (q : ℕ) → q < i → q < length xs → HasTrue T (clause_of v.clauses (get_or xs q 0))) (sym new_list)
              (λ q from below.
              let before = place_before ls i low q (omega (arith, below, length-removed ls i low)) in
              let earlier : before.0 < i = elim before.4 [ inl e ↦ omega (arith, e.0, e.1) | inr e ↦ omega (arith, e.1, from) ] in
              subst (λ n. HasTrue T (clause_of v.clauses n)) (sym (before.3 0)) (still (get_or ls before.0 0) (visiting.done before.0 earlier before.1)));
        },
        omega (arith, ap length new_list, length-removed ls i low),
      )

  -- one entry more
  pub visit_grown : (e : TrailEntry) (n : AssignedValue) → StandsAt inputs lines a.trail e → n.trail ≡ a.trail ++ e ∷ [] → length n.values ≡ length a.values
      → IsVisiting inputs lines k i a w → IsVisiting inputs lines k i n w
  visit_grown e n stands trail_is values_is visiting =
      let pushed : literals_of (a.trail ++ e ∷ []) ≡ literals_of a.trail ++ e.literal ∷ [] = map-append (λ f. f.literal) a.trail (e ∷ []) in
      let more : (l : Literal) → Contains (literals_of a.trail) l → Contains (literals_of n.trail) l = λ l h.
      subst (λ t. Contains (literals_of t) l) (sym trail_is)
      (subst (λ t. Contains t l) (sym pushed) (Contains-append_left (literals_of a.trail) (e.literal ∷ []) l h)) in
      let still : (r : List Literal) → HasTrue (literals_of a.trail) r → HasTrue (literals_of n.trail) r = λ r told. (told.0, told.1, more told.0 told.2) in
      let same_at : (p : ℕ) → p < length a.trail → literal_at n.trail p ≡ literal_at a.trail p = λ p p_low.
      ap (λ (t : List TrailEntry). literal_at t p) trail_is ∙ ap (λ (f : TrailEntry). f.literal) (get_or_append_left a.trail (e ∷ []) blank_entry p p_low) in
      let longer : length n.trail ≡ length a.trail + 1 = ap length trail_is ∙ length_push a.trail e in
      let f_same : false_at n.trail k ≡ false_at a.trail k = ap opposite (same_at k visiting.within) in
      record {
        is_trail = subst (IsTrail inputs lines) (sym trail_is) (trail_push inputs lines a.trail e visiting.is_trail stands);
        stored = visiting.stored;
        guarded = λ c p x known watch below is_false. still (clause_of w.clauses c)
            (visiting.guarded c p x known watch below (sym (same_at p (omega (arith, visiting.within))) ∙ is_false));
        within = omega (arith, visiting.within);
        sized = visiting.sized ∙ ap (λ m. 2 * m) (sym values_is);
        done = subst (λ f. (j : ℕ) → j < i → j < length (list_of w.lists f) → HasTrue (literals_of n.trail) (watcher_at w f j)) (sym f_same)
            (λ j from below. still (watcher_at w (false_at a.trail k) j) (visiting.done j from below));
      }
