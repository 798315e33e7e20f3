-- What a visit keeps of the strong watch rule.
use Rattle.std.proofs.Common.{◌≡◌, ℕ, ◌<◌, ◌≤◌, inl, inr, List, [], ◌∷◌, ◌++◌, set, Contains, length, get_or, refl, sym, ap, ◌∙◌, subst, arith, length-set}
use Rattle.std.proofs.Common.{get_or-set_same}
use Rattle.std.specs.List.{swap}
use Rattle.std.proofs.lemmas.List.{get_or_append_left, length_push}
use Rattle.std.proofs.lemmas.List.Edits.{swapped_from_swap, length-swap}
use Rattle.cnf_base.specs.declared.literal.Literal.{Literal}
use Rattle.cnf_base.specs.Literal.{opposite}
use Rattle.cdcl_trail.specs.Trail.{literals_of, blank_entry, literal_at, place_level}
use Rattle.cdcl_trail.specs.declared.assigned.TrailEntry.{TrailEntry}
use Rattle.cdcl_trail.proofs.Assign.{entry_there}
use Rattle.cdcl_watches.specs.Watching.{IsWatch, clause_of, WatchValue, blank}
use Rattle.cdcl_watches.proofs.Moves.{first_two, are_first}
use Rattle.cdcl_propagate.specs.Visit.{IsFaced}
use Rattle.cdcl_propagate.specs.Lasting.{IsLasting, IsTrueBy}
use Rattle.cdcl_propagate.proofs.Guard.{watch_turned, watch_set, literal_set}

-- a clause that is true by a level is so after one is turned or moved
true_by_set : (clauses : List (List Literal)) (trail : List TrailEntry) (level c i j k : ℕ) → c < length clauses → i < length (clause_of clauses c)
    → j < length (clause_of clauses c) → IsTrueBy trail level (clause_of clauses k)
    → IsTrueBy trail level (clause_of (set clauses c (swap (clause_of clauses c) i j)) k)
true_by_set clauses trail level c i j k known i_low j_low told =
    (told.0, told.1, literal_set clauses c i j k (literal_at trail told.0) known i_low j_low told.2, told.3)

module _ (clauses : List (List Literal)) (trail : List TrailEntry) (n c : ℕ) (known : c < length clauses) (lasting : IsLasting clauses trail n) where
  pub lasting_turned : 2 ≤ length (clause_of clauses c) → IsLasting (set clauses c (swap (clause_of clauses c) 0 1)) trail n
  lasting_turned long p k a p_low watch below is_false =
      let s = swap (clause_of clauses c) 0 1 in
      let len = length-set clauses c s in
      true_by_set clauses trail (place_level trail k) c 0 1 p known (omega arith) (omega arith)
      (elim (watch_set clauses c s p a known watch) [
        | inl here ↦ subst (λ m. IsTrueBy trail (place_level trail k) (clause_of clauses m)) (sym here.0)
            (lasting c k a known (watch_turned (clause_of clauses c) a here.1) below is_false)
        | inr other ↦ lasting p k a (omega (arith, len)) other.1 below is_false
      ])

  pub lasting_moved : (j : ℕ) (f m : Literal) → 2 ≤ j → j < length (clause_of clauses c) → f ≡ get_or (clause_of clauses c) 1 blank
      → m ≡ get_or (clause_of clauses c) j blank → ¬ Contains (literals_of trail) (opposite m) → n ≤ length trail
      → IsLasting (set clauses c (swap (clause_of clauses c) 1 j)) trail n
  lasting_moved j f m high j_low f_is m_is not_false fits p k a p_low watch below is_false =
      let r = clause_of clauses c in
      let s = swap r 1 j in
      let len = length-set clauses c s in
      let S = swapped_from_swap r s 1 j blank (omega arith) (omega arith) refl in
      let x0 = get_or r 0 blank in
      let s0 : get_or s 0 blank ≡ x0 = S.2 0 (λ e. omega (arith, e)) (λ e. omega (arith, e)) in
      let s1 : get_or s 1 blank ≡ m = S.0 ∙ sym m_is in
      let r_watch : IsWatch r x0 = (f, are_first r x0 f blank (omega arith) (inl (refl, f_is))) in
      true_by_set clauses trail (place_level trail k) c 1 j p known (omega arith) j_low
      (elim (watch_set clauses c s p a known watch) [
        | inr other ↦ lasting p k a (omega (arith, len)) other.1 below is_false
        | inl here ↦
            let there : Contains (literals_of trail) (opposite a) =
            subst (Contains (literals_of trail)) is_false (entry_there trail k blank_entry (omega arith)) in
            elim (first_two s a here.1.0 blank here.1.1) [
              | inl e ↦ subst (λ q. IsTrueBy trail (place_level trail k) (clause_of clauses q)) (sym here.0)
                  (lasting c k x0 known r_watch below (is_false ∙ ap opposite (e.0 ∙ s0)))
              | inr e ↦ absurd (not_false (subst (λ l. Contains (literals_of trail) (opposite l)) (e.0 ∙ s1) there))
            ]
      ])

pub lasting_grown : (clauses : List (List Literal)) (trail : List TrailEntry) (n : ℕ) (e : TrailEntry) → n ≤ length trail → IsLasting clauses trail n
    → IsLasting clauses (trail ++ e ∷ []) n
lasting_grown clauses trail n e fits lasting c k a known watch below is_false =
    let same : (p : ℕ) → p < length trail → get_or (trail ++ e ∷ []) p blank_entry ≡ get_or trail p blank_entry =
    λ p low. get_or_append_left trail (e ∷ []) blank_entry p low in
    let k_same = same k (omega arith) in
    let at = lasting c k a known watch below (sym (ap (λ (f : TrailEntry). f.literal) k_same) ∙ is_false) in
    let j_same = same at.0 at.1 in (
      at.0,
      omega (arith, at.1, length_push trail e),
      subst (Contains (clause_of clauses c)) (ap (λ (f : TrailEntry). f.literal) (sym j_same)) at.2,
      omega (
        arith,
        at.3,
        ap (λ (f : TrailEntry). f.level) j_same,
        ap (λ (f : TrailEntry). f.level) k_same,
      ),
    )

-- the clause was faced, or was already
pub lasting_faced : (w v : WatchValue) (trail : List TrailEntry) (n c : ℕ) (l : Literal) → c < length w.clauses → IsFaced w v c l → IsLasting w.clauses trail n
    → IsLasting v.clauses trail n
lasting_faced w v trail n c l known faced lasting = elim faced.same [
  | inl same ↦ subst (λ (u : WatchValue). IsLasting u.clauses trail n) (sym same) lasting
  | inr turned ↦ subst (λ cs. IsLasting cs trail n) (sym turned.0) (lasting_turned w.clauses trail n c known lasting (omega (
    arith,
    faced.long,
    ap (λ cs. length (clause_of cs c)) turned.0,
    ap length (get_or-set_same w.clauses c (swap (clause_of w.clauses c) 0 1) [] known),
    length-swap (clause_of w.clauses c) 0 1,
  )))
]
