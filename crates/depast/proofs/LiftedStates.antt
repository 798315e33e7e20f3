-- The states that are made of what is read are those of a lifted trace.
use Rattle.std.proofs.Common.{◌≡◌, ℕ, ◌+◌, ◌-◌, ◌*◌, ◌%◌, ◌<◌, ◌≤◌, ◌^◌, ◌↔◌, inl, inr, refl, sym, ◌∙◌, ap, subst, arith, Bool, true, false, IsTrue, List, []}
use Rattle.std.proofs.Common.{◌∷◌, length, slice_index_or, lt-ltb, le-ltb, Contains}
use Rattle.std.proofs.Math.Nat.{mod-lt, mul-le-mul_right}
use Rattle.std.proofs.lemmas.Bool.{cases_lt, cond-true, cond-false}
use Rattle.ltl_syntax.specs.Formula.{Name, Formula, Const, Letter, Unary, Binary, nodes_in}
use Rattle.ltl_syntax.specs.Table.{Table, tree_at}
use Rattle.ltl_word.specs.declared.trace.Trace.{Trace}
use Rattle.ltl_word.specs.declared.trace.Trace.TheVariants.{Infinite, Finite}
use Rattle.ltl_word.specs.Trace.{Names, state_at}
use Rattle.ltl_word.specs.Claims.{Claim}
use Rattle.ltl_word.specs.Holds.{Holds}
use Rattle.ltl_word.specs.Depth.{past_depth}
use Rattle.ltl_word.proofs.Repeats.{Repeats}
use Rattle.ltl_word.proofs.Periodicity.{Holds-repeats}
use Rattle.lasso_eval.specs.Cells.{positions, cells, max_cells}
use Rattle.lasso_eval.specs.Rows.{cell, row_at, AreValues}
use Rattle.depast.specs.declared.sources.Source.{Source}
use Rattle.depast.specs.declared.lifting.Meanings.{Meanings}
use Rattle.depast.specs.Names.{most_leading, new_name}
use Rattle.depast.specs.Depast.{taken}
use Rattle.depast.specs.Lifting.{meanings, IsOld, IsLifted}
use Rattle.depast.specs.Removal.{AreNewNames}
use Rattle.depast.specs.Sources.{HeldBack, AreSources, shown, AreReadable, IsLiftedState, AreLiftedStates, blank_source}
use Rattle.depast.proofs.Others.{old_left, new_there}
use Rattle.depast.proofs.Raising.{first_loop}
use Rattle.depast.proofs.Residues.{length-meanings}
use Rattle.depast.proofs.Shallow.{meaning_shallow}
use Rattle.depast.proofs.Sourced.{as_many, source_at}
use Rattle.depast.proofs.Telling.{one_number}

-- a formula's names have as many meanings
abbrev one_state : Trace
one_state = Finite ([] ∷ [])

meanings_taken : (f : Formula) → length (meanings f) ≡ taken f
meanings_taken f = let some : 0 < 1 = omega arith in length-meanings one_state one_state some some some refl (λ k. Const true) f

-- ---- a trace of states that tell a claim, where the claim repeats

module _ (stem loop_part stem' loop_part' : List Names) (some : 0 < length loop_part) (n : ℕ) (long : length stem' ≡ n)
    (round : length loop_part' ≡ length loop_part) where
  told_by : (name : List ℕ) (A : Claim) → Repeats A (length loop_part) n → ((i : ℕ) → i < n → Contains (slice_index_or stem' i []) name ↔ A i)
      → ((j : ℕ) → j < length loop_part → Contains (slice_index_or loop_part' j []) name ↔ A (n + j)) → (i : ℕ)
      → Contains (state_at (Infinite stem' loop_part') i) name ↔ A i
  told_by name A r early late i = elim (cases_lt i n) [
    | inl before ↦
        let e : state_at (Infinite stem' loop_part') i ≡ slice_index_or stem' i [] = cond-true _ _ _ (lt-ltb i (length stem') (omega arith)) in
        subst (λ s. Contains s name ↔ A i) (sym e) (early i before)
    | inr after ↦
        let e : state_at (Infinite stem' loop_part') i ≡ slice_index_or loop_part' ((i - n) % length loop_part) [] =
        cond-false _ _ _ (le-ltb i (length stem') (omega arith))
        ∙ (ap (λ m. slice_index_or loop_part' ((i - m) % length loop_part') []) long ∙ ap (λ m. slice_index_or loop_part' ((i - n) % m) []) round) in
        let w = late ((i - n) % length loop_part) (mod-lt (i - n) some) in
        let v = first_loop A (length loop_part) n some r i after in
        subst (λ s. Contains s name ↔ A i) (sym e) (λ c. v.0 (w.0 c), λ a. w.1 (v.1 a))
  ]

-- ---- what is read

module _ (t : Table) (root : ℕ) (u : Trace) (m : Meanings) (values : AreValues t root u m.values)
    (sources : AreSources t root m.sources.items (meanings (tree_at t root))) where
  abbrev f : Formula
  f = tree_at t root

  abbrev meaning : ℕ → Formula
  meaning k = slice_index_or (meanings (tree_at t root)) k (Const false)

  abbrev source : ℕ → Source
  source k = slice_index_or m.sources.items k blank_source

  pub sources_taken : length m.sources.items ≡ taken (tree_at t root)
  sources_taken = as_many t root m.sources.items (meanings (tree_at t root)) sources ∙ meanings_taken (tree_at t root)

  row_long : (k : ℕ) → k < length m.sources.items → length (row_at m.values (source k).node) ≡ positions u f
  row_long k lt = (values (source k).node (source_at t root m.sources.items (meanings (tree_at t root)) k sources lt).under).count

  held_early : (g : Formula) (back : ℕ) (beyond : Bool) (i : ℕ) → i < back → IsTrue beyond ↔ HeldBack u g back beyond i
  held_early g back true i lt = (λ e le. absurd (omega arith), λ h. refl)
  held_early g back false i lt = (λ e. absurd (cc), λ w. let le = w.0 in absurd (omega arith))

  held_late : (g : Formula) (back : ℕ) (beyond : Bool) (i : ℕ) → back ≤ i → Holds u g (i - back) ↔ HeldBack u g back beyond i
  held_late g back true i le = (λ h x. h, λ h. h le)
  held_late g back false i le = (λ h. (le, h), λ w. w.1)

  pub shown_is : (k i : ℕ) → k < length m.sources.items → i < positions u f → IsTrue (shown m.values (source k) i) ↔ Holds u (meaning k) i
  shown_is k i lt within =
      let s = source_at t root m.sources.items (meanings (tree_at t root)) k sources lt in
      let says = s.says u i in
      elim (cases_lt i (source k).back) [
        | inl early ↦
            let e : shown m.values (source k) i ≡ (source k).beyond = cond-true _ _ _ (lt-ltb i (source k).back early) in
            let h = held_early (tree_at t (source k).node) (source k).back (source k).beyond i early in
            (λ x. says.1 (h.0 (sym e ∙ x)), λ x. e ∙ h.1 (says.0 x))
        | inr late ↦
            let e : shown m.values (source k) i ≡ cell (row_at m.values (source k).node) (i - (source k).back) =
            cond-false _ _ _ (le-ltb i (source k).back late) in
            let h = held_late (tree_at t (source k).node) (source k).back (source k).beyond i late in
            let right = (values (source k).node s.under).right (i - (source k).back) (omega arith) in
            (λ x. says.1 (h.0 (right.0 (sym e ∙ x))), λ x. e ∙ right.1 (h.1 (says.0 x)))
      ]

  module _ (names : Names) (are : AreNewNames (tree_at t root) names) (same : (name : List ℕ) → Contains m.new name ↔ Contains names name)
      (few : taken (tree_at t root) ≤ 2 ^ 64) where
    pub readable : (i : ℕ) → i < positions u f → AreReadable m names i
    readable i within = record {
      named = let a = sources_taken in let b = are.count in omega arith;
      rows = λ k lt. let r = row_long k lt in omega arith;
    }

    pub old_told : (i : ℕ) (state : Names) → IsLiftedState m names (state_at u i) i state → (name : List ℕ) → IsOld (tree_at t root) name
        → Contains state name ↔ Contains (state_at u i) name
    old_told i state is name old = (
      λ c. elim ((is name).0 c) [
        | inl w ↦ w.0
        | inr w ↦
            let low : w.0 < taken (tree_at t root) = let a = sources_taken in let b = w.1 in omega arith in
            absurd (old w.0 low (w.2 ∙ are.each w.0 low))
      ],
      λ c. (is name).1 (inl (c, old_left (tree_at t root) m.new names are same name old)),
    )

    pub new_told : (i k : ℕ) (state : Names) → IsLiftedState m names (state_at u i) i state → i < positions u f → k < taken (tree_at t root)
        → Contains state (new_name (most_leading (tree_at t root)) k) ↔ Holds u (meaning k) i
    new_told i k state is within lt =
        let low : k < length m.sources.items = let a = sources_taken in omega arith in (
          λ c. elim ((is (new_name (most_leading (tree_at t root)) k)).0 c) [
            | inl w ↦ absurd (w.1 (new_there (tree_at t root) m.new names are same k lt))
            | inr w ↦
                let other : w.0 < taken (tree_at t root) = let a = sources_taken in let b = w.1 in omega arith in
                let e : w.0 ≡ k = one_number (most_leading (tree_at t root)) w.0 k (omega arith) (omega arith) (sym (w.2 ∙ are.each w.0 other)) in
                (shown_is k i low within).0 (subst (λ j. IsTrue (shown m.values (source j) i)) e w.3)
          ],
          λ h. (is (new_name (most_leading (tree_at t root)) k)).1 (inr (k, low, sym (are.each k lt), (shown_is k i low within).1 h)),
        )

-- ---- lifted traces

module _ (t : Table) (root : ℕ) (m : Meanings) (sources : AreSources t root m.sources.items (meanings (tree_at t root)))
    (names : Names) (are : AreNewNames (tree_at t root) names) (same : (name : List ℕ) → Contains m.new name ↔ Contains names name)
    (few : taken (tree_at t root) ≤ 2 ^ 64) where
  pub finite_read : (states states' : List Names) (n : ℕ) → AreValues t root (Finite states) m.values → n ≡ length states
      → AreLiftedStates m names (Finite states) 0 n states' → IsLifted (tree_at t root) (Finite states) (Finite states')
  finite_read states states' n values e is = record {
    shape = is.long ∙ e;
    old_names = λ i at. old_told t root (Finite states) m values sources names are same few i (slice_index_or states' i []) (each i at);
    new_names = λ i at k lt. new_told t root (Finite states) m values sources names are same few i k (slice_index_or states' i []) (each i at) at lt;
  } where
    each : (i : ℕ) → i < length states → IsLiftedState m names (state_at (Finite states) i) i (slice_index_or states' i [])
    each i at = let z : 0 + i ≡ i = omega arith in
        subst (λ j. IsLiftedState m names (state_at (Finite states) j) j (slice_index_or states' i [])) z (is.each i (omega arith))

  pub infinite_read : (stem loop_part stem' loop_part' : List Names) (n : ℕ) → 0 < length loop_part → AreValues t root (Infinite stem loop_part) m.values
      → n ≡ length stem + past_depth (tree_at t root) * length loop_part
      → AreLiftedStates m names (Infinite stem loop_part) 0 n stem' → AreLiftedStates m names (Infinite stem loop_part) n (length loop_part) loop_part'
      → IsLifted (tree_at t root) (Infinite stem loop_part) (Infinite stem' loop_part')
  infinite_read stem loop_part stem' loop_part' n some values e first later = record {
    shape = (first.long ∙ e, later.long);
    old_names =
        λ i at name old. told_by stem loop_part stem' loop_part' some n first.long later.long name (λ j. Contains (state_at (Infinite stem loop_part) j) name)
        (subst (Repeats (λ j. Contains (state_at (Infinite stem loop_part) j) name) (length loop_part)) (sym e)
        (Holds-repeats stem loop_part some (Letter (Name name)) (past_depth (tree_at t root)) (omega arith)))
        (λ j lt. old_told t root (Infinite stem loop_part) m values sources names are same few j (slice_index_or stem' j []) (early j lt) name old)
        (λ j lt. old_told t root (Infinite stem loop_part) m values sources names are same few (n + j) (slice_index_or loop_part' j [])
        (later.each j lt) name old) i;
    new_names = λ i at k lt. told_by stem loop_part stem' loop_part' some n first.long later.long (new_name (most_leading (tree_at t root)) k)
        (Holds (Infinite stem loop_part) (slice_index_or (meanings (tree_at t root)) k (Const false)))
        (subst (Repeats (Holds (Infinite stem loop_part) (slice_index_or (meanings (tree_at t root)) k (Const false))) (length loop_part))
        (sym e) (Holds-repeats stem loop_part some (slice_index_or (meanings (tree_at t root)) k (Const false)) (past_depth (tree_at t root))
        (meaning_shallow (tree_at t root) k)))
        (λ j low. new_told t root (Infinite stem loop_part) m values sources names are same few j k (slice_index_or stem' j []) (early j low) (omega arith) lt)
        (λ j low. new_told t root (Infinite stem loop_part) m values sources names are same few (n + j) k (slice_index_or loop_part' j []) (later.each j low)
        (omega arith) lt) i;
  } where
    early : (i : ℕ) → i < n → IsLiftedState m names (state_at (Infinite stem loop_part) i) i (slice_index_or stem' i [])
    early i lt = let z : 0 + i ≡ i = omega arith in
        subst (λ j. IsLiftedState m names (state_at (Infinite stem loop_part) j) j (slice_index_or stem' i [])) z (first.each i lt)

-- ---- how many positions there are

some_nodes : (f : Formula) → 1 ≤ nodes_in f
some_nodes (Const b) = omega arith
some_nodes other = omega arith

pub positions_few : (u : Trace) (f : Formula) → cells u f ≤ max_cells → positions u f ≤ 67108864
positions_few u f few = let more : 1 * positions u f ≤ nodes_in f * positions u f = mul-le-mul_right (positions u f) (some_nodes f) in omega (arith, more, few)
