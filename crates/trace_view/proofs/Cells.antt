-- The cells of a row: one state more, and a stem with its loop behind it.
use Rattle.std.proofs.Common.{◌≡◌, ◌↔◌, ℕ, ◌+◌, ◌-◌, ◌<◌, ◌≤◌, Bool, false, List, [], ◌∷◌, ◌++◌, length, length-append, get_or, IsTrue, Contains, below_more}
use Rattle.std.proofs.Common.{ap, sym, subst, ◌∙◌, arith, inl, inr, lt-ltb, le-ltb}
use Rattle.std.proofs.Math.Nat.{mod-eq_of_lt}
use Rattle.std.proofs.Math.Seq.{get_or-append_seam}
use Rattle.std.proofs.lemmas.Bool.{cases_lt, cond-true, cond-false}
use Rattle.std.proofs.lemmas.List.{get_or_append_left, get_or-append_right, get_or_default}
use Rattle.ltl_word.specs.declared.trace.Trace.{Trace}
use Rattle.ltl_word.specs.declared.trace.Trace.TheVariants.{Infinite, Finite}
use Rattle.ltl_word.specs.Trace.{Names, state_at}
use Rattle.trace_view.specs.Grid.{IsRowOf, AreCells}

-- filled exactly where the letter is true, in the first n states
abbrev pub AgreeBelow : ℕ → List Names → List ℕ → List Bool → Type 0
AgreeBelow n states name cells = (k : ℕ) → k < n → IsTrue (get_or cells k false) ↔ Contains (get_or states k []) name

-- one state more
pub cell_more : (states : List Names) (name : List ℕ) (cells new : List Bool) (i : ℕ) (state : Names) (b : Bool) → length cells ≡ i → i < length states
    → state ≡ get_or states i state → AgreeBelow i states name cells → new ≡ cells ++ b ∷ [] → (IsTrue b ↔ Contains state name)
    → AgreeBelow (i + 1) states name new
cell_more states name cells new i state b count lt at before is here =
    subst (AgreeBelow (i + 1) states name) (sym is)
    (below_more (λ k. IsTrue (get_or (cells ++ b ∷ []) k false) ↔ Contains (get_or states k []) name) i earlier last) where
      earlier : (k : ℕ) → k < i → IsTrue (get_or (cells ++ b ∷ []) k false) ↔ Contains (get_or states k []) name
      earlier k less =
          subst (λ c. IsTrue c ↔ Contains (get_or states k []) name) (sym (get_or_append_left cells (b ∷ []) false k (omega arith))) (before k less)

      seam : get_or (cells ++ b ∷ []) i false ≡ b
      seam = subst (λ n. get_or (cells ++ b ∷ []) n false ≡ b) count (get_or-append_seam cells b [] false)

      state_is : state ≡ get_or states i []
      state_is = at ∙ get_or_default states i state [] lt

      last : IsTrue (get_or (cells ++ b ∷ []) i false) ↔ Contains (get_or states i []) name
      last = subst (λ s. IsTrue (get_or (cells ++ b ∷ []) i false) ↔ Contains s name) state_is (subst (λ c. IsTrue c ↔ Contains state name) (sym seam) here)

pub in_stem : (stem loop_part : List Names) (i : ℕ) → i < length stem → state_at (Infinite stem loop_part) i ≡ get_or stem i []
in_stem stem loop_part i lt = cond-true _ _ _ (lt-ltb i (length stem) lt)

pub in_loop : (stem loop_part : List Names) (i : ℕ) → length stem ≤ i → i < length stem + length loop_part
    → state_at (Infinite stem loop_part) i ≡ get_or loop_part (i - length stem) []
in_loop stem loop_part i le lt =
    let less : i - length stem < length loop_part = omega arith in
    cond-false _ _ _ (le-ltb i (length stem) le) ∙ ap (λ k. get_or loop_part k []) (mod-eq_of_lt less)

-- the cells of the stem, and those of the loop behind them
pub row_of_parts : (stem loop_part : List Names) (name : List ℕ) (cs ds all : List Bool) → AreCells stem name cs → AreCells loop_part name ds → all ≡ cs ++ ds
    → IsRowOf (Infinite stem loop_part) (record { name = name; cells = all })
row_of_parts stem loop_part name cs ds all a b is = record {
  count = ap length is ∙ length-append cs ds ∙ omega (arith, a.count, b.count);
  filled = λ i lt. elim (cases_lt i (length stem)) [
    | inl low ↦ subst (λ s. IsTrue (get_or all i false) ↔ Contains s name) (sym (in_stem stem loop_part i low))
        (subst (λ c. IsTrue c ↔ Contains (get_or stem i []) name) (sym (ap (λ xs. get_or xs i false) is ∙ get_or_append_left cs ds false i (omega (
          arith,
          a.count,
        )))) (a.filled i low))
    | inr high ↦ subst (λ s. IsTrue (get_or all i false) ↔ Contains s name) (sym (in_loop stem loop_part i high lt))
        (subst (λ c. IsTrue c ↔ Contains (get_or loop_part (i - length stem) []) name)
        (sym (ap (λ xs. get_or xs i false) is ∙ get_or-append_right cs ds (length stem) i false a.count high)) (b.filled (i - length stem) (omega arith)))
  ];
}

-- those of a finite trace
pub row_of_states : (states : List Names) (name : List ℕ) (cs all : List Bool) → AreCells states name cs
    → all ≡ cs → IsRowOf (Finite states) (record { name = name; cells = all })
row_of_states states name cs all a is =
    subst (λ xs. IsRowOf (Finite states) (record { name = name; cells = xs })) (sym is) (record { count = a.count; filled = a.filled })

-- the same row by its trace and its name
pub named : (t u : Trace) (name name' : List ℕ) (all : List Bool) → name' ≡ name → t ≡ u → IsRowOf u (record { name = name; cells = all })
    → (name' ≡ name) × IsRowOf t (record { name = name'; cells = all })
named t u name name' all same is row =
    (same, subst (λ v. IsRowOf v (record { name = name'; cells = all })) (sym is) (subst (λ n. IsRowOf u (record { name = n; cells = all })) (sym same) row))
