-- The letters of a trace, and its grid: there is one of each.
use Rattle.std.proofs.Common.{◌≡◌, ◌↔◌, ℕ, zero, suc, ◌-◌, ◌<◌, ◌≤◌, Bool, true, false, ◌||◌, ◌⊎◌, Option, codes, Result, Ok, Err, IfOk, List, [], ◌∷◌, ◌++◌}
use Rattle.std.proofs.Common.{map, length, length-append, get_or, All, Contains, bytes_eq, refl, sym, ap, ◌∙◌, subst, arith, inl, inr, lt-ltb, le-ltb}
use Rattle.std.specs.declared.alloc.AllocError.{AllocError}
use Rattle.std.proofs.Math.Nat.{mod-eq_of_lt}
use Rattle.std.proofs.lemmas.Bool.{cases_lt, cond-true, cond-false, le-leb, lt-leb}
use Rattle.std.proofs.lemmas.List.{length-map, get_or_append_left, get_or-append_right, get_or-map, ext_get_or}
use Rattle.std.proofs.lemmas.List.Elements.{Contains-append_left, Contains-append_right, Contains-append_cases, All-head, All-tail}
use Rattle.std.proofs.lemmas.Slice.Eq.{bytes_eq-Decides}
use Rattle.ltl_word.specs.declared.trace.Trace.{Trace}
use Rattle.ltl_word.specs.declared.trace.Trace.TheVariants.{Infinite, Finite}
use Rattle.ltl_word.specs.State.{IsAscending}
use Rattle.ltl_word.specs.Trace.{Names, state_at}
use Rattle.trace_view.specs.Grid.{RowValue, GridValue, IsRowOf, IsGridOf, Occurs, states_in, cells_for}
use Rattle.trace_view.specs.Letters.{all_names}
use Rattle.trace_view.specs.Text as view
use Rattle.requirement_report.specs.Lines.{inner, indented}
use Rattle.requirement_report.specs.Pictures.{states_of, has, letters_in, row_of, grid_of, picture_with}
use Rattle.ltl_word.proofs.Sets.{here, later, first_or_later}
use Rattle.requirement_report.proofs.Ascending.{is_ascending}

-- ---- the states that are shown

states_length : (t : Trace) → length (states_of t) ≡ states_in t
states_length (Infinite stem loop_part) = length-append stem loop_part
states_length (Finite states) = refl

state_is : (t : Trace) (i : ℕ) → i < states_in t → state_at t i ≡ get_or (states_of t) i []
state_is (Finite states) i lt = refl
state_is (Infinite stem loop_part) i lt = elim (cases_lt i (length stem)) [
  | inl low ↦ cond-true _ _ _ (lt-ltb i (length stem) low) ∙ sym (get_or_append_left stem loop_part [] i low)
  | inr high ↦
      let less : i - length stem < length loop_part = omega arith in
      cond-false _ _ _ (le-ltb i (length stem) high) ∙ ap (λ k. get_or loop_part k []) (mod-eq_of_lt less)
      ∙ sym (get_or-append_right stem loop_part (length stem) i [] refl high)
]

-- ---- letters

standing : (states : List Names) (name : List ℕ) → Contains (all_names states) name → (i : ℕ) × (i < length states) × Contains (get_or states i []) name
standing [] name (k, lt, at) = absurd (omega arith)
standing (state ∷ states) name c = elim (Contains-append_cases state (all_names states) name c) [
  | inl here ↦ (0, omega arith, here)
  | inr later ↦ let found = standing states name later in (suc found.0, omega (arith, found.1), found.2)
]

among_names : (states : List Names) (name : List ℕ) (i : ℕ) → i < length states → Contains (get_or states i []) name → Contains (all_names states) name
among_names [] name i lt c = absurd (omega arith)
among_names (state ∷ states) name zero lt c = Contains-append_left state (all_names states) name c
among_names (state ∷ states) name (suc i) lt c = Contains-append_right state (all_names states) name (among_names states name i (omega arith) c)

occurs : (t : Trace) (name : List ℕ) → Occurs t name ↔ Contains (all_names (states_of t)) name
occurs t name = (
  λ o. among_names (states_of t) name o.0 (omega (arith, o.1, states_length t)) (subst (λ s. Contains s name) (state_is t o.0 o.1) o.2),
  λ c. let found = standing (states_of t) name c in
      let lt : found.0 < states_in t = omega (arith, found.1, states_length t) in
      (found.0, lt, subst (λ s. Contains s name) (sym (state_is t found.0 lt)) found.2),
)

pub letters_are : (t : Trace) (letters : Names) → IsAscending letters → ((name : List ℕ) → Contains letters name ↔ Occurs t name) → letters ≡ letters_in t
letters_are t letters a h = is_ascending (all_names (states_of t)) letters a (λ n. (λ c. (occurs t n).0 ((h n).0 c), λ c. (h n).1 ((occurs t n).1 c)))

pub letters_found : (t : Trace) (found : Result Names AllocError) → IfOk found IsAscending
    → IfOk found (λ letters. (name : List ℕ) → Contains letters name ↔ Occurs t name)
    → IfOk found (λ letters. letters ≡ letters_in t)
letters_found t (Ok letters) a h = letters_are t letters a h
letters_found t (Err e) a h = h

-- ---- cells

or_cases : (a b : Bool) → a || b ≡ true → (a ≡ true) ⊎ (b ≡ true)
or_cases true b e = inl refl
or_cases false b e = inr e

or_left : (a b : Bool) → a ≡ true → a || b ≡ true
or_left a b e = ap (λ x. x || b) e

or_right : (a b : Bool) → b ≡ true → a || b ≡ true
or_right true b e = refl
or_right false b e = e

pub has_some : (name : List ℕ) (state : Names) → has name state ≡ true → Contains state name
has_some name [] e = absurd (cc)
has_some name (n ∷ ns) e = elim (or_cases (bytes_eq name n) (has name ns) e) [
  | inl same ↦ subst (Contains (n ∷ ns)) (sym ((bytes_eq-Decides name n).0 same)) (here n ns)
  | inr among ↦ later n ns name (has_some name ns among)
]

pub some_has : (name : List ℕ) (state : Names) → Contains state name → has name state ≡ true
some_has name [] (k, lt, e) = absurd (omega arith)
some_has name (n ∷ ns) c = elim (first_or_later n ns name c) [
  | inl same ↦ or_left (bytes_eq name n) (has name ns) ((bytes_eq-Decides name n).1 (sym same))
  | inr d ↦ or_right (bytes_eq name n) (has name ns) (some_has name ns d)
]

pub bool_is : (a b : Bool) → (a ≡ true → b ≡ true) → (b ≡ true → a ≡ true) → a ≡ b
bool_is true b f g = sym (f refl)
bool_is false true f g = g refl
bool_is false false f g = refl

cell_is : (t : Trace) (row : RowValue) → IsRowOf t row → (i : ℕ) → i < states_in t
    → get_or row.cells i false ≡ get_or (map (has row.name) (states_of t)) i false
cell_is t row h i lt =
    let state = get_or (states_of t) i [] in
    let at : state_at t i ≡ state = state_is t i lt in
    bool_is (get_or row.cells i false) (has row.name state)
    (λ e. some_has row.name state (subst (λ s. Contains s row.name) at ((h.filled i lt).0 e)))
    (λ e. (h.filled i lt).1 (subst (λ s. Contains s row.name) (sym at) (has_some row.name state e)))
    ∙ sym (get_or-map (has row.name) (states_of t) i [] false (omega (arith, lt, states_length t)))

cells_are : (t : Trace) (row : RowValue) → IsRowOf t row → row.cells ≡ map (has row.name) (states_of t)
cells_are t row h =
    ext_get_or false row.cells (map (has row.name) (states_of t)) (h.count ∙ sym (length-map (states_of t) (has row.name) ∙ states_length t))
    (λ i lt. cell_is t row h i (omega (arith, h.count, lt)))

rows_are : (t : Trace) (rows : List RowValue) → All (IsRowOf t) rows → rows ≡ map (row_of t) (map (λ (r : RowValue). r.name) rows)
rows_are t [] h = refl
rows_are t (row ∷ rows) h =
    ap (λ cells. (record { name = row.name; cells = cells }) ∷ rows) (cells_are t row (All-head (IsRowOf t) row rows h))
    ∙ ap (λ rest. row_of t row.name ∷ rest) (rows_are t rows (All-tail (IsRowOf t) row rows h))

grid_with : (rows : List RowValue) (states : ℕ) (at : Option ℕ) → GridValue
grid_with rows states at = record { rows = rows; states = states; loop_at = at }

pub grid_is : (t : Trace) (letters : Names) (g : GridValue) → IsGridOf t letters g → g ≡ grid_of t letters
unfolding grid_with
grid_is t letters g h =
    let rows : g.rows ≡ map (row_of t) letters = rows_are t g.rows h.rows_are ∙ ap (map (row_of t)) h.letters_are in
    ap (λ rs. grid_with rs g.states g.loop_at) rows
    ∙ (ap (λ n. grid_with (map (row_of t) letters) n g.loop_at) h.states_are
    ∙ ap (grid_with (map (row_of t) letters) (states_in t)) h.loop_is)

-- ---- what is put

pub shown_rows : (t : Trace) (letters : Names) (g : GridValue) (old new lines : List ℕ) → IsGridOf t letters g → cells_for t letters ≤ 16777216
    → lines ≡ view.text g 76 → new ≡ old ++ indented true lines → new ≡ old ++ picture_with t letters
shown_rows t letters g old new lines h few text put =
    put ∙ ap (λ ls. old ++ indented true ls) (text ∙ ap (λ x. view.text x 76) (grid_is t letters g h))
    ∙ ap (λ x. old ++ x) (sym (cond-true _ _ _ (le-leb _ _ few)))

pub no_rows : (t : Trace) (letters : Names) (old new : List ℕ) → 16777216 < cells_for t letters
    → new ≡ old ++ inner (codes "limit cells 16777216") → new ≡ old ++ picture_with t letters
no_rows t letters old new many put = put ∙ ap (λ x. old ++ x) (sym (cond-false _ _ _ (lt-leb _ _ many)))
