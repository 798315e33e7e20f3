-- The values that are read are those of the entries of a row, and the rows that are read stand in their order.
use Rattle.std.proofs.Common.{◌≡◌, ℕ, zero, suc, ◌+◌, ◌<◌, Bool, inl, inr, refl, ap, ap₂, sym, ◌∙◌, arith, subst, List, [], ◌∷◌, ◌++◌, length, length-append}
use Rattle.std.proofs.Common.{map, All, Contains}
use Rattle.std.proofs.lemmas.Bool.{cases_lt}
use Rattle.std.proofs.lemmas.Simd.{map-map}
use Rattle.ltl_syntax.specs.declared.node.Kind.{Kind}
use Rattle.ltl_syntax.specs.declared.node.Kind.TheVariants as Kinds
use Rattle.ltl_syntax.specs.Formula.{Formula}
use Rattle.ltl_closure.specs.Norm.{Norm}
use Rattle.ltl_closure.specs.Closure.{closure, nexts, eventualities}
use Rattle.ltl_closure.specs.Entries.{place_in, numbers_of, ClosureValue, IsNumber}
use Rattle.ltl_closure.specs.Run.{request_of, right_of}
use Rattle.ltl_closure.proofs.Lists.{Contains-from_filter}
use Rattle.ltl_closure.proofs.Known.{next_in, eventuality_in, numbers_known}
use Rattle.enc_layout.specs.Letters.{LayoutValue, EntryAt, number_of}
use Rattle.enc_layout.specs.Clauses.{counts, layout_of, carried, is_strong_next}
use Rattle.enc_layout.proofs.Carries.{Contains-from_map, carried_in, right_in}
use Rattle.enc_layout.proofs.Standing.{entries_count}
use Rattle.enc_layout.proofs.Writing.{request_in}
use Rattle.demand.specs.declared.row.Row.{Row as StoredRow}
use Rattle.demand.specs.declared.entries.RowEntries.{RowEntries}
use Rattle.demand.specs.Rows.{Row, refused_requests, values_of, rows_in}
use Rattle.demand.specs.Entries.{AreRowEntries}
use Rattle.demand.specs.Reading.{entry_value, values_at, read_row}

refused_in : (f : Formula) (kind : Kind) (e : Norm) → Contains (refused_requests f kind) e → Contains (closure f) e
refused_in f Kinds.Infinite e m = next_in f e m
refused_in f Kinds.Finite e m = next_in f e (Contains-from_filter is_strong_next (nexts f) e m).0

mapped_in : (f : Formula) (g : Norm → Norm) → ((e : Norm) → Contains (eventualities f) e → Contains (closure f) (g e)) → (e : Norm)
    → Contains (map g (eventualities f)) e → Contains (closure f) e
mapped_in f g inside e m = let w = Contains-from_map g (eventualities f) e m in subst (Contains (closure f)) w.2 (inside w.0 w.1)

module _ (layout : LayoutValue) (c : ClosureValue) (own : layout ≡ layout_of c) where
  -- the values of the entries of some numbers are those that an assignment gives to the entries
  pub values_are : (v : ℕ → Bool) (i : ℕ) (es : List Norm) (numbers : List ℕ) (values : List Bool) → values ≡ values_at layout v i numbers
      → numbers ≡ numbers_of c.formula es
      → values ≡ map (entry_value c.formula c.kind v i) es
  values_are v i es numbers values is are =
      is ∙ (ap (λ (m : LayoutValue). values_at m v i numbers) own ∙ (ap (values_at (layout_of c) v i) are
      ∙ map-map (λ t. v (number_of c.kind (counts c.formula) (EntryAt i t))) (place_in (closure c.formula)) es))

  -- the numbers are those of entries
  all_known : (es : List Norm) → ((e : Norm) → Contains es e → Contains (closure c.formula) e) → (numbers : List ℕ) → numbers ≡ numbers_of c.formula es
      → All (IsNumber layout.counts.entries) numbers
  all_known es inside numbers is =
      subst (λ n. All (IsNumber n) numbers) (sym (entries_count layout c own))
      (subst (λ ns. All (IsNumber (length (closure c.formula))) ns) (sym is) (numbers_known c.formula es inside))

  module _ (entries : RowEntries) (are : AreRowEntries c.formula c.kind entries) where
    pub carry_known : (numbers : List ℕ) → numbers ≡ entries.carry.items → All (IsNumber layout.counts.entries) numbers
    carry_known numbers is = all_known (carried c.formula) (carried_in c.formula) numbers (is ∙ are.carry)

    pub pending_known : (numbers : List ℕ) → numbers ≡ entries.pending.items → All (IsNumber layout.counts.entries) numbers
    pending_known numbers is =
        all_known (map request_of (eventualities c.formula)) (mapped_in c.formula request_of (request_in c.formula)) numbers (is ∙ are.pending)

    pub fulfilled_known : (numbers : List ℕ) → numbers ≡ entries.fulfilled.items → All (IsNumber layout.counts.entries) numbers
    fulfilled_known numbers is =
        all_known (map right_of (eventualities c.formula)) (mapped_in c.formula right_of (λ e m. right_in c.formula e (eventuality_in c.formula e m)))
        numbers (is ∙ are.fulfilled)

    pub refused_known : (numbers : List ℕ) → numbers ≡ entries.refused.items → All (IsNumber layout.counts.entries) numbers
    refused_known numbers is = all_known (refused_requests c.formula c.kind) (refused_in c.formula c.kind) numbers (is ∙ are.refused)

-- a row whose values are those that are read
pub row_is : (f : Formula) (kind : Kind) (v : ℕ → Bool) (i : ℕ) (row : StoredRow) → row.carry.items ≡ map (entry_value f kind v i) (carried f)
    → row.pending.items ≡ map (λ e. entry_value f kind v i (request_of e)) (eventualities f)
    → row.fulfilled.items ≡ map (λ e. entry_value f kind v i (right_of e)) (eventualities f)
    → row.refused.items ≡ map (entry_value f kind v i) (refused_requests f kind) → values_of row ≡ read_row f kind v i
row_is f kind v i row carry pending fulfilled refused =
    let made : List Bool → List Bool → List Bool → List Bool → Row = λ c p g r. record { carry = c; pending = p; fulfilled = g; refused = r } in
    let is = read_row f kind v i in
    ap₂ (λ xs ys. made xs ys row.fulfilled.items row.refused.items) carry pending ∙ ap₂ (λ xs ys. made is.carry is.pending xs ys) fulfilled refused

-- a row behind others
rows_before : (rows : List StoredRow) (row : StoredRow) (i : ℕ) → i < length rows → rows_in (rows ++ row ∷ []) i ≡ rows_in rows i
rows_before [] row i lt = absurd (omega arith)
rows_before (r ∷ rows) row zero lt = refl
rows_before (r ∷ rows) row (suc i) lt = rows_before rows row i (omega arith)

rows_last : (rows : List StoredRow) (row : StoredRow) (i : ℕ) → i ≡ length rows → rows_in (rows ++ row ∷ []) i ≡ values_of row
rows_last [] row i is = let z : 0 ≡ i = omega arith in ap (λ j. rows_in (row ∷ []) j) (sym z)
rows_last (r ∷ rows) row zero is = absurd (omega arith)
rows_last (r ∷ rows) row (suc i) is = rows_last rows row i (omega arith)

-- rows that are some values, and one more
pub rows_more : (rows new : List StoredRow) (row : StoredRow) (n : ℕ) (values : ℕ → Row) → new ≡ rows ++ row ∷ [] → length rows ≡ n
    → ((i : ℕ) → i < n → rows_in rows i ≡ values i)
    → values_of row ≡ values n → (i : ℕ) → i < n + 1 → rows_in new i ≡ values i
rows_more rows new row n values is count each last i lt = subst (λ (rs : List StoredRow). rows_in rs i ≡ values i) (sym is) (elim (cases_lt i n) [
  | inl before ↦ rows_before rows row i (omega arith) ∙ each i before
  | inr here ↦ let e : n ≡ i = omega arith in rows_last rows row i (omega arith) ∙ subst (λ j. values_of row ≡ values j) e last
])

pub one_more_row : (rows new : List StoredRow) (row : StoredRow) (n : ℕ) → new ≡ rows ++ row ∷ [] → length rows ≡ n → length new ≡ n + 1
one_more_row rows new row n is count = omega (arith, ap length is, length-append rows (row ∷ []), count)
