-- The clauses of the links, by their indexes.
use Rattle.std.proofs.Common.{◌≡◌, ℕ, zero, suc, ◌+◌, ◌-◌, ◌*◌, ◌/◌, ◌%◌, ◌<◌, Bool, false, IsTrue, arith, refl, ap, sym, subst, ◌∙◌, ◌∷◌, length, []}
use Rattle.std.proofs.Common.{length-append, get_or, flat_map}
use Rattle.std.specs.Prelude.{slice_index_or, if◌then◌else◌}
use Rattle.ltl_syntax.specs.Formula.{Formula}
use Rattle.cnf_base.specs.declared.literal.Literal.{Literal as Signed}
use Rattle.ltl_closure.specs.Norm.{Norm, NConst, NYesterday, NWeakYesterday, pos_of}
use Rattle.ltl_closure.specs.Closure.{closure, nexts, yesterdays, is_yesterday}
use Rattle.ltl_closure.specs.Entries.{place_in}
use Rattle.enc_layout.specs.Letters.{Meaning, LayoutValue, Here, EntryAt}
use Rattle.enc_layout.specs.Clauses.{Plus, Minus, literal_in, links_part, start, next_clauses, before_clauses}
use Rattle.clause_index.specs.Rows.{row_at, link_rows}
use Rattle.clause_index.specs.ByNumber.{number_at, argument_at, weak_at, is_weak}
use Rattle.clause_index.proofs.Rows.{row_left, row_right, row_flat}
use Rattle.clause_index.proofs.Sizing.{is_yesterday_at, start_one, length-starts, length-nexts, length-yesterdays}

module _ (layout : LayoutValue) where
  abbrev pub plus : Meaning → Signed
  plus p = literal_in layout.kind layout.counts (Plus p)

  abbrev pub minus : Meaning → Signed
  minus p = literal_in layout.kind layout.counts (Minus p)

  module _ (f : Formula) where
    -- what a yesterday request is at the first state
    start_row : (e : Norm) → IsTrue (is_yesterday e) → minus (Here 0)
        ∷ (if is_weak e then plus (EntryAt 0 (place_in (closure f) e)) else minus (EntryAt 0 (place_in (closure f) e))) ∷ [] ≡ row_at layout (start f e) 0
    start_row (NYesterday a) h = refl
    start_row (NWeakYesterday a) h = refl
    start_row e h = cc

    starts_row : (k : ℕ) → k < length (yesterdays f)
        → row_at layout (links_part f 0) (1 + k) ≡ row_at layout (start f (get_or (yesterdays f) k (NConst false))) 0
    starts_row k lt =
        let same : k / 1 ≡ k = omega arith in
        let none : k % 1 ≡ 0 = omega arith in
        row_right layout.kind layout.counts ((Minus (Here 0) ∷ Plus (EntryAt 0 (place_in (closure f) (pos_of f))) ∷ []) ∷ [])
        (flat_map (start f) (yesterdays f)) 1 k refl
        ∙ (row_flat layout.kind layout.counts 1 (start f) (yesterdays f) (NConst false) k (start_one f) (omega arith)
        ∙ rw (same, none) refl)

    pub first_row : (k n index : ℕ) (w : Bool) → k < length (yesterdays f) → 1 + k ≡ index → n ≡ number_at f (yesterdays f) k → w ≡ weak_at f (yesterdays f) k
        → minus (Here 0) ∷ (if w then plus (EntryAt 0 n) else minus (EntryAt 0 n)) ∷ [] ≡ row_at layout (links_part f 0) index
    first_row k n index w lt is ni wi =
        ap (λ b. minus (Here 0) ∷ (if b then plus (EntryAt 0 n) else minus (EntryAt 0 n)) ∷ []) wi
        ∙ (ap (λ m. minus (Here 0) ∷ (if weak_at f (yesterdays f) k then plus (EntryAt 0 m) else minus (EntryAt 0 m)) ∷ []) ni
        ∙ (start_row (get_or (yesterdays f) k (NConst false)) (is_yesterday_at f k lt)
        ∙ (sym (starts_row k lt) ∙ ap (row_at layout (links_part f 0)) is)))

    -- a link, by its request's number and its argument's
    pub next_row : (step n a index : ℕ) → 0 < step → index < length (nexts f) * 2 → n ≡ number_at f (nexts f) (index / 2)
        → a ≡ argument_at f (nexts f) (index / 2)
        → slice_index_or (link_rows (plus (Here step)) (plus (EntryAt (step - 1) n)) (plus (EntryAt step a))) (index % 2) [] ≡ row_at layout
        (flat_map (next_clauses f (step - 1)) (nexts f)) index
    next_row zero n a index some lt ni ai = absurd (omega arith)
    next_row (suc j) n a index some lt ni ai =
        let one : suc j - 1 ≡ j = omega arith in
        ap (λ m. slice_index_or (link_rows (plus (Here (suc j))) (plus (EntryAt (suc j - 1) m)) (plus (EntryAt (suc j) a))) (index % 2) []) ni
        ∙ (ap (λ m. slice_index_or (link_rows (plus (Here (suc j))) (plus (EntryAt (suc j - 1) (number_at f (nexts f) (index / 2)))) (plus (EntryAt (suc j) m)))
        (index % 2) []) ai
        ∙ (ap (λ i. slice_index_or (link_rows (plus (Here (suc j))) (plus (EntryAt i (number_at f (nexts f) (index / 2))))
        (plus (EntryAt (suc j) (argument_at f (nexts f) (index / 2))))) (index % 2) []) one
        ∙ (sym (row_flat layout.kind layout.counts 2 (next_clauses f j) (nexts f) (NConst false) index (λ k h. refl) lt)
        ∙ ap (λ i. row_at layout (flat_map (next_clauses f i) (nexts f)) index) (sym one))))

    pub yesterday_row : (step n a index : ℕ) → 0 < step → index < length (yesterdays f) * 2 → n ≡ number_at f (yesterdays f) (index / 2)
        → a ≡ argument_at f (yesterdays f) (index / 2)
        → slice_index_or (link_rows (plus (Here step)) (plus (EntryAt step n)) (plus (EntryAt (step - 1) a))) (index % 2) [] ≡ row_at layout
        (flat_map (before_clauses f (step - 1)) (yesterdays f)) index
    yesterday_row zero n a index some lt ni ai = absurd (omega arith)
    yesterday_row (suc j) n a index some lt ni ai =
        let one : suc j - 1 ≡ j = omega arith in
        ap (λ m. slice_index_or (link_rows (plus (Here (suc j))) (plus (EntryAt (suc j) m)) (plus (EntryAt (suc j - 1) a))) (index % 2) []) ni
        ∙ (ap (λ m. slice_index_or
        (link_rows (plus (Here (suc j))) (plus (EntryAt (suc j) (number_at f (yesterdays f) (index / 2)))) (plus (EntryAt (suc j - 1) m))) (index % 2) []) ai
        ∙ (ap (λ i. slice_index_or (link_rows (plus (Here (suc j))) (plus (EntryAt (suc j) (number_at f (yesterdays f) (index / 2))))
        (plus (EntryAt i (argument_at f (yesterdays f) (index / 2))))) (index % 2) []) one
        ∙ (sym (row_flat layout.kind layout.counts 2 (before_clauses f j) (yesterdays f) (NConst false) index (λ k h. refl) lt)
        ∙ ap (λ i. row_at layout (flat_map (before_clauses f i) (yesterdays f)) index) (sym one))))

    -- the links to the step before
    pub later_left : (step index : ℕ) → 0 < step → index < length (nexts f) * 2
        → row_at layout (flat_map (next_clauses f (step - 1)) (nexts f)) index ≡ row_at layout (links_part f step) index
    later_left zero index some lt = absurd (omega arith)
    later_left (suc j) index some lt =
        let one : suc j - 1 ≡ j = omega arith in
        ap (λ i. row_at layout (flat_map (next_clauses f i) (nexts f)) index) one
        ∙ sym (row_left layout.kind layout.counts (flat_map (next_clauses f j) (nexts f)) (flat_map (before_clauses f j) (yesterdays f)) index (omega (
          arith,
          length-nexts f j,
        )))

    pub later_right : (step k index : ℕ) → 0 < step → length (nexts f) * 2 + k ≡ index
        → row_at layout (flat_map (before_clauses f (step - 1)) (yesterdays f)) k ≡ row_at layout (links_part f step) index
    later_right zero k index some is = absurd (omega arith)
    later_right (suc j) k index some is =
        let one : suc j - 1 ≡ j = omega arith in
        ap (λ i. row_at layout (flat_map (before_clauses f i) (yesterdays f)) k) one
        ∙ (sym (row_right layout.kind layout.counts (flat_map (next_clauses f j) (nexts f)) (flat_map (before_clauses f j) (yesterdays f))
        (length (nexts f) * 2) k (length-nexts f j))
        ∙ ap (row_at layout (links_part f (suc j))) is)

pub link_at : {h t s : Signed} (h' t' s' : Signed) (index : ℕ)
    → h' ≡ h → t' ≡ t → s' ≡ s → slice_index_or (link_rows h' t' s') index [] ≡ slice_index_or (link_rows h t s) index []
link_at h' t' s' index hi ti si = cc

pub links_first : (f : Formula) (step index : ℕ) → step ≡ 0 → index < length (links_part f step) → index < 1 + length (yesterdays f)
links_first f step index is lt =
    let all : index < length (links_part f 0) = subst (λ n. index < length (links_part f n)) is lt in
    let starts = length-starts f in
    omega arith

pub links_later : (f : Formula) (step : ℕ) → 0 < step → length (links_part f step) ≡ length (nexts f) * 2 + length (yesterdays f) * 2
links_later f zero some = absurd (omega arith)
links_later f (suc j) some =
    let a = length-nexts f j in
    let b = length-yesterdays f j in
    let c = length-append (flat_map (next_clauses f j) (nexts f)) (flat_map (before_clauses f j) (yesterdays f)) in
    omega arith
