-- The strong next requests among all, and the clauses of acceptance by their indexes.
use Rattle.std.proofs.Common.{◌≡◌, ℕ, zero, suc, ◌+◌, ◌<◌, ◌≤◌, Bool, true, false, not, IsTrue, arith, refl, ap, ap₂, sym, ◌∙◌, List, [], ◌∷◌, length}
use Rattle.std.proofs.Common.{get_or, map, take, cond, add-one}
use Rattle.std.specs.Prelude.{filter}
use Rattle.std.proofs.lemmas.List.Filters.{length-filter_more}
use Rattle.std.proofs.Math.Seq.{take-length}
use Rattle.std.proofs.lemmas.List.Elements.{Contains-get_or}
use Rattle.ltl_syntax.specs.declared.node.Kind.TheVariants as Kinds
use Rattle.ltl_syntax.specs.Formula.{Formula}
use Rattle.ltl_closure.specs.Norm.{Norm, NConst, NLetter, NNotLetter, NAnd, NOr, NNext, NWeakNext, NYesterday, NWeakYesterday, NUntil, NRelease, NSince}
use Rattle.ltl_closure.specs.Norm.{NTrigger}
use Rattle.ltl_closure.specs.Closure.{closure, nexts, is_next}
use Rattle.ltl_closure.proofs.Lists.{Contains-from_filter}
use Rattle.enc_layout.specs.Letters.{LayoutValue, Accepted, EmptyAt, EntryAt}
use Rattle.enc_layout.specs.Clauses.{Minus, literal_in, letter_of, is_strong_next, acceptance_part}
use Rattle.clause_index.specs.Rows.{row_at}
use Rattle.clause_index.specs.ByNumber.{number_at, weak_at, is_weak, strong_before}
use Rattle.clause_index.proofs.Rows.{row_map}
use Rattle.clause_index.proofs.Links.{minus}

-- the strong ones among the next requests are those among all entries
strong_filter : (es : List Norm) → filter is_strong_next (filter is_next es) ≡ filter is_strong_next es
strong_filter [] = refl
strong_filter (NConst b ∷ es) = strong_filter es
strong_filter (NLetter p ∷ es) = strong_filter es
strong_filter (NNotLetter p ∷ es) = strong_filter es
strong_filter (NAnd a b ∷ es) = strong_filter es
strong_filter (NOr a b ∷ es) = strong_filter es
strong_filter (NNext a ∷ es) = ap (λ z. NNext a ∷ z) (strong_filter es)
strong_filter (NWeakNext a ∷ es) = strong_filter es
strong_filter (NYesterday a ∷ es) = strong_filter es
strong_filter (NWeakYesterday a ∷ es) = strong_filter es
strong_filter (NUntil a b ∷ es) = strong_filter es
strong_filter (NRelease a b ∷ es) = strong_filter es
strong_filter (NSince a b ∷ es) = strong_filter es
strong_filter (NTrigger a b ∷ es) = strong_filter es

next_strong : (e : Norm) → IsTrue (is_next e) → is_strong_next e ≡ not (is_weak e)
next_strong (NNext a) h = refl
next_strong (NWeakNext a) h = refl
next_strong e h = cc

-- a member that a filter keeps stands behind those that are kept before it
kept_by : {X : Type 0} (p : X → Bool) (x : X) (xs : List X) (k : ℕ) (d : X) (b : Bool)
    → p x ≡ b → get_or (filter p xs) (length (filter p (take k xs))) d ≡ get_or xs k d
    → get_or (filter p (x ∷ xs)) (length (filter p (x ∷ take k xs))) d ≡ get_or xs k d
kept_by p x xs k d true e ih = rw e ih
kept_by p x xs k d false e ih = rw e ih

kept : {X : Type 0} (p : X → Bool) (xs : List X) (k : ℕ) (d : X) → k < length xs
    → p (get_or xs k d) ≡ true → get_or (filter p xs) (length (filter p (take k xs))) d ≡ get_or xs k d
kept p [] k d lt h = absurd (omega arith)
kept p (x ∷ xs) zero d lt h = rw h refl
kept p (x ∷ xs) (suc k) d lt h = kept_by p x xs k d (p x) refl (kept p xs k d (omega arith) h)

abbrev both : Bool → ℕ → ℕ → ℕ
both b x y = cond b x y

cond_not : (b : Bool) → both (not b) 1 0 ≡ both b 0 1
cond_not true = refl
cond_not false = refl

module _ (f : Formula) where
  next_at : (k : ℕ) → k < length (nexts f) → IsTrue (is_next (get_or (nexts f) k (NConst false)))
  next_at k lt = (Contains-from_filter is_next (closure f) (get_or (nexts f) k (NConst false)) (Contains-get_or (nexts f) k (NConst false) lt)).1

  strong_counted : (k : ℕ) → k ≤ length (nexts f) → length (filter is_strong_next (take k (nexts f))) ≡ strong_before (nexts f) k
  strong_counted zero le = refl
  strong_counted (suc k) le =
      let e = get_or (nexts f) k (NConst false) in
      let ih = strong_counted k (omega arith) in
      let more = length-filter_more is_strong_next (nexts f) k (NConst false) (omega arith) in
      let one : both (is_strong_next (get_or (nexts f) k (NConst false))) 1 0 ≡ both (is_weak (get_or (nexts f) k (NConst false))) 0 1 =
      ap (λ b. both b 1 0) (next_strong e (next_at k (omega arith))) ∙ cond_not (is_weak e) in
      ap (λ n. length (filter is_strong_next (take n (nexts f)))) (sym (add-one k)) ∙ (more ∙ ap₂ ◌+◌ ih one)

  -- how many strong next requests there are
  pub strong_total : length (filter is_strong_next (closure f)) ≡ strong_before (nexts f) (length (nexts f))
  strong_total =
      ap length (sym (strong_filter (closure f)))
      ∙ (ap (λ z. length (filter is_strong_next z)) (sym (take-length (nexts f)))
      ∙ strong_counted (length (nexts f)) (omega arith))

  strong_at : (k : ℕ) → k < length (nexts f) → weak_at f (nexts f) k ≡ false
      → get_or (filter is_strong_next (closure f)) (strong_before (nexts f) k) (NConst false) ≡ get_or (nexts f) k (NConst false)
  strong_at k lt w =
      let strong : is_strong_next (get_or (nexts f) k (NConst false)) ≡ true = next_strong (get_or (nexts f) k (NConst false)) (next_at k lt) ∙ ap not w in
      ap₂ (λ z n. get_or z n (NConst false)) (sym (strong_filter (closure f))) (sym (strong_counted k (omega arith)))
      ∙ kept is_strong_next (nexts f) k (NConst false) lt strong

  pub strong_few : (es : List Norm) (k : ℕ) → strong_before es k ≤ k
  strong_few es zero = omega arith
  strong_few es (suc k) = let ih = strong_few es k in let one = small (is_weak (get_or es k (NConst false))) in omega arith
    where
      small : (b : Bool) → cond b 0 1 ≤ 1
      small true = omega arith
      small false = omega arith

  module _ (layout : LayoutValue) (i : ℕ) where
    pub end_row : (k number index : ℕ) → k < length (nexts f) → strong_before (nexts f) k ≡ index → weak_at f (nexts f) k ≡ false
        → index < strong_before (nexts f) (length (nexts f)) → number ≡ number_at f (nexts f) k
        → minus layout (Accepted i) ∷ minus layout (EntryAt i number) ∷ [] ≡ row_at layout (acceptance_part f Kinds.Finite i) index
    end_row k number index lt is w within n =
        let total = strong_total in
        let strong = filter is_strong_next (closure f) in
        ap (λ m. minus layout (Accepted i) ∷ minus layout (EntryAt i m) ∷ []) n
        ∙ (ap (λ e. map (literal_in layout.kind layout.counts) (Minus (Accepted i) ∷ Minus (letter_of f i e) ∷ [])) (sym (strong_at k lt w))
        ∙ (ap (λ m. map (literal_in layout.kind layout.counts)
        (Minus (Accepted i) ∷ Minus (letter_of f i (get_or (filter is_strong_next (closure f)) m (NConst false))) ∷ [])) is
        ∙ sym (row_map layout.kind layout.counts (λ t. Minus (Accepted i) ∷ Minus (letter_of f i t) ∷ []) strong (NConst false) index (omega arith))))

    pub empty_row : (index number : ℕ) → index < length (nexts f) → number ≡ number_at f (nexts f) index
        → minus layout (EmptyAt i) ∷ minus layout (EntryAt i number) ∷ [] ≡ row_at layout
        (map (λ t. Minus (EmptyAt i) ∷ Minus (letter_of f i t) ∷ []) (nexts f)) index
    empty_row index number lt n =
        ap (λ m. minus layout (EmptyAt i) ∷ minus layout (EntryAt i m) ∷ []) n
        ∙ sym (row_map layout.kind layout.counts (λ t. Minus (EmptyAt i) ∷ Minus (letter_of f i t) ∷ []) (nexts f) (NConst false) index lt)
