-- Items by their numbers, and lists of numbers.
use Rattle.std.proofs.Common.{◌≡◌, ◌∙◌, ℕ, zero, suc, ◌+◌, ◌<◌, Bool, true, not, List, [], ◌∷◌, ◌++◌, map, length, take, get_or, sym, ap, arith}
use Rattle.std.specs.List.{filter, range_with_len}
use Rattle.std.proofs.lemmas.List.{take_more, map_more, get_or-map, length-map}
use Rattle.std.proofs.lemmas.List.Elements.{All-filter, filter-append}
use Rattle.std.proofs.lemmas.List.FromFn.{length-range_with_len, get_or-range_with_len}
use Rattle.std.proofs.lemmas.List.Kept.{IsStrictlyIncreasing-filter}
use Rattle.ltl_syntax.specs.Formula.{Const}
use Rattle.ltl_syntax.specs.Table.{tree_at}
use Rattle.requirement_document.specs.declared.document.Role.TheVariants as roles
use Rattle.requirement_document.specs.declared.document.Item.{Item}
use Rattle.requirement_document.specs.declared.document.Document.{Document}
use Rattle.requirement_document.specs.Values.{DocumentValue, item_in, document_in}
use Rattle.requirement_answers.specs.Items.{role_of, formula_of, is_given, given_numbers, is_among, without}
use Rattle.requirement_answers.specs.Inner.{alone_if, AreItems}

-- ---- numbers in a row

range_last : (a n : ℕ) → range_with_len a (suc n) ≡ range_with_len a n ++ (a + n) ∷ []
range_last a zero = let same : a ≡ a + 0 = omega arith in ap (λ k. k ∷ []) same
range_last a (suc n) = let same : (a + 1) + n ≡ a + suc n = omega arith in
    ap (λ l. a ∷ l) (range_last (a + 1) n ∙ ap (λ k. range_with_len (a + 1) n ++ k ∷ []) same)

pub range_more : (k : ℕ) → range_with_len 0 (k + 1) ≡ range_with_len 0 k ++ k ∷ []
range_more k =
    let on : k + 1 ≡ suc k = omega arith in
    let same : 0 + k ≡ k = omega arith in
    ap (range_with_len 0) on ∙ (range_last 0 k ∙ ap (λ j. range_with_len 0 k ++ j ∷ []) same)

pub filter_more : (p : ℕ → Bool) (k : ℕ) → filter p (range_with_len 0 (k + 1)) ≡ filter p (range_with_len 0 k) ++ alone_if (p k) k
filter_more p k = ap (filter p) (range_more k) ∙ filter-append p (range_with_len 0 k) (k ∷ [])

pub without_more : (away xs : List ℕ) (i d : ℕ) → i < length xs
    → without away (take (i + 1) xs) ≡ without away (take i xs) ++ alone_if (not (is_among away (get_or xs i d))) (get_or xs i d)
without_more away xs i d lt = ap (without away) (take_more xs i d lt) ∙ filter-append (λ n. not (is_among away n)) (take i xs) (get_or xs i d ∷ [])

-- ---- what stands at a number

module _ (d : Document) (n : ℕ) (i : Item) (lt : n < length d.items.items) (is : i ≡ get_or d.items.items n i) where
  there : n < length (map item_in d.items.items)
  there = omega (arith, lt, length-map d.items.items item_in)

  pub role_at : role_of (document_in d) n ≡ i.role
  role_at = get_or-map (λ v. v.role) (map item_in d.items.items) n (item_in i) roles.Assume there
      ∙ ap (λ v. v.role) (get_or-map item_in d.items.items n i (item_in i) lt ∙ ap item_in (sym is))

  pub formula_at : formula_of (document_in d) n ≡ tree_at i.table i.root
  formula_at = get_or-map (λ v. v.formula) (map item_in d.items.items) n (item_in i) (Const true) there
      ∙ ap (λ v. v.formula) (get_or-map item_in d.items.items n i (item_in i) lt ∙ ap item_in (sym is))

-- ---- numbers of items

pub given_items : (d : DocumentValue) → AreItems d (given_numbers d)
given_items d =
    let many = length d.items in
    let p : ℕ → Bool = λ n. is_given (role_of d n) in
    record {
      inside = All-filter p (λ n. n < many) (range_with_len 0 many)
          (λ k e lt. omega (arith, lt, length-range_with_len 0 many, get_or-range_with_len 0 many k e (omega (arith, lt, length-range_with_len 0 many))));
      ascend = IsStrictlyIncreasing-filter p (range_with_len 0 many) (λ k lt.
          let long = length-range_with_len 0 many in
          omega (arith, get_or-range_with_len 0 many k 0 (omega (arith, lt, long)), get_or-range_with_len 0 many (k + 1) 0 (omega (arith, lt, long))));
    }

pub without_items : (d : DocumentValue) (away numbers : List ℕ) → AreItems d numbers → AreItems d (without away numbers)
without_items d away numbers w =
    let p : ℕ → Bool = λ n. not (is_among away n) in
    record { inside = All-filter p (λ n. n < length d.items) numbers w.inside; ascend = IsStrictlyIncreasing-filter p numbers w.ascend }

-- ---- one more at the end

pub mapped_more : {A B : Type 0} (f : A → B) (xs : List A) (k : ℕ) (d : A) (old new : List B) → k < length xs
    → new ≡ old ++ f (get_or xs k d) ∷ [] → old ≡ map f (take k xs) → new ≡ map f (take (k + 1) xs)
mapped_more f xs k d old new lt grown was = grown ∙ (ap (λ ys. ys ++ f (get_or xs k d) ∷ []) was ∙ sym (map_more f xs k d lt))
