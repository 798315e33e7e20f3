-- The closure of the system formula is the first part of that of the whole formula, so it has no more entries of any kind.
use Rattle.std.proofs.Common.{◌≡◌, ℕ, ◌+◌, ◌*◌, ◌/◌, ◌^◌, ◌≤◌, Bool, true, false, List, [], ◌∷◌, ◌++◌, length, filter, map, refl, sym, ap, ◌∙◌, arith}
use Rattle.std.proofs.Common.{length-append, if◌then◌else◌, append_assoc}
use Rattle.std.proofs.lemmas.List.{append-nil, length-map}
use Rattle.std.proofs.lemmas.List.Elements.{filter-append}
use Rattle.std.proofs.lemmas.Nat.{mul-le}
use Rattle.std.proofs.Math.Nat.{mul-le-mul_left, pow-le-pow_right}
use Rattle.ltl_syntax.specs.declared.node.Kind.{Kind}
use Rattle.ltl_syntax.specs.declared.node.Kind.TheVariants as Kinds
use Rattle.ltl_syntax.specs.Formula.{Formula, Binary}
use Rattle.ltl_syntax.specs.declared.node.BinaryOp.TheVariants.{And}
use Rattle.ltl_closure.specs.Norm.{Norm, NAnd, pos_of}
use Rattle.ltl_closure.specs.Closure.{closure, walk, with_new, added, holds_entry, nexts, yesterdays, eventualities, is_next, is_yesterday, is_eventuality}
use Rattle.ltl_closure.specs.Closure.{argument}
use Rattle.ltl_closure.specs.Run.{bound}
use Rattle.ltl_closure.proofs.Again.{with_new-append}
use Rattle.enc_layout.specs.Letters.{Counts, own_count, pair_count, Fits}
use Rattle.enc_layout.specs.Clauses.{counts}
use Rattle.system_check.specs.Laws.{IsNoLarger}

-- what stands behind the entries that were there
added_is : (b : Bool) (kept : List Norm) (x : Norm) → (more : List Norm) × ((if b then kept else kept ++ x ∷ []) ≡ kept ++ more)
added_is true kept x = ([], sym (append-nil kept))
added_is false kept x = (x ∷ [], refl)

pub with_new_is : (kept xs : List Norm) → (more : List Norm) × (with_new kept xs ≡ kept ++ more)
with_new_is kept [] = ([], sym (append-nil kept))
with_new_is kept (x ∷ xs) =
    let a = added_is (holds_entry kept x) kept x in
    let b = with_new_is (added kept x) xs in
    (a.0 ++ b.0, b.1 ∙ ap (λ k. k ++ b.0) a.1 ∙ append_assoc kept a.0 b.0)

-- the closure of a conjunction begins with that of its left part
pub left_first : (f g : Formula) → (more : List Norm) × (closure (Binary And f g) ≡ closure f ++ more)
left_first f g =
    let w = with_new_is (closure f) (walk (pos_of g) ++ NAnd (pos_of f) (pos_of g) ∷ []) in
    (w.0, with_new-append [] (walk (pos_of f)) (walk (pos_of g) ++ NAnd (pos_of f) (pos_of g) ∷ []) ∙ w.1)

-- fewer of each kind
fewer : (test : Norm → Bool) (xs ys zs : List Norm) → ys ≡ xs ++ zs → length (filter test xs) ≤ length (filter test ys)
fewer test xs ys zs e =
    let split = ap (λ l. length (filter test l)) e ∙ ap length (filter-append test xs zs) ∙ length-append (filter test xs) (filter test zs) in
    omega (arith, split)

power_grows : (m n : ℕ) → m ≤ n → 2 ^ m ≤ 2 ^ n
power_grows m n le = pow-le-pow_right (omega arith) le

pub left_no_larger : (f g : Formula) → IsNoLarger f (Binary And f g)
left_no_larger f g = record {
  entries = entries;
  nexts = nexts_less;
  yesterdays = yesterdays_less;
  eventualities = eventualities_less;
  bounds = bounds;
}
  where
    w : (more : List Norm) × (closure (Binary And f g) ≡ closure f ++ more)
    w = left_first f g

    entries : length (closure f) ≤ length (closure (Binary And f g))
    entries = omega (arith, ap length w.1, length-append (closure f) w.0)

    nexts_less : length (nexts f) ≤ length (nexts (Binary And f g))
    nexts_less = fewer is_next (closure f) (closure (Binary And f g)) w.0 w.1

    yesterdays_less : length (yesterdays f) ≤ length (yesterdays (Binary And f g))
    yesterdays_less = fewer is_yesterday (closure f) (closure (Binary And f g)) w.0 w.1

    eventualities_less : length (eventualities f) ≤ length (eventualities (Binary And f g))
    eventualities_less = fewer is_eventuality (closure f) (closure (Binary And f g)) w.0 w.1

    carried : 2 ^ (length (nexts f) + length (yesterdays f)) ≤ 2 ^ (length (nexts (Binary And f g)) + length (yesterdays (Binary And f g)))
    carried = power_grows _ _ (omega (arith, nexts_less, yesterdays_less))

    bounds : (kind : Kind) → bound f kind ≤ bound (Binary And f g) kind
    bounds Kinds.Infinite = mul-le _ _ _ _ (omega (arith, eventualities_less)) carried
    bounds Kinds.Finite = carried

letters_grow : (d own own' pair pair' : ℕ)
    → own ≤ own' → pair ≤ pair' → 1 + (d + 1) * own + d * (d + 1) / 2 * pair ≤ 1 + (d + 1) * own' + d * (d + 1) / 2 * pair'
letters_grow d own own' pair pair' a b = omega (arith, mul-le-mul_left (d + 1) a, mul-le-mul_left (d * (d + 1) / 2) b)

carried_long : (f : Formula) → (counts f).places ≡ length (nexts f) + length (yesterdays f)
carried_long f = length-append (nexts f) (map argument (yesterdays f)) ∙ ap (λ n. length (nexts f) + n) (length-map (yesterdays f) argument)

-- fewer letters of each sort
own_grows : (kind : Kind) (c c' : Counts) → c.entries ≤ c'.entries → c.eventualities ≤ c'.eventualities → own_count kind c ≤ own_count kind c'
own_grows Kinds.Infinite c c' a b = omega arith
own_grows Kinds.Finite c c' a b = omega arith

pair_grows : (kind : Kind) (c c' : Counts) → c.places ≤ c'.places → c.eventualities ≤ c'.eventualities → pair_count kind c ≤ pair_count kind c'
pair_grows Kinds.Infinite c c' a b = omega arith
pair_grows Kinds.Finite c c' a b = omega arith

pub left_fits : (f g : Formula) (kind : Kind) (d : ℕ) → Fits (record { kind = kind; counts = counts (Binary And f g) }) d
    → Fits (record { kind = kind; counts = counts f }) d
left_fits f g kind d fits =
    let w = left_no_larger f g in
    let places : (counts f).places ≤ (counts (Binary And f g)).places = omega (arith, carried_long f, carried_long (Binary And f g), w.nexts, w.yesterdays) in
    omega (
      arith,
      letters_grow d (own_count kind (counts f)) (own_count kind (counts (Binary And f g))) (pair_count kind (counts f))
          (pair_count kind (counts (Binary And f g)))
          (own_grows kind (counts f) (counts (Binary And f g)) w.entries w.eventualities)
          (pair_grows kind (counts f) (counts (Binary And f g)) places w.eventualities),
      fits,
    )
