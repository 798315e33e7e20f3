-- Which lines end at a line, from its hints.
use Rattle.std.proofs.Common.{◌≡◌, ℕ, zero, suc, ◌+◌, ◌-◌, ◌<◌, ◌≤◌, ◌==◌, ◌&&◌, inl, inr, Bool, true, false, not, ltb, leb, eqb, List, [], ◌∷◌, ◌++◌, length}
use Rattle.std.proofs.Common.{take, get_or, filter, Contains, refl, sym, ap, ◌∙◌, subst, arith}
use Rattle.std.specs.List.{dedup}
use Rattle.std.proofs.lemmas.Bool.{and_parts, and_from, lt-ltb, le-leb, ltb-true, leb-true, eq-eqb, eqb-true}
use Rattle.std.proofs.lemmas.List.{take_more}
use Rattle.std.proofs.lemmas.List.Elements.{filter-append, Contains-get_or}
use Rattle.std.proofs.lemmas.List.Sorted.{Contains-permutation, IsPermutation-sym}
use Rattle.std.proofs.lemmas.List.Kept.{Contains-dedup_nat, Contains-from_dedup}
use Rattle.std.proofs.lemmas.Map.Keys.{IsStrictlyIncreasing-dedup}
use Rattle.std.specs.List.Sorted.{IsPermutation, IsSorted, IsStrictlyIncreasing}
use Rattle.std.specs.Ordering.{nat_cmp}
use mathlib.Core.Bool.{false≢true}
use Rattle.cnf_base.specs.declared.literal.Hint.{Hint}
use Rattle.cnf_base.specs.declared.literal.Hint.TheVariants as hints
use Rattle.cert_text.specs.Writing.{named_lines, is_ended, last_use, ended_at, Ascends, EndsAt, AreLast}
use Rattle.cert_text.proofs.Ended.{has, has_from, has_to, has_filter, last_uses_are_last, ended_are_one}

named_push : (hs : List Hint) (h : Hint) → named_lines (hs ++ h ∷ []) ≡ named_lines hs ++ named_lines (h ∷ [])
named_push [] h = refl
named_push (hints.Line n ∷ hs) h = ap (λ x. n ∷ x) (named_push hs h)
named_push (hints.Clause n ∷ hs) h = named_push hs h

-- one hint more
pub more_hint : (p : ℕ → Bool) (line : ℕ) (hs : List Hint) (i : ℕ) (d : Hint) → i < length hs
    → filter p (line ∷ named_lines (take (i + 1) hs)) ≡ filter p (line ∷ named_lines (take i hs)) ++ filter p (named_lines (get_or hs i d ∷ []))
more_hint p line hs i d low =
    ap (λ x. filter p (line ∷ x)) (ap named_lines (take_more hs i d low) ∙ named_push (take i hs) (get_or hs i d))
    ∙ filter-append p (line ∷ named_lines (take i hs)) (named_lines (get_or hs i d ∷ []))

pub gather_more : (p : ℕ → Bool) (line : ℕ) (hs : List Hint) (i : ℕ) (d : Hint) (old new : List ℕ) → i < length hs
    → new ≡ old ++ filter p (named_lines (get_or hs i d ∷ []))
    → old ≡ filter p (line ∷ named_lines (take i hs)) → new ≡ filter p (line ∷ named_lines (take (i + 1) hs))
gather_more p line hs i d old new low put are = put ∙ ap (λ x. x ++ filter p (named_lines (get_or hs i d ∷ []))) are ∙ sym (more_hint p line hs i d low)

named_to : (m : ℕ) (hs : List Hint) → Contains (named_lines hs) m → Contains hs (hints.Line m)
named_to m [] there = absurd (omega (arith, there.1))
named_to m (hints.Clause n ∷ hs) there = let w = named_to m hs there in (suc w.0, omega (arith, w.1), w.2)
named_to m (hints.Line n ∷ hs) (zero, low, at) = (0, omega arith, ap hints.Line at)
named_to m (hints.Line n ∷ hs) (suc i, low, at) = let w = named_to m hs (i, omega (arith, low), at) in (suc w.0, omega (arith, w.1), w.2)

named_from : (m : ℕ) (hs : List Hint) → Contains hs (hints.Line m) → Contains (named_lines hs) m
named_from m [] there = absurd (omega (arith, there.1))
named_from m (hints.Clause n ∷ hs) (zero, low, at) = cc
named_from m (hints.Clause n ∷ hs) (suc i, low, at) = named_from m hs (i, omega (arith, low), at)
named_from m (hints.Line n ∷ hs) (zero, low, at) = (0, omega arith, (let e : n ≡ m = cc in e))
named_from m (hints.Line n ∷ hs) (suc i, low, at) = let w = named_from m hs (i, omega (arith, low), at) in (suc w.0, omega (arith, w.1), w.2)

-- what is gathered are the lines that end there
pub gathered : (hss : List (List Hint)) (last targets : List ℕ) (k m : ℕ) → AreLast hss (length hss) last → k < length hss
    → ((i : ℕ) → Contains (get_or hss k []) (hints.Line i) → i ≤ k)
    → (Contains (filter (is_ended last targets (k + 1)) ((k + 1) ∷ named_lines (get_or hss k []))) m → EndsAt hss targets (k + 1) m)
    × (EndsAt hss targets (k + 1) m → Contains (filter (is_ended last targets (k + 1)) ((k + 1) ∷ named_lines (get_or hss k []))) m)
gathered hss last targets k m are low later = (
  λ there.
      let parts = and_parts (is_ended last targets (k + 1) m) (has m ((k + 1) ∷ named_lines (get_or hss k [])))
      (sym (has_filter (is_ended last targets (k + 1)) m ((k + 1) ∷ named_lines (get_or hss k [])))
      ∙ has_from m (filter (is_ended last targets (k + 1)) ((k + 1) ∷ named_lines (get_or hss k []))) there) in
      let test = and_parts ((ltb 0 m && leb m (length last)) && (get_or last (m - 1) 0 == k + 1)) (not (has m targets)) parts.0 in
      let range = and_parts (ltb 0 m && leb m (length last)) (get_or last (m - 1) 0 == k + 1) test.0 in
      let both = and_parts (ltb 0 m) (leb m (length last)) range.0 in
      let some = ltb-true 0 m both.0 in
      let back : suc (m - 1) ≡ m = omega (arith, some) in
      record {
        low = omega (arith, some);
        high = bound (has_to m ((k + 1) ∷ named_lines (get_or hss k [])) parts.1);
        no_target = λ t. false≢true (sym (ap not (has_from m targets t)) ∙ test.1);
        last = ap (last_use hss) (sym back) ∙ sym (are.each (m - 1) (omega (arith, some, leb-true m (length last) both.1, are.size)))
            ∙ eqb-true (get_or last (m - 1) 0) (k + 1) range.1;
      },
  λ ends.
      let is = last_uses_are_last hss m in
      let back : suc (m - 1) ≡ m = omega (arith, ends.low) in
      let there : Contains ((k + 1) ∷ named_lines (get_or hss k [])) m = elim is.is [
        | inl use' ↦
            let at : use'.0 ≡ k = omega (arith, use'.2, ends.last) in
            let w = named_from m (get_or hss k []) (subst (λ j. Contains (get_or hss j []) (hints.Line m)) at use'.3) in
            (suc w.0, omega (arith, w.1), w.2)
        | inr none ↦ (0, omega arith, (let e : k + 1 ≡ m = omega (arith, none.0, ends.last) in e))
      ] in
      let inside : m - 1 < length hss = omega (arith, ends.low, ends.high, low) in
      let value : get_or last (m - 1) 0 ≡ k + 1 = are.each (m - 1) inside ∙ ap (last_use hss) back ∙ ends.last in
      let test : is_ended last targets (k + 1) m ≡ true =
      and_from ((ltb 0 m && leb m (length last)) && (get_or last (m - 1) 0 == k + 1)) (not (has m targets))
      (and_from (ltb 0 m && leb m (length last)) (get_or last (m - 1) 0 == k + 1) (and_from (ltb 0 m) (leb m (length last)) (lt-ltb 0 m ends.low)
      (le-leb m (length last) (omega (arith, inside, are.size, ends.low)))) (eq-eqb (get_or last (m - 1) 0) (k + 1) value))
      (absent (has m targets) (λ e. ends.no_target (has_to m targets e))) in
      has_to m (filter (is_ended last targets (k + 1)) ((k + 1) ∷ named_lines (get_or hss k [])))
      (has_filter (is_ended last targets (k + 1)) m ((k + 1) ∷ named_lines (get_or hss k [])) ∙ and_from (is_ended last targets (k + 1) m)
      (has m ((k + 1) ∷ named_lines (get_or hss k []))) test (has_from m ((k + 1) ∷ named_lines (get_or hss k [])) there)),
)
  where
    bound : Contains ((k + 1) ∷ named_lines (get_or hss k [])) m → m ≤ k + 1
    bound (zero, l, at) = omega (arith, at)
    bound (suc i, l, at) = omega (arith, later m (named_to m (get_or hss k []) (i, omega (arith, l), at)))

    absent : (b : Bool) → (b ≡ true → ⊥) → not b ≡ true
    absent true none = absurd (none refl)
    absent false none = refl

-- numbers that strictly increase ascend
ascends_from : (low : ℕ) (xs : List ℕ) → (0 < length xs → low < get_or xs 0 0) → IsStrictlyIncreasing xs → Ascends low xs
ascends_from low [] first up = tt
ascends_from low (x ∷ xs) first up = (
  first (omega arith),
  ascends_from x xs (λ some. up 0 (omega (arith, some)))
      (λ k below.
      let e : suc k + 1 ≡ suc (k + 1) = omega arith in
      subst (λ j. get_or xs k 0 < get_or (x ∷ xs) j 0) e (up (suc k) (omega (arith, below)))),
)

-- the list of what ends, sorted and without repeats
pub ended_list : (hss : List (List Hint)) (last targets found sorted result : List ℕ) (k : ℕ) → AreLast hss (length hss) last → k < length hss
    → ((i : ℕ) → Contains (get_or hss k []) (hints.Line i) → i ≤ k)
    → found ≡ filter (is_ended last targets (k + 1)) ((k + 1) ∷ named_lines (get_or hss k [])) → IsPermutation found sorted → IsSorted nat_cmp sorted
    → result ≡ dedup eqb sorted
    → result ≡ ended_at hss targets (k + 1)
ended_list hss last targets found sorted result k are low later is same up end =
    let to : (m : ℕ) → Contains (dedup eqb sorted) m → EndsAt hss targets (k + 1) m =
    λ m there. (gathered hss last targets k m are low later).0
    (subst (λ x. Contains x m) is (Contains-permutation sorted found m (IsPermutation-sym found sorted same) (Contains-from_dedup eqb sorted m there))) in
    let from : (m : ℕ) → EndsAt hss targets (k + 1) m → Contains (dedup eqb sorted) m =
    λ m ends. Contains-dedup_nat sorted m
    (Contains-permutation found sorted m same (subst (λ x. Contains x m) (sym is) ((gathered hss last targets k m are low later).1 ends))) in
    end ∙ ended_are_one hss targets (k + 1) (dedup eqb sorted)
    (ascends_from 0 (dedup eqb sorted) (λ some. (to (get_or (dedup eqb sorted) 0 0) (Contains-get_or (dedup eqb sorted) 0 0 some)).low)
    (IsStrictlyIncreasing-dedup sorted up))
    (λ m. (to m, from m))
