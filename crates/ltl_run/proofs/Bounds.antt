-- At the bound the verdict is settled.
use Rattle.std.proofs.Common.{◌≡◌, ℕ, suc, ◌+◌, ◌*◌, ◌^◌, ◌<◌, ◌≤◌, ◌⊎◌, inl, inr, subst, ap, ap₂, arith, sym, refl, ◌∙◌, List, [], ◌∷◌, ◌++◌, map, length}
use Rattle.std.proofs.Common.{Contains, Bool, true, IsTrue, IsFalse, count_by, length-append, ◌&&◌}
use Rattle.ltl_syntax.specs.declared.node.Kind.{Kind}
use Rattle.ltl_syntax.specs.declared.node.Kind.TheVariants as Kinds
use Rattle.std.proofs.lemmas.Bool.{cases_lt, and_parts, and_from, and_right}
use Rattle.std.proofs.lemmas.List.Sums.{count_by-le-length}
use Rattle.std.proofs.lemmas.List.{length-map}
use Rattle.std.proofs.lemmas.List.Elements.{Contains-append_left, Contains-append_right}
use native.Mathlib.Decide.{dec_lt}
use Rattle.ltl_closure.specs.Decide.{is_yes}
use Rattle.ltl_syntax.specs.Formula.{Formula}
use Rattle.ltl_closure.specs.Norm.{Norm}
use Rattle.ltl_closure.specs.Closure.{nexts, yesterdays, eventualities, argument}
use Rattle.ltl_closure.specs.Run.{States, IsRun, val, carry, is_pending, is_fulfilled, IsFulfilledIn, IsAccepted, Loop, Triple, Pair, IsUnpruned, IsVerdict}
use Rattle.ltl_closure.specs.Run.{undecided, Undecided, bound}
use Rattle.ltl_closure.proofs.Lists.{Contains-nil, Contains-cons_cases, Contains-here, Contains-there}
use Rattle.ltl_word.proofs.Search.{first_or_none, ×_decided, →_decided, IsTrue_decided}
use Rattle.ltl_run.specs.Repeated.{IsAscending, HaveCarry}
use Rattle.ltl_run.proofs.Carry.{carry-from}
use Rattle.ltl_run.proofs.Splicing.{run_prefix}
use Rattle.ltl_run.proofs.Shorter.{one_pending}
use Rattle.ltl_run.proofs.Crowd.{places, length-places, places_within, IsAscending-places, Agree, crowd, count_by-lt}

-- each member has it, or one has not
pub member_or_all : {X : Type 0} (P : X → Type 0) → ((x : X) → Dec (P x)) → (xs : List X)
    → ((x : X) × Contains xs x × (P x → ⊥)) ⊎ ((x : X) → Contains xs x → P x)
member_or_all P d [] = inr (λ x c. absurd (Contains-nil x c))
member_or_all P d (y ∷ ys) = elim (d y) [
  | no h ↦ inl (y, Contains-here y ys, h)
  | yes p ↦ elim (member_or_all P d ys) [
    | inl w ↦ inl (w.0, Contains-there y ys w.0 w.1, w.2)
    | inr all ↦ inr (λ x c. elim (Contains-cons_cases y ys x c) [ inl e ↦ subst P e p | inr i ↦ all x i ])
  ]
]

pub fulfilled_decided : (r : States) (l i : ℕ) (e : Norm) → Dec (IsFulfilledIn r l i e)
fulfilled_decided r l i e =
    elim (first_or_none (λ j. (l < j) × IsTrue (is_fulfilled (r j) e)) (λ j. ×_decided (dec_lt l j) (IsTrue_decided (is_fulfilled (r j) e))) (suc i)) [
      | inl w ↦ yes (w.0, w.2.0, omega arith, w.2.1)
      | inr none ↦ no (λ w. none w.0 (omega arith) (w.1, w.3))
    ]

yes_is : {P : Type 0} (d : Dec P) → IsTrue (is_yes d) → P
yes_is (yes p) e = p
yes_is (no h) e = cc

is_yes_of : {P : Type 0} (d : Dec P) → P → IsTrue (is_yes d)
is_yes_of (yes p) q = refl
is_yes_of (no h) q = absurd (h q)

is_no_of : {P : Type 0} (d : Dec P) → (P → ⊥) → IsFalse (is_yes d)
is_no_of (yes p) h = absurd (h p)
is_no_of (no h) k = refl

-- the carry's places, as tests on positions
abbrev pub tests_of : Formula → States → List (ℕ → Bool)
tests_of f r = map (λ e i. r i e) (nexts f) ++ map (λ e i. val (r i) (argument e)) (yesterdays f)

Contains-map : {X Y : Type 0} (g : X → Y) (xs : List X) (x : X) → Contains xs x → Contains (map g xs) (g x)
Contains-map g [] x c = absurd (Contains-nil x c)
Contains-map g (y ∷ ys) x c = elim (Contains-cons_cases y ys x c) [
  | inl e ↦ subst (λ z. Contains (g y ∷ map g ys) (g z)) e (Contains-here (g y) (map g ys))
  | inr i ↦ Contains-there (g y) (map g ys) (g x) (Contains-map g ys x i)
]

premise : {P Q : Type 0} → Dec P → ((P → Q) → ⊥) → P
premise (yes p) h = p
premise (no n) h = absurd (h (λ p. absurd (n p)))

-- places that answer alike have one carry
pub agree_carry : (f : Formula) (r : States) (ys : List ℕ) → Agree (tests_of f r) ys → (y z : ℕ) → Contains ys y → Contains ys z → carry f (r y) ≡ carry f (r z)
agree_carry f r ys agree y z cy cz = carry-from f (r y) (r z) (record {
  next = λ e c. agree (λ i. r i e) (Contains-append_left _ _ _ (Contains-map (λ e i. r i e) (nexts f) e c)) y z cy cz;
  before = λ e c. agree (λ i. val (r i) (argument e)) (Contains-append_right _ _ _ (Contains-map (λ e i. val (r i) (argument e)) (yesterdays f) e c)) y z cy cz;
})

pub length-tests_of : (f : Formula) (r : States) → length (tests_of f r) ≡ length (nexts f) + length (yesterdays f)
length-tests_of f r = length-append (map (λ e i. r i e) (nexts f)) (map (λ e i. val (r i) (argument e)) (yesterdays f))
    ∙ ap₂ ◌+◌ (length-map (nexts f) (λ e i. r i e)) (length-map (yesterdays f) (λ e i. val (r i) (argument e)))

-- among more than m * 2 ^ (x + y) states, more than m have one carry
pub crowded : (f : Formula) (r : States) (m n : ℕ) → m * 2 ^ (length (nexts f) + length (yesterdays f)) < n →
    (ys : List ℕ) × IsAscending ys × (m < length ys) × ((y : ℕ) → Contains ys y → y < n)
    × ((y z : ℕ) → Contains ys y → Contains ys z → carry f (r y) ≡ carry f (r z))
crowded f r m n h =
    let e : m * 2 ^ length (tests_of f r) ≡ m * 2 ^ (length (nexts f) + length (yesterdays f)) = ap (λ c. m * 2 ^ c) (length-tests_of f r) in
    let d : length (places 0 n) ≡ n = length-places 0 n in
    let w = crowd (tests_of f r) m (places 0 n) (IsAscending-places 0 n) (omega arith) in
    (w.0, w.1, w.2, λ y c. let p = places_within 0 n y (w.3 y c) in omega arith, agree_carry f r w.0 w.4)

module _ (f : Formula) (k : ℕ) (r : States) (run : IsRun f k r) (open' : (i : ℕ) → i ≤ k → IsAccepted f r i Kinds.Infinite → ⊥)
    (unpruned : IsUnpruned f r k Kinds.Infinite) where
  module _ (y0 : ℕ) where
    -- pending with this carry, and fulfilled after y0 and up to z
    meets : ℕ → Norm → Bool
    meets z e = is_pending (r y0) e && is_yes (fulfilled_decided r y0 z e)

    met : ℕ → ℕ
    met z = count_by (meets z) (eventualities f)

    -- one place further, one more eventuality is met
    met_more : (y z : ℕ) → y0 < y → y < z → z ≤ k → carry f (r y0) ≡ carry f (r y) → carry f (r y) ≡ carry f (r z) → met y < met z
    unfolding met meets
    met_more y z a b le one two = elim (member_or_all
        (λ e. IsTrue (is_pending (r z) e) → IsFulfilledIn r y z e → IsFulfilledIn r y0 y e)
        (λ e. →_decided (IsTrue_decided (is_pending (r z) e)) (→_decided (fulfilled_decided r y z e) (fulfilled_decided r y0 y e)))
        (eventualities f)) [
          | inr all ↦ absurd (unpruned z le (Triple y0 y a b one two all))
          | inl w ↦ one_more w.0 w.1 w.2
        ]
      where
        one_more : (e : Norm) → Contains (eventualities f) e → ((IsTrue (is_pending (r z) e) → IsFulfilledIn r y z e → IsFulfilledIn r y0 y e) → ⊥)
            → count_by (meets y) (eventualities f) < count_by (meets z) (eventualities f)
        one_more e c h =
            let pending : IsTrue (is_pending (r z) e) = premise (IsTrue_decided (is_pending (r z) e)) h in
            let now : IsFulfilledIn r y z e = premise (fulfilled_decided r y z e) (λ g. h (λ p. g)) in
            let before : IsFulfilledIn r y0 y e → ⊥ = λ w. h (λ p g. w) in
            count_by-lt (meets y) (meets z) (eventualities f) e
            (λ d t. let v = and_parts (is_pending (r y0) d) (is_yes (fulfilled_decided r y0 y d)) t in
            let u = yes_is (fulfilled_decided r y0 y d) v.1 in
            and_from _ _ v.0 (is_yes_of (fulfilled_decided r y0 z d) (u.0, u.1, omega arith, u.3)))
            c
            (and_right _ _ (is_no_of (fulfilled_decided r y0 y e) before))
            (and_from _ _ (one_pending f (r y0) (r z) (one ∙ two) e c ∙ pending) (is_yes_of (fulfilled_decided r y0 z e) (now.0, omega arith, now.2, now.3)))

    -- at no place are all met, since the run would close there
    met_few : (z : ℕ) → y0 < z → z ≤ k → carry f (r y0) ≡ carry f (r z) → met z < length (eventualities f)
    unfolding met meets
    met_few z a le one = elim (member_or_all
        (λ e. IsTrue (is_pending (r z) e) → IsFulfilledIn r y0 z e)
        (λ e. →_decided (IsTrue_decided (is_pending (r z) e)) (fulfilled_decided r y0 z e))
        (eventualities f)) [
          | inr all ↦ absurd (open' z le (Loop y0 a one all))
          | inl w ↦ few w.0 w.1 w.2
        ]
      where
        few : (e : Norm) → Contains (eventualities f) e → ((IsTrue (is_pending (r z) e) → IsFulfilledIn r y0 z e) → ⊥)
            → count_by (meets z) (eventualities f) < length (eventualities f)
        few e c h =
            let before : IsFulfilledIn r y0 z e → ⊥ = λ w. h (λ p. w) in
            let lt = count_by-lt (meets z) (λ d. true) (eventualities f) e (λ d t. refl) c
            (and_right _ _ (is_no_of (fulfilled_decided r y0 z e) before)) refl in
            let le = count_by-le-length (λ d. true) (eventualities f) in
            omega arith

    -- along places with one carry
    met_along : (ys : List ℕ) (y : ℕ) → y0 < y → y ≤ k → IsAscending (y ∷ ys) → ((z : ℕ) → Contains ys z → z ≤ k)
        → ((z : ℕ) → Contains (y ∷ ys) z → carry f (r y0) ≡ carry f (r z)) → met y + length ys < length (eventualities f)
    met_along [] y a le asc below one = let w = met_few y a le (one y (Contains-here y [])) in omega arith
    met_along (z ∷ zs) y a le asc below one =
        let lt : y < z = asc.0 z (Contains-here z zs) in
        let at_z : z ≤ k = below z (Contains-here z zs) in
        let same_y = one y (Contains-here y (z ∷ zs)) in
        let same_z = one z (Contains-there y (z ∷ zs) z (Contains-here z zs)) in
        let more = met_more y z a lt at_z same_y (sym same_y ∙ same_z) in
        let rest = met_along zs z (omega arith) at_z asc.1 (λ v c. below v (Contains-there z zs v c)) (λ v c. one v (Contains-there y (z ∷ zs) v c)) in
        omega arith

  -- no carry comes more than e + 1 times
  pub carries_few : (ys : List ℕ) → IsAscending ys → ((y : ℕ) → Contains ys y → y ≤ k)
      → ((y z : ℕ) → Contains ys y → Contains ys z → carry f (r y) ≡ carry f (r z)) → length ys ≤ length (eventualities f) + 1
  carries_few [] asc below one = omega arith
  carries_few (x ∷ []) asc below one = omega arith
  carries_few (x ∷ y ∷ ys) asc below one =
      let lt : x < y = asc.0 y (Contains-here y ys) in
      let w = met_along x ys y lt (below y (Contains-there x (y ∷ ys) y (Contains-here y ys))) asc.1
      (λ z c. below z (Contains-there x (y ∷ ys) z (Contains-there y ys z c)))
      (λ z c. one x z (Contains-here x (y ∷ ys)) (Contains-there x (y ∷ ys) z c)) in
      omega arith

-- an unpruned run with no accepted prefix is shorter than the bound
pub bounded : (f : Formula) (k : ℕ) (r : States) → IsRun f k r → ((i : ℕ) → i ≤ k → IsAccepted f r i Kinds.Infinite → ⊥) → IsUnpruned f r k Kinds.Infinite
    → k < bound f Kinds.Infinite
bounded f k r run open' unpruned = elim (cases_lt k (bound f Kinds.Infinite)) [
  | inl lt ↦ lt
  | inr ge ↦
      let w = crowded f r (length (eventualities f) + 1) (suc k) (omega arith) in
      let few = carries_few f k r run open' unpruned w.0 w.1 (λ y c. let lt = w.3 y c in omega arith) w.4 in
      absurd (omega arith)
]

-- in an unpruned run none of whose fronts is accepted, each carry comes at most e + 1 times
pub carry_comes_few : (f : Formula) (k : ℕ) (r : States) → IsRun f k r → ((i : ℕ) → i ≤ k → IsAccepted f r i Kinds.Infinite → ⊥)
    → IsUnpruned f r k Kinds.Infinite → (c : List Bool) (states : List ℕ) → HaveCarry f r k c states
    → length states ≤ length (eventualities f) + 1
carry_comes_few f k r run open' unpruned c states have =
    carries_few f k r run open' unpruned states have.ascending have.within (λ y z a b. have.one y a ∙ sym (have.one z b))

-- and in the finite kind once
pub carry_comes_once : (f : Formula) (k : ℕ) (r : States) → IsUnpruned f r k Kinds.Finite → (c : List Bool) (states : List ℕ) → HaveCarry f r k c states
    → length states ≤ 1
carry_comes_once f k r unpruned c [] have = omega arith
carry_comes_once f k r unpruned c (x ∷ []) have = omega arith
carry_comes_once f k r unpruned c (x ∷ y ∷ ys) have =
    let cx = Contains-here x (y ∷ ys) in
    let cy = Contains-there x (y ∷ ys) y (Contains-here y ys) in
    absurd (unpruned y (have.within y cy) (Pair x (have.ascending.0 y (Contains-here y ys)) (have.one x cx ∙ sym (have.one y cy))))

pub bounded_finite : (f : Formula) (k : ℕ) (r : States) → IsRun f k r → IsUnpruned f r k Kinds.Finite → k < bound f Kinds.Finite
bounded_finite f k r run unpruned = elim (cases_lt k (bound f Kinds.Finite)) [
  | inl lt ↦ lt
  | inr ge ↦
      let w = crowded f r 1 (suc k) (omega arith) in
      absurd (two w.0 w.1 w.2 w.3 w.4)
]
  where
    two : (ys : List ℕ) → IsAscending ys → 1 < length ys → ((y : ℕ) → Contains ys y → y < suc k)
        → ((y z : ℕ) → Contains ys y → Contains ys z → carry f (r y) ≡ carry f (r z)) → ⊥
    two [] asc many below one = omega arith
    two (x ∷ []) asc many below one = omega arith
    two (x ∷ y ∷ ys) asc many below one =
        let cy = Contains-there x (y ∷ ys) y (Contains-here y ys) in
        let lt = below y cy in
        unpruned y (omega arith) (Pair x (asc.0 y (Contains-here y ys)) (one x y (Contains-here x (y ∷ ys)) cy))

-- where the limit reaches the bound, the verdict is settled
pub settled : (f : Formula) (kind : Kind) (limit n : ℕ) → bound f kind ≤ limit → IsVerdict f kind limit (Undecided n) → ⊥
settled f Kinds.Infinite limit n le (undecided all) =
    let w = (all (bound f Kinds.Infinite) le).unpruned in
    let lt = bounded f (bound f Kinds.Infinite) w.0 w.1
    (λ i h acc. (all i (omega arith)).rejected (w.0, run_prefix f (bound f Kinds.Infinite) w.0 w.1 i h, acc)) w.2 in
    omega arith
settled f Kinds.Finite limit n le (undecided all) =
    let w = (all (bound f Kinds.Finite) le).unpruned in
    let lt = bounded_finite f (bound f Kinds.Finite) w.0 w.1 w.2 in
    omega arith
