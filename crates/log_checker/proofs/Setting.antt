-- Values are given and taken away.
use Rattle.std.proofs.Common.{◌≡◌, ℕ, suc, ◌+◌, ◌-◌, ◌<◌, inl, inr, Bool, true, false, List, [], ◌∷◌, ◌++◌, length, take, get_or, set, replicate, All, Contains}
use Rattle.std.proofs.Common.{refl, sym, ap, ◌∙◌, subst, arith}
use Rattle.std.proofs.lemmas.Bool.{cases_eq}
use Rattle.std.proofs.lemmas.List.{length-set, length-replicate, get_or-set_same, get_or-set_other, get_or-replicate, take_more_set, take_more}
use Rattle.std.proofs.lemmas.List.Sums.{sum_by-set}
use Rattle.std.proofs.lemmas.List.Folds.{sum_by-replicate}
use Rattle.std.proofs.lemmas.List.Elements.{All-push, All-weaker, Contains-append_left, Contains-push, Contains-push_cases, All-nil, All-cons, All-head}
use Rattle.std.proofs.lemmas.List.Elements.{All-tail}
use Rattle.log_checker.specs.Values.{is_open, false_of, AreSet}
use Rattle.log_checker.specs.declared.assignment.Truth.{Truth}
use Rattle.log_checker.specs.declared.assignment.Truth.TheVariants.{Unset, True, False}

zeros : ℕ → List ℕ
zeros n = replicate n 0

set_none : (n : ℕ) → AreSet (replicate n Unset) (zeros n) 0
unfolding zeros
set_none n = let zero' : ℕ = 0 in record {
  size = length-replicate n zero' ∙ sym (length-replicate n Unset);
  room = omega (arith, sum_by-replicate is_open n Unset, length-replicate n zero');
  known = λ k d low. absurd (omega (arith, low));
  there = λ x low has. absurd (has (get_or-replicate n x Unset Unset (omega (arith, low, length-replicate n Unset))));
}

pub set_made : (values : List Truth) (trail : List ℕ) (n : ℕ) → values ≡ replicate n Unset → trail ≡ replicate n 0 → AreSet values trail 0
unfolding zeros
set_made values trail n a b = subst (λ vs. AreSet vs trail 0) (sym a) (subst (λ ts. AreSet (replicate n Unset) ts 0) (sym b) (set_none n))

-- a false literal's letter has a value
false_is_set : (b : Bool) → is_open (false_of b) ≡ 0
false_is_set true = refl
false_is_set false = refl

-- there is room for one more letter
pub room_left : (values : List Truth) (trail : List ℕ) (used x : ℕ) → AreSet values trail used → x < length values
    → get_or values x Unset ≡ Unset → used < length trail
room_left values trail used x is low none =
    let one : is_open (get_or values x Unset) ≡ 1 = ap is_open none in
    let e = sum_by-set is_open values x True Unset low in
    omega (arith, is.room, e, one)

pub set_more : (values : List Truth) (trail : List ℕ) (used x : ℕ) (b : Bool) → AreSet values trail used → x < length values → get_or values x Unset ≡ Unset
    → AreSet (set values x (false_of b)) (set trail used x) (used + 1)
set_more values trail used x b is low none =
    let inside : used < length trail = room_left values trail used x is low none in
    let same : length (set values x (false_of b)) ≡ length values = length-set values x (false_of b) in
    let shown : take (used + 1) (set trail used x) ≡ take used trail ++ x ∷ [] = take_more_set trail used x inside in
    record {
      size = length-set trail used x ∙ is.size ∙ sym same;
      room = omega (arith, is.room, sum_by-set is_open values x (false_of b) Unset low, ap is_open none, false_is_set b, length-set trail used x);
      known = subst (All (λ y. y < length (set values x (false_of b)))) (sym shown)
          (All-push (λ y. y < length (set values x (false_of b))) (take used trail) x (All-weaker (λ y. y < length values)
          (λ y. y < length (set values x (false_of b))) (λ y h. omega (arith, h, same)) (take used trail) is.known) (omega (arith, low, same)));
      there = λ y below has. subst (λ ys. Contains ys y) (sym shown) (elim (cases_eq y x) [
        | inl at ↦ subst (λ z. Contains (take used trail ++ x ∷ []) z) (sym at) (Contains-push (take used trail) x)
        | inr other ↦ Contains-append_left (take used trail) (x ∷ []) y
            (is.there y (omega (arith, below, same)) (λ e. has (get_or-set_other values x y (false_of b) Unset other ∙ e)))
      ]);
    }

-- the last letter of the trail
pub last_known : (values : List Truth) (trail : List ℕ) (used d : ℕ) → AreSet values trail (used + 1) → used < length trail
    → get_or trail used d < length values
last_known values trail used d is low =
    All-last (take used trail) (get_or trail used d) (subst (All (λ y. y < length values)) (take_more trail used d low) is.known)
  where
    All-last : (xs : List ℕ) (x : ℕ) → All (λ y. y < length values) (xs ++ x ∷ []) → x < length values
    All-last [] x all = All-head (λ y. y < length values) x [] all
    All-last (y ∷ xs) x all = All-last xs x (All-tail (λ z. z < length values) y (xs ++ x ∷ []) all)

pub set_fewer : (values : List Truth) (trail : List ℕ) (used d : ℕ) → AreSet values trail (used + 1) → used < length trail
    → AreSet (set values (get_or trail used d) Unset) trail used
set_fewer values trail used d is low =
    let x = get_or trail used d in
    let inside : x < length values = last_known values trail used d is low in
    let same : length (set values x Unset) ≡ length values = length-set values x Unset in
    let shown : take (used + 1) trail ≡ take used trail ++ x ∷ [] = take_more trail used d low in
    record {
      size = is.size ∙ sym same;
      room = omega (arith, is.room, sum_by-set is_open values x Unset Unset inside);
      known = All-weaker (λ y. y < length values) (λ y. y < length (set values x Unset)) (λ y h. omega (arith, h, same)) (take used trail)
          (firsts (take used trail) (subst (All (λ y. y < length values)) shown is.known));
      there = λ y below has. elim (cases_eq y x) [
        | inl at ↦ absurd (has (subst (λ z. get_or (set values x Unset) z Unset ≡ Unset) (sym at) (get_or-set_same values x Unset Unset inside)))
        | inr other ↦ elim (Contains-push_cases (take used trail) x y
            (subst (λ ys. Contains ys y) shown (is.there y (omega (arith, below, same)) (λ e. has (get_or-set_other values x y Unset Unset other ∙ e))))) [
              | inl before ↦ before
              | inr last ↦ absurd (other (sym last))
            ]
      ];
    }
  where
    firsts : (xs : List ℕ) → All (λ y. y < length values) (xs ++ get_or trail used d ∷ []) → All (λ y. y < length values) xs
    firsts [] all = All-nil (λ y. y < length values)
    firsts (y ∷ xs) all = All-cons (λ z. z < length values) y xs (All-head (λ z. z < length values) y (xs ++ get_or trail used d ∷ []) all)
        (firsts xs (All-tail (λ z. z < length values) y (xs ++ get_or trail used d ∷ []) all))

-- the last letter of the trail loses its value
pub set_undone : (values : List Truth) (trail : List ℕ) (used d : ℕ) → AreSet values trail used → 0 < used
    → (get_or trail (used - 1) d < length values) × AreSet (set values (get_or trail (used - 1) d) Unset) trail (used - 1)
set_undone values trail used d is some =
    let e : used ≡ used - 1 + 1 = omega (arith, some) in
    let low : used - 1 < length trail = omega (arith, some, is.room) in
    (last_known values trail (used - 1) d (subst (AreSet values trail) e is) low, set_fewer values trail (used - 1) d (subst (AreSet values trail) e is) low)

-- where no letter is on the trail, none has a value
unset_again : (v : Truth) → ¬ (¬ (v ≡ Unset)) → v ≡ Unset
unset_again Unset never = refl
unset_again True never = absurd (never (λ e. cc))
unset_again False never = absurd (never (λ e. cc))

all_unset : (values : List Truth) → ((x : ℕ) → x < length values → get_or values x Unset ≡ Unset) → values ≡ replicate (length values) Unset
all_unset [] each = refl
all_unset (v ∷ values) each =
    ap (λ w. w ∷ values) (each 0 (omega arith)) ∙ ap (λ ws. Unset ∷ ws) (all_unset values (λ x low. each (suc x) (omega (arith, low))))

pub cleared : (values : List Truth) (trail : List ℕ) → AreSet values trail 0 → values ≡ replicate (length values) Unset
cleared values trail is = all_unset values (λ x low. unset_again (get_or values x Unset) (λ has. none x (is.there x low has)))
  where
    none : (x : ℕ) → Contains (take 0 trail) x → ⊥
    none x c = omega (arith, c.1)
