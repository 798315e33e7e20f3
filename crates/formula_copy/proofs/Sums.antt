-- Sums of weights, where the weight of one number changes, and of the sizes of the nodes under a root.
use Rattle.std.proofs.Common.{◌≡◌, ◌≢◌, ℕ, zero, suc, ◌+◌, ◌<◌, ◌≤◌, ◌⊎◌, ◌↔◌, ◌||◌, ◌==◌, inl, inr, arith, ap, ap₂, refl, sym, ◌∙◌, cond, eq-eqb}
use Rattle.std.proofs.Common.{IsTrue, List, [], ◌∷◌, length, Contains}
use Rattle.std.specs.List.{list_any, sum_by}
use Rattle.std.proofs.lemmas.Bool.{cases_lt, cases_Bool}
use Rattle.std.proofs.lemmas.List.{get_or_read}
use Rattle.std.proofs.lemmas.List.Sums.{sum_by-cons}
use Rattle.ltl_syntax.specs.Size.{formula_size}
use Rattle.ltl_syntax.specs.Table.{Table, tree_at, IsTable}
use Rattle.ltl_syntax.specs.Flat.{order_at}
use Rattle.ltl_syntax.specs.Cutting.{AreDistinct}
use Rattle.ltl_syntax.specs.Under.{IsUnder, size_at}
use Rattle.ltl_syntax.proofs.Members.{Contains-here, Contains-there}
use Rattle.ltl_syntax.proofs.Distinct.{order_low, order_distinct, among_from, among_to, one_test}
use Rattle.ltl_syntax.proofs.Under.{order_under, under_order, order_size}
use Rattle.formula_copy.specs.Part.{Marks, sum_below, marked_size}
use Rattle.formula_copy.proofs.Pushed.{unequal}

pub equal_or_not : (m n : ℕ) → (m ≡ n) ⊎ (m ≢ n)
equal_or_not m n = elim (cases_lt m n) [
  | inl lt ↦ inr (λ e. omega arith)
  | inr le ↦ elim (cases_lt n m) [ inl gt ↦ inr (λ e. omega arith) | inr ge ↦ inl (omega arith) ]
]

-- the same weights have the same sum
pub same_sum : (w v : ℕ → ℕ) (k : ℕ) → ((n : ℕ) → n < k → v n ≡ w n) → sum_below v k ≡ sum_below w k
same_sum w v zero e = refl
same_sum w v (suc k) e = ap₂ (λ m n. m + n) (same_sum w v k (λ n lt. e n (omega arith))) (e k (omega arith))

-- one weight more in place of another
pub one_changes : (w v : ℕ → ℕ) (j k : ℕ) → j < k → ((n : ℕ) → n ≢ j → v n ≡ w n) → sum_below v k + w j ≡ sum_below w k + v j
one_changes w v j zero lt e = absurd (omega arith)
one_changes w v j (suc k) lt e = elim (equal_or_not k j) [
  | inl same ↦
      let before : sum_below v k ≡ sum_below w k = same_sum w v k (λ n low. e n (λ s. omega arith)) in
      let a : v k ≡ v j = ap v same in
      let b : w k ≡ w j = ap w same in
      omega (arith, before, a, b)
  | inr other ↦ omega (arith, one_changes w v j k (omega arith) e, e k other)
]

-- a part of the sum is no more than the whole
pub sum_grows : (w : ℕ → ℕ) (j k : ℕ) → j ≤ k → sum_below w j ≤ sum_below w k
sum_grows w j zero le = let none : j ≡ 0 = omega arith in let e : sum_below w j ≡ sum_below w 0 = ap (sum_below w) none in omega (arith, e)
sum_grows w j (suc k) le = elim (equal_or_not j (suc k)) [
  | inl same ↦ let e : sum_below w j ≡ sum_below w (suc k) = ap (sum_below w) same in omega (arith, e)
  | inr other ↦ omega (arith, sum_grows w j k (omega arith))
]

-- ---- the sizes of the nodes under a root

none_below : (k : ℕ) → sum_below (λ n. 0) k ≡ 0
none_below zero = refl
none_below (suc k) = omega (arith, none_below k)

-- the weight of a number where it is in a list
abbrev listed : (ℕ → ℕ) → List ℕ → ℕ → ℕ
listed w xs n = cond (list_any (λ m. m == n) xs) (w n) 0

module _ (t : Table) (is : IsTable t.nodes t.names) where
  -- the numbers of a list, of which none comes twice
  listed_sum : (w : ℕ → ℕ) (xs : List ℕ) (k : ℕ) → AreDistinct xs → ((x : ℕ) → Contains xs x → x < k) → sum_below (listed w xs) k ≡ sum_by w xs
  listed_sum w [] k distinct low = none_below k
  listed_sum w (x ∷ xs) k distinct low =
      let rest = listed_sum w xs k (λ i j lt within. distinct (suc i) (suc j) (omega arith) (omega arith)) (λ y c. low y (Contains-there x xs y c)) in
      let change = one_changes (listed w xs) (listed w (x ∷ xs)) x k (low x (Contains-here x xs)) (λ n ne. other n (λ e. ne (sym e))) in
      omega (arith, change, rest, sum_by-cons w x xs, was, now)
    where
      other : (n : ℕ) → (x ≡ n → ⊥) → listed w (x ∷ xs) n ≡ listed w xs n
      other n ne = ap (λ b. cond (b || list_any (λ m. m == n) xs) (w n) 0) (unequal x n ne)

      now : listed w (x ∷ xs) x ≡ w x
      now = ap (λ b. cond (b || list_any (λ m. m == x) xs) (w x) 0) (eq-eqb x x refl)

      was : listed w xs x ≡ 0
      was = elim (cases_Bool (list_any (λ m. m == x) xs)) [
        | inl yes' ↦
            let c = among_to t is x xs yes' in
            absurd (distinct zero (suc c.0) (omega arith) (omega (arith, c.1)) (get_or_read xs c.0 x c.1 (sym c.2) 0))
        | inr no' ↦ ap (λ b. cond b (w x) 0) no'
      ]

  -- the marked nodes under a root
  pub size_under : (root : ℕ) → root < length t.nodes → (M : Marks) → ((n : ℕ) → IsTrue (M n) ↔ IsUnder t root n)
      → sum_below (marked_size t M) (suc root) ≡ formula_size (tree_at t root)
  size_under root there M under =
      same_sum (listed (size_at t) (order_at t root)) (marked_size t M) (suc root) (λ n lt. ap (λ b. cond b (size_at t n) 0) (same n))
      ∙ (listed_sum (size_at t) (order_at t root) (suc root) (order_distinct t is root there)
      (λ x c. let low = order_low t is root there x c in omega arith) ∙ order_size t is root there)
    where
      same : (n : ℕ) → M n ≡ list_any (λ m. m == n) (order_at t root)
      same n = one_test t is (M n) (list_any (λ m. m == n) (order_at t root))
          (λ h. among_from t is n (order_at t root) (under_order t is root there n ((under n).0 h)))
          (λ h. (under n).1 (order_under t is root there n (among_to t is n (order_at t root) h)))
