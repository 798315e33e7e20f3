-- What is kept of a list, step by step, and where it stands.
use Rattle.std.proofs.Common.{◌≡◌, ℕ, zero, suc, ◌+◌, ◌<◌, ◌≤◌, inl, inr, Bool, true, false, IsTrue, IsFalse, List, ◌∷◌, ◌++◌, length, take, get_or, Some, []}
use Rattle.std.proofs.Common.{slice_get, All, Contains, if◌then◌else◌, refl, sym, ap, subst, ◌∙◌, arith}
use Rattle.std.proofs.Math.Seq.{take-suc, take-length}
use Rattle.std.proofs.lemmas.Bool.{cases_lt}
use Rattle.std.proofs.lemmas.List.{append-nil, length-take-le}
use Rattle.std.proofs.lemmas.List.Elements.{All-nil, All-cons, All-head, All-tail}
use Rattle.cnf_base.proofs.MoreClauses.{slice_get_append}
use Rattle.log_trim.specs.Kept.{Marks, kept_from, kept}

pub kept_from-append : {X : Type 0} (M : Marks) (n : ℕ) (xs ys : List X) → kept_from M n (xs ++ ys) ≡ kept_from M n xs ++ kept_from M (n + length xs) ys
kept_from-append M n [] ys = let e : n ≡ n + 0 = omega arith in ap (λ m. kept_from M m ys) e
kept_from-append M n (x ∷ xs) ys = go (M n) (kept_from-append M (suc n) xs ys)
  where
    moves : suc n + length xs ≡ n + suc (length xs)
    moves = omega arith

    go : (b : Bool) → kept_from M (suc n) (xs ++ ys) ≡ kept_from M (suc n) xs ++ kept_from M (suc n + length xs) ys
        → (if b then x ∷ kept_from M (suc n) (xs ++ ys) else kept_from M (suc n) (xs ++ ys))
        ≡ (if b then x ∷ kept_from M (suc n) xs else kept_from M (suc n) xs) ++ kept_from M (n + suc (length xs)) ys
    go true e = ap (λ l. x ∷ l) (e ∙ ap (λ m. kept_from M (suc n) xs ++ kept_from M m ys) moves)
    go false e = e ∙ ap (λ m. kept_from M (suc n) xs ++ kept_from M m ys) moves

module _ {X : Type 0} (M : Marks) (xs : List X) where
  more : (k : ℕ) (d : X) → k < length xs → kept M (take (suc k) xs) ≡ kept M (take k xs) ++ kept_from M (suc k) (get_or xs k d ∷ [])
  more k d lt =
      let number : 1 + length (take k xs) ≡ suc k = omega (arith, length-take-le k xs (omega arith)) in
      ap (kept M) (take-suc xs k d lt) ∙ kept_from-append M 1 (take k xs) (get_or xs k d ∷ [])
      ∙ ap (λ m. kept M (take k xs) ++ kept_from M m (get_or xs k d ∷ [])) number

  pub kept_yes : (k : ℕ) (d : X) → k < length xs → IsTrue (M (suc k)) → kept M (take (suc k) xs) ≡ kept M (take k xs) ++ get_or xs k d ∷ []
  kept_yes k d lt marked = more k d lt ∙ ap (λ (b : Bool). kept M (take k xs) ++ (if b then get_or xs k d ∷ [] else [])) marked

  pub kept_no : (k : ℕ) (d : X) → k < length xs → IsFalse (M (suc k)) → kept M (take (suc k) xs) ≡ kept M (take k xs)
  kept_no k d lt unmarked =
      more k d lt ∙ ap (λ (b : Bool). kept M (take k xs) ++ (if b then get_or xs k d ∷ [] else [])) unmarked ∙ append-nil (kept M (take k xs))

  pub kept_all : kept M (take (length xs) xs) ≡ kept M xs
  kept_all = ap (kept M) (take-length xs)

  -- the member after the others of a list
  seam : (ys : List X) (x : X) → slice_get (ys ++ x ∷ []) (length ys) ≡ Some x
  seam [] x = refl
  seam (y ∷ ys) x = seam ys x

  -- a marked member stands behind the marked ones before it
  pub kept_at : (k j : ℕ) (d : X) → IsTrue (M (suc j)) → j < k → k ≤ length xs
      → slice_get (kept M (take k xs)) (length (kept M (take j xs))) ≡ Some (get_or xs j d)
  kept_at zero j d marked lt le = absurd (omega arith)
  kept_at (suc k) j d marked lt le = elim (cases_lt j k) [
    | inl below ↦ grown (kept_at k j d marked below (omega arith)) (M (suc k)) refl
    | inr at ↦
        let same : k ≡ j = omega arith in
        subst (λ n. slice_get (kept M (take (suc n) xs)) (length (kept M (take j xs))) ≡ Some (get_or xs j d)) (sym same)
        (subst (λ l. slice_get l (length (kept M (take j xs))) ≡ Some (get_or xs j d)) (sym (kept_yes j d (omega arith) marked))
        (seam (kept M (take j xs)) (get_or xs j d)))
  ]
    where
      grown : slice_get (kept M (take k xs)) (length (kept M (take j xs))) ≡ Some (get_or xs j d) → (b : Bool)
          → M (suc k) ≡ b → slice_get (kept M (take (suc k) xs)) (length (kept M (take j xs))) ≡ Some (get_or xs j d)
      grown e true is = subst (λ l. slice_get l (length (kept M (take j xs))) ≡ Some (get_or xs j d)) (sym (kept_yes k d (omega arith) is))
          (slice_get_append (kept M (take k xs)) (get_or xs k d ∷ []) (length (kept M (take j xs))) (get_or xs j d) e)
      grown e false is = subst (λ l. slice_get l (length (kept M (take j xs))) ≡ Some (get_or xs j d)) (sym (kept_no k d (omega arith) is)) e

-- what holds of each member holds of each that is kept
pub All-kept_from : {X : Type 0} (P : X → Type 0) (M : Marks) (n : ℕ) (xs : List X) → All P xs → All P (kept_from M n xs)
All-kept_from P M n [] all = All-nil P
All-kept_from P M n (x ∷ xs) all = go (M n) (All-kept_from P M (suc n) xs (All-tail P x xs all))
  where
    go : (b : Bool) → All P (kept_from M (suc n) xs) → All P (if b then x ∷ kept_from M (suc n) xs else kept_from M (suc n) xs)
    go true rest = All-cons P x (kept_from M (suc n) xs) (All-head P x xs all) rest
    go false rest = rest

pub kept_from_few : {X : Type 0} (M : Marks) (n : ℕ) (xs : List X) → length (kept_from M n xs) ≤ length xs
kept_from_few M n [] = omega arith
kept_from_few M n (x ∷ xs) = go (M n) (kept_from_few M (suc n) xs)
  where
    go : (b : Bool) → length (kept_from M (suc n) xs) ≤ length xs → length (if b then x ∷ kept_from M (suc n) xs else kept_from M (suc n) xs) ≤ suc (length xs)
    go true h = omega arith
    go false h = omega arith

-- what is kept was there
pub contains_kept : {X : Type 0} (M : Marks) (n : ℕ) (xs : List X) (y : X) → Contains (kept_from M n xs) y → Contains xs y
contains_kept M n [] y c = c
contains_kept M n (x ∷ xs) y c = go (M n) (contains_kept M (suc n) xs y) c
  where
    later : Contains xs y → Contains (x ∷ xs) y
    later i = (suc i.0, omega (arith, i.1), i.2)

    go : (b : Bool) → (Contains (kept_from M (suc n) xs) y → Contains xs y) → Contains (if b then x ∷ kept_from M (suc n) xs else kept_from M (suc n) xs) y
        → Contains (x ∷ xs) y
    go true rest (zero, lt, e) = (zero, omega arith, e)
    go true rest (suc k, lt, e) = later (rest (k, omega arith, e))
    go false rest i = later (rest i)
