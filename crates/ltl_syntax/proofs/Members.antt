-- Members of lists.
use Rattle.std.proofs.Common.{◌≡◌, zero, suc, ◌⊎◌, inl, inr, arith, refl, List, [], ◌∷◌, Contains}

pub Contains-nil : {X : Type 0} (x : X) → Contains [] x → ⊥
Contains-nil x (k, lt, e) = omega arith

pub Contains-cons_cases : {X : Type 0} (y : X) (ys : List X) (x : X) → Contains (y ∷ ys) x → (y ≡ x) ⊎ Contains ys x
Contains-cons_cases y ys x (zero, lt, e) = inl e
Contains-cons_cases y ys x (suc k, lt, e) = inr (k, omega arith, e)

pub Contains-here : {X : Type 0} (x : X) (ys : List X) → Contains (x ∷ ys) x
Contains-here x ys = (zero, omega arith, refl)

pub Contains-there : {X : Type 0} (y : X) (ys : List X) (x : X) → Contains ys x → Contains (y ∷ ys) x
Contains-there y ys x (k, lt, e) = (suc k, omega arith, e)
