-- Truth values and the facts that they stand for.
use Rattle.std.proofs.Common.{Bool, true, false, ◌&&◌, ◌||◌, not, IsTrue, ◌⊎◌, inl, inr, ◌↔◌, refl}

pub and_tells : (x y : Bool) {A B : Type 0} → IsTrue x ↔ A → IsTrue y ↔ B → IsTrue (x && y) ↔ (A × B)
and_tells true y p q = (λ e. (p.0 refl, q.0 e), λ w. q.1 w.1)
and_tells false y p q = (λ e. absurd (cc), λ w. p.1 w.0)

pub or_tells : (x y : Bool) {A B : Type 0} → IsTrue x ↔ A → IsTrue y ↔ B → IsTrue (x || y) ↔ (A ⊎ B)
or_tells true y p q = (λ e. inl (p.0 refl), λ w. refl)
or_tells false y p q = (λ e. inr (q.0 e), λ w. elim w [ inl a ↦ let h = p.1 a in absurd (cc) | inr b ↦ q.1 b ])

pub not_tells : (x : Bool) {A : Type 0} → IsTrue x ↔ A → IsTrue (not x) ↔ (A → ⊥)
not_tells true p = (λ e a. absurd (cc), λ f. absurd (f (p.0 refl)))
not_tells false p = (λ e a. let h = p.1 a in absurd (cc), λ f. refl)

pub implies_tells : (x y : Bool) {A B : Type 0} → IsTrue x ↔ A → IsTrue y ↔ B → IsTrue (not x || y) ↔ (A → B)
implies_tells true y p q = (λ e a. q.0 e, λ f. q.1 (f (p.0 refl)))
implies_tells false y p q = (λ e a. let h = p.1 a in absurd (cc), λ f. refl)

-- what has a truth value is decided
pub told_decided : (x : Bool) {A : Type 0} → IsTrue x ↔ A → Dec A
told_decided true p = yes (p.0 refl)
told_decided false p = no (λ a. let h = p.1 a in absurd (cc))
