-- What holds of each place of a list holds of each place after a push.
use Rattle.std.proofs.Common.{◌≡◌, ℕ, ◌+◌, ◌<◌, List, [], ◌∷◌, ◌++◌, length, length-append, get_or, inl, inr, sym, ◌∙◌, subst, arith}
use Rattle.std.proofs.Math.ListN.{get_or-append}
use Rattle.std.proofs.Math.Seq.{get_or-append_seam}
use Rattle.std.proofs.lemmas.Bool.{cases_lt}

pub each_pushed : {X : Type 0} (d : X) (xs : List X) (v : X) (n : ℕ) (P : ℕ → X → Type 0) → length xs ≡ n → ((k : ℕ) → k < n → P k (get_or xs k d)) → P n v
    → (k : ℕ) → k < n + 1 → P k (get_or (xs ++ v ∷ []) k d)
each_pushed d xs v n P e all last k h = elim (cases_lt k n) [
  | inl lt ↦ subst (λ x. P k x) (sym (get_or-append xs (v ∷ []) d k (omega (arith, e)))) (all k lt)
  | inr ge ↦
      let at : k ≡ n = omega arith in
      let seam : get_or (xs ++ v ∷ []) k d ≡ v = subst (λ m. get_or (xs ++ v ∷ []) m d ≡ v) (e ∙ sym at) (get_or-append_seam xs v [] d) in
      subst (λ x. P k x) (sym seam) (subst (λ m. P m v) (sym at) last)
]

pub length_pushed : {X : Type 0} (xs : List X) (v : X) (n : ℕ) → length xs ≡ n → length (xs ++ v ∷ []) ≡ n + 1
length_pushed xs v n e = omega (arith, length-append xs (v ∷ []), e)
