-- The plans of a request several times over and of a range, laid on the stack from their end.
use Rattle.std.proofs.Common.{◌≡◌, ℕ, zero, suc, ◌-◌, ◌<◌, Bool, List, [], ◌∷◌, ◌++◌, reverse, refl, sym, ◌∙◌, ap, arith, append_assoc}
use Rattle.std.proofs.lemmas.List.{reverse-append}
use Rattle.ltl_closure.specs.Plan.{times_plan, window_plan}
use Rattle.ltl_closure.specs.declared.key.Request.{Request}
use Rattle.ltl_closure.specs.declared.key.Connective.{Connective}
use Rattle.ltl_closure.specs.declared.plan.Work.{Work}
use Rattle.ltl_closure.specs.declared.plan.Work.TheVariants as works

top : (ws : List Work) (w : Work) → reverse (ws ++ w ∷ []) ≡ w ∷ reverse ws
top ws w = reverse-append ws (w ∷ [])

-- one request, and below it the rest
pub times_laid : (r : Request) (s : Bool) (x n : ℕ) (old asked new : List Work)
    → 0 < n → asked ≡ old ++ works.Ask r ∷ [] → reverse new ≡ times_plan r s x (n - 1) ++ reverse asked → reverse new ≡ times_plan r s x n ++ reverse old
times_laid r s x zero old asked new h e f = absurd (omega arith)
times_laid r s x (suc n) old asked new h e f =
    let one : suc n - 1 ≡ n = omega arith in
    f ∙ rw (one, e, top old (works.Ask r)) (sym (append_assoc (times_plan r s x n) (works.Ask r ∷ []) (reverse old)))

pub window_laid : (c : Connective) (z : Bool) (r : Request) (s : Bool) (x a b : ℕ) (old asked new : List Work)
    → 0 < a → 0 < b → asked ≡ old ++ works.Ask r ∷ [] → reverse new ≡ window_plan c z r s x (a - 1) (b - 1) ++ reverse asked
    → reverse new ≡ window_plan c z r s x a b ++ reverse old
window_laid c z r s x zero b old asked new h k e f = absurd (omega arith)
window_laid c z r s x (suc a) zero old asked new h k e f = absurd (omega arith)
window_laid c z r s x (suc a) (suc b) old asked new h k e f =
    let i : suc a - 1 ≡ a = omega arith in
    let j : suc b - 1 ≡ b = omega arith in
    f ∙ rw (i, j, e, top old (works.Ask r)) (sym (append_assoc (window_plan c z r s x a b) (works.Ask r ∷ []) (reverse old)))

pub first_laid : (c : Connective) (z : Bool) (r : Request) (s : Bool) (x a b : ℕ) (old joined asked rest new : List Work)
    → a ≡ 0 → 0 < b → joined ≡ old ++ works.Join c ∷ [] → asked ≡ joined ++ works.Ask r ∷ []
    → reverse rest ≡ window_plan c z r s x 0 (b - 1) ++ reverse asked
    → new ≡ rest ++ works.Visit x s ∷ [] → reverse new ≡ window_plan c z r s x a b ++ reverse old
first_laid c z r s x (suc a) b old joined asked rest new h k e f g i = absurd (omega arith)
first_laid c z r s x zero zero old joined asked rest new h k e f g i = absurd (omega arith)
first_laid c z r s x zero (suc b) old joined asked rest new h k e f g i =
    let j : suc b - 1 ≡ b = omega arith in
    let plan = window_plan c z r s x zero b in
    let below : reverse rest ≡ window_plan c z r s x zero b ++ (works.Ask r ∷ works.Join c ∷ reverse old) =
    g ∙ rw (j, f, top joined (works.Ask r), e, top old (works.Join c)) refl in
    rw (i, top rest (works.Visit x s), below)
    (ap (λ (l : List Work). works.Visit x s ∷ l) (sym (append_assoc (plan ++ works.Ask r ∷ []) (works.Join c ∷ []) (reverse old)
    ∙ append_assoc plan (works.Ask r ∷ []) (works.Join c ∷ reverse old))))
