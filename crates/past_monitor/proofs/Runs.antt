-- The answers of a monitor that takes one state after the other.
use Rattle.std.proofs.Common.{◌≡◌, ℕ, zero, suc, ◌+◌, ◌-◌, ◌<◌, ◌↔◌, Bool, false, List, [], ◌∷◌, ◌++◌, length, length-append, take, slice_index_or, IsTrue}
use Rattle.std.proofs.Common.{refl, subst, ap, arith}
use Rattle.std.proofs.lemmas.List.{append_assoc}
use Rattle.ltl_syntax.specs.Formula.{Formula}
use Rattle.ltl_word.specs.declared.trace.Trace.TheVariants.{Finite}
use Rattle.ltl_word.specs.Trace.{Names}
use Rattle.ltl_word.specs.Holds.{Holds}
use Rattle.past_monitor.specs.Monitor.{MonitorValue, formula_at, formula_of, StandsFor}
use Rattle.past_monitor.specs.Laws.{IsRun}

-- after the states t
pub run_right : (states : List Names) (answers : List Bool) (m : MonitorValue) (t : List Names) → StandsFor m t → IsRun m states answers
    → (length answers ≡ length states)
    × ((k : ℕ) → k < length states → IsTrue (slice_index_or answers k false) ↔ Holds (Finite (t ++ take (suc k) states)) (formula_of m) (length t + k))
run_right [] [] m t stands run = (refl, λ k lt. absurd (omega arith))
run_right [] (a ∷ answers) m t stands run = absurd run
run_right (s ∷ states) [] m t stands run = absurd run
run_right (s ∷ states) (a ∷ answers) m t stands run =
    let step = run.1 in
    let rest = run_right states answers run.0 (t ++ s ∷ []) (step.stands t stands) run.2 in (
      omega (arith, rest.0),
      λ k lt. at k lt rest.1,
    )
  where
    at : (k : ℕ) → k < suc (length states)
        → ((j : ℕ) → j < length states → IsTrue (slice_index_or answers j false)
        ↔ Holds (Finite ((t ++ s ∷ []) ++ take (suc j) states)) (formula_of run.0) (length (t ++ s ∷ []) + j))
        → IsTrue (slice_index_or (a ∷ answers) k false) ↔ Holds (Finite (t ++ take (suc k) (s ∷ states))) (formula_of m) (length t + k)
    at zero lt later = let e : length t ≡ length t + 0 = omega arith in
        subst (λ i. IsTrue a ↔ Holds (Finite (t ++ s ∷ [])) (formula_of m) i) e (run.1.right t stands)
    at (suc j) lt later =
        let e : length (t ++ s ∷ []) + j ≡ length t + suc j = omega (arith, length-append t (s ∷ [])) in
        let joined : (t ++ s ∷ []) ++ take (suc j) states ≡ t ++ s ∷ take (suc j) states = append_assoc t (s ∷ []) (take (suc j) states) in
        subst (λ i. IsTrue (slice_index_or answers j false) ↔ Holds (Finite (t ++ s ∷ take (suc j) states)) (formula_of m) i) e
        (subst (λ (ts : List Names). IsTrue (slice_index_or answers j false) ↔ Holds (Finite ts) (formula_of m) (length (t ++ s ∷ []) + j)) joined
        (subst (λ (f : Formula). IsTrue (slice_index_or answers j false) ↔ Holds (Finite ((t ++ s ∷ []) ++ take (suc j) states)) f (length (t ++ s ∷ []) + j))
        (ap (λ fs. formula_at fs (length fs - 1)) run.1.formulas) (later j (omega arith))))
