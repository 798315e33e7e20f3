-- What an addition keeps of a log, and what follows from a log's inputs.
use Rattle.std.proofs.Common.{◌≡◌, ℕ, zero, suc, Bool, true, ◌≤◌, add-one, inl, inr, List, [], ◌∷◌, ◌++◌, length, take, get_or, ◌∙◌, subst, arith}
use Rattle.std.proofs.Common.{length-append}
use Rattle.std.proofs.lemmas.Bool.{cases_lt}
use Rattle.std.proofs.lemmas.List.{append-nil, take-append-le, take_at, get_or_append_left, get_or_at, length_push, take_all}
use Rattle.std.proofs.lemmas.List.Elements.{All-more, All-nil}
use Rattle.cnf_base.specs.declared.literal.Literal.{Literal}
use Rattle.cnf_base.specs.declared.literal.Hint.{Hint}
use Rattle.cnf_base.specs.Step.{IsHintedStep}
use Rattle.cnf_base.specs.Meaning.{clause_value, Satisfies}
use Rattle.cnf_base.proofs.Soundness.{hinted_step_follows}
use Rattle.cnf_base.proofs.MoreClauses.{step_more}
use Rattle.clause_log.specs.LogValue.{LogValue, IsLog, greatest_u32, with_input, with_line}

pub log_with_input : (log : LogValue) (clause : List Literal) → IsLog log → IsLog (with_input log clause)
log_with_input log clause is = record {
  paired = is.paired;
  steps = λ k below. subst (λ ls. IsHintedStep (log.inputs ++ clause ∷ []) ls greatest_u32 (get_or log.lines k []) (get_or log.hints k []))
      (append-nil (take k log.lines))
      (step_more log.inputs (clause ∷ []) (take k log.lines) [] greatest_u32 _ _ (is.steps k below));
}

pub log_with_line : (log : LogValue) (clause : List Literal) (why : List Hint) → IsLog log → IsHintedStep log.inputs log.lines greatest_u32 clause why
    → IsLog (with_line log clause why)
log_with_line log clause why is step = record {
  paired = simp length-append (omega (arith, is.paired));
  steps = λ k below. elim (cases_lt k (length log.lines)) [
    | inl old ↦
        rw (
          take-append-le k log.lines (clause ∷ []) (omega arith),
          get_or_append_left log.lines (clause ∷ []) [] k old,
          get_or_append_left log.hints (why ∷ []) [] k (omega (arith, is.paired)),
        ) (is.steps k old)
    | inr high ↦
        let last : length log.lines ≡ k = omega (arith, length_push log.lines clause) in
        rw (take_at log.lines (clause ∷ []) k last, get_or_at log.lines clause [] [] k last, get_or_at log.hints why [] [] k (is.paired ∙ last)) step
  ];
}

-- the first k lines hold, by induction on k
first_lines_follow : (log : LogValue) → IsLog log → (v : ℕ → Bool) → Satisfies v log.inputs → (k : ℕ) → k ≤ length log.lines → Satisfies v (take k log.lines)
first_lines_follow log is v holds zero within = All-nil (λ clause. clause_value v clause ≡ true)
first_lines_follow log is v holds (suc k) within =
    let before = first_lines_follow log is v holds k (omega arith) in
    let here = hinted_step_follows v log.inputs (take k log.lines) greatest_u32 _ _ holds before (is.steps k (omega arith)) in
    rw (← add-one k) (All-more (λ clause. clause_value v clause ≡ true) log.lines k [] (omega arith) before here)

pub lines_follow : (log : LogValue) → IsLog log → (v : ℕ → Bool) → Satisfies v log.inputs → Satisfies v log.lines
lines_follow log is v holds =
    subst (Satisfies v) (take_all (length log.lines) log.lines (omega arith)) (first_lines_follow log is v holds (length log.lines) (omega arith))
