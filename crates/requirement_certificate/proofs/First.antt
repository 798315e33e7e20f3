-- The first of a list for which something holds, and what is said of it.
use Rattle.std.proofs.Common.{◌≡◌, ℕ, zero, suc, ◌+◌, ◌<◌, ◌⊎◌, inl, inr, List, slice_get, Option, Some, None, All, refl, ap, subst, arith, MatchOption}
use Rattle.std.proofs.lemmas.List.Elements.{All-get_or}
use Rattle.std.proofs.lemmas.Option.{slice_get_within, get_or_from_slice_get}
use Rattle.requirement_questions.specs.declared.leaving.Because.{Because}
use Rattle.requirement_questions.specs.declared.answering.QuestionAnswer.{QuestionAnswer}
use Rattle.requirement_questions.specs.declared.answering.QuestionAnswer.TheVariants as answers
use Rattle.requirement_answers.specs.declared.asking.Asking.{Asking}
use Rattle.requirement_answers.specs.declared.findings.Report.{Report}
use Rattle.requirement_answers.specs.declared.findings.Scope.{Scope}
use Rattle.requirement_certificate.specs.Chosen.{HasNoConflict, IsFirstConflict, IsCannot, IsOther, IsFirstReply, HasNoReply, IsFirstBecause, of_reply}
use Rattle.requirement_certificate.specs.Chosen.{HasNoBecause}
use Rattle.requirement_certificate.specs.Text.{HasFormula, AnswerHasFormula, HaveFormulas}

-- what holds of each holds of the one at a place
pub one_of : {X : Type 0} (P : X → Type 0) (xs : List X) (k : ℕ) (x : X) → All P xs → slice_get xs k ≡ Some x → P x
one_of P xs k x all e = subst P (get_or_from_slice_get xs k x x e) (All-get_or P xs k x (slice_get_within xs k x e) all)

before_or_at : (j k : ℕ) → j < k + 1 → (j < k) ⊎ (j ≡ k)
before_or_at zero zero lt = inr refl
before_or_at zero (suc k) lt = inl (omega arith)
before_or_at (suc j) zero lt = absurd (omega (arith, lt))
before_or_at (suc j) (suc k) lt = elim (before_or_at j k (omega (arith, lt))) [
  | inl h ↦ inl (omega (arith, h))
  | inr h ↦ inr (ap suc h)
]

-- what holds of those before a place, and of the one at it, holds of those before the next place
pub before_more : {X : Type 0} (P : X → Type 0) (xs : List X) (k : ℕ) (x : X) → slice_get xs k ≡ Some x → P x
    → ((j : ℕ) (y : X) → j < k → slice_get xs j ≡ Some y → P y)
    → (j : ℕ) (y : X) → j < k + 1 → slice_get xs j ≡ Some y → P y
before_more P xs k x there holds before j y lt e = elim (before_or_at j k lt) [
  | inl h ↦ before j y h e
  | inr h ↦ let same : x ≡ y = cc in subst P same holds
]

-- an answer that is no `cannot` says something else
pub other_than : (a : QuestionAnswer) → ((b : _) → a ≡ answers.Cannot b → ⊥) → IsOther a
other_than (answers.Cannot b) not = absurd (not b refl)
other_than other not = tt

module _ (r : Report) where
  -- an answer without a conflict is that of a reply, or there is none
  pub by_replies : {A : Type 0} (scope : Scope) (now : A → Because) (o : Option A) → HasNoConflict r scope
      → MatchOption o (HasNoReply r) (λ b. (asking : Asking) × IsFirstReply r asking (now b))
      → MatchOption o (HasNoBecause r scope) (λ b. (asking : Asking) × IsFirstBecause r scope asking (now b))
  by_replies scope now None none h = (none, h)
  by_replies scope now (Some b) none (asking, h) = (asking, of_reply asking (now b) none h)

  -- the first conflict has its formula, and so has the first reply
  pub conflict_has : (scope : Scope) (b : Because) → HaveFormulas r → IsFirstConflict r scope b → HasFormula b
  conflict_has scope b have h = subst HasFormula h.same (one_of (λ c. HasFormula c.value) r.conflicts.items h.place h.conflict have.conflicts h.there)

  answer_formula : (a : QuestionAnswer) (b : Because) → AnswerHasFormula a → IsCannot a b → HasFormula b
  answer_formula (answers.Cannot c) b has cannot = subst HasFormula cannot has
  answer_formula other b has cannot = absurd cannot

  pub replies_have : {A : Type 0} (now : A → Because) (o : Option A) → HaveFormulas r
      → MatchOption o (HasNoReply r) (λ b. (asking : Asking) × IsFirstReply r asking (now b)) → MatchOption o (Unit {0}) (λ b. HasFormula (now b))
  replies_have now None have h = tt
  replies_have now (Some b) have (asking, h) =
      answer_formula h.reply.answer (now b) (one_of (λ p. AnswerHasFormula p.answer) r.replies.items h.place h.reply have.replies h.there) h.cannot
