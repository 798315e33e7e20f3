-- The first answer of a report that says that there is no trace.
use Rattle.std.specs.Prelude.{◌≡◌, ◌<◌, ℕ, List, slice_get, Contains, Some, ⊤}
use Rattle.std.specs.Global.{Box}
use Rattle.requirement_questions.specs.declared.members.Member.{Member}
use Rattle.requirement_questions.specs.declared.leaving.Because.{Because}
use Rattle.requirement_questions.specs.declared.answering.QuestionAnswer.{QuestionAnswer}
use Rattle.requirement_questions.specs.declared.answering.QuestionAnswer.TheVariants as answers
use Rattle.requirement_questions.specs.Members.{places}
use Rattle.requirement_answers.specs.declared.asking.Asking.{Asking}
use Rattle.requirement_answers.specs.declared.asking.Asking.TheVariants as askings
use Rattle.requirement_answers.specs.declared.asking.Reply.{Reply}
use Rattle.requirement_answers.specs.declared.findings.Report.{Report}
use Rattle.requirement_answers.specs.declared.findings.Scope.{Scope}
use Rattle.requirement_answers.specs.declared.findings.Scope.TheVariants as scopes

-- a conflict is about each of its members, and about no behaviour
abbrev pub IsAbout : Scope → List Member → Type 0
IsAbout scopes.All members = ⊤
IsAbout (scopes.Item n) members = Contains (places members) n
IsAbout (scopes.Behaviour n) members = ⊥

-- the conflict at this place is about what the scope names, and none before it is
pub record IsFirstConflict (r : Report) (scope : Scope) (b : Because) : Type 0 where
  pub place : ℕ
  pub conflict : Box Because
  pub there : slice_get r.conflicts.items place ≡ Some conflict
  pub same : conflict.value ≡ b
  pub about : IsAbout scope b.members.items
  pub first : (j : ℕ) (c : Box Because) → j < place → slice_get r.conflicts.items j ≡ Some c → ¬ IsAbout scope c.value.members.items

abbrev pub HasNoConflict : Report → Scope → Type 0
HasNoConflict r scope = (j : ℕ) (c : Box Because) → slice_get r.conflicts.items j ≡ Some c → ¬ IsAbout scope c.value.members.items

-- the answer says that there is no trace, because of this
abbrev pub IsCannot : QuestionAnswer → Because → Type 0
IsCannot (answers.Can t) b = ⊥
IsCannot (answers.Cannot c) b = c.value ≡ b
IsCannot answers.Undecided b = ⊥
IsCannot (answers.TooLarge size) b = ⊥

-- it does not say so
abbrev pub IsOther : QuestionAnswer → Type 0
IsOther (answers.Can t) = ⊤
IsOther (answers.Cannot c) = ⊥
IsOther answers.Undecided = ⊤
IsOther (answers.TooLarge size) = ⊤

-- the answer at this place, to this question, says so, and none before it does
pub record IsFirstReply (r : Report) (asking : Asking) (b : Because) : Type 0 where
  pub place : ℕ
  pub reply : Reply
  pub there : slice_get r.replies.items place ≡ Some reply
  pub question : reply.asking ≡ asking
  pub cannot : IsCannot reply.answer b
  pub first : (j : ℕ) (p : Reply) → j < place → slice_get r.replies.items j ≡ Some p → IsOther p.answer

abbrev pub HasNoReply : Report → Type 0
HasNoReply r = (j : ℕ) (p : Reply) → slice_get r.replies.items j ≡ Some p → IsOther p.answer

-- the first answer that says so, and the question: conflicts come first, and then the further questions in their order
pub data IsFirstBecause (r : Report) (scope : Scope) : Asking → Because → Type 0 where
  of_conflict : (b : Because) → IsFirstConflict r scope b → IsFirstBecause r scope askings.Together b
  of_reply : (asking : Asking) (b : Because) → HasNoConflict r scope → IsFirstReply r asking b → IsFirstBecause r scope asking b

-- no answer says so
abbrev pub HasNoBecause : Report → Scope → Type 0
HasNoBecause r scope = HasNoConflict r scope × HasNoReply r
