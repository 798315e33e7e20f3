-- What the faces need of a report: each certificate is one of claims over its formula.
use Rattle.std.specs.Prelude.{◌<◌, length, All, ⊤}
use Rattle.ltl_syntax.specs.declared.node.Kind.{Kind}
use Rattle.ltl_syntax.specs.Table.{tree_at}
use Rattle.claims.specs.Lawful.{IsLawful}
use Rattle.claim_check.specs.Data.{certificate_in}
use Rattle.claim_reading.specs.Never.{AreOfEntries}
use Rattle.requirement_questions.specs.declared.leaving.Because.{Because}
use Rattle.requirement_questions.specs.declared.answering.QuestionAnswer.{QuestionAnswer}
use Rattle.requirement_questions.specs.declared.answering.QuestionAnswer.TheVariants as answers
use Rattle.requirement_document.specs.Values.{DocumentValue}
use Rattle.requirement_answers.specs.declared.findings.Report.{Report}
use Rattle.requirement_answers.specs.declared.findings.Scope.{Scope}
use Rattle.requirement_answers.specs.Reports.{IsReport}

pub record CanBeShown (b : Because) : Type 0 where
  pub there : b.root < length b.table.nodes
  pub entries : AreOfEntries (tree_at b.table b.root) (certificate_in b.certificate)

abbrev pub AnswerCanBeShown : QuestionAnswer → Type 0
AnswerCanBeShown (answers.Can t) = ⊤
AnswerCanBeShown (answers.Cannot b) = CanBeShown b.value
AnswerCanBeShown answers.Undecided = ⊤
AnswerCanBeShown (answers.TooLarge size) = ⊤

pub record ReportCanBeShown (r : Report) : Type 0 where
  pub conflicts : All (λ b. CanBeShown b.value) r.conflicts.items
  pub together : AnswerCanBeShown r.together
  pub replies : All (λ p. AnswerCanBeShown p.answer) r.replies.items

-- what is shown by a lawful certificate can be shown
abbrev pub LawfulCanBeShown : Type 0
LawfulCanBeShown = (b : Because) (kind : Kind)
    → b.root < length b.table.nodes → IsLawful (tree_at b.table b.root) kind (certificate_in b.certificate) → CanBeShown b

-- whatever a right report says can be shown
abbrev pub ReportsCanBeShown : Type 0
ReportsCanBeShown = (d : DocumentValue) (scope : Scope) (r : Report) → IsReport d scope r → ReportCanBeShown r
