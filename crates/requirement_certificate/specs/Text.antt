-- The text of an answer that says that there is no trace: its formula, a separator line, and its certificate.
use Rattle.std.specs.Prelude.{◌<◌, ◌++◌, ℕ, List, length, codes, All, ⊤}
use Rattle.ltl_syntax.specs.Table.{tree_at}
use Rattle.ltl_syntax.specs.Print as print
use Rattle.claim_check.specs.Data.{certificate_in}
use Rattle.claim_text.specs.Text as claims
use Rattle.requirement_questions.specs.declared.leaving.Because.{Because}
use Rattle.requirement_questions.specs.declared.answering.QuestionAnswer.{QuestionAnswer}
use Rattle.requirement_questions.specs.declared.answering.QuestionAnswer.TheVariants as answers
use Rattle.requirement_answers.specs.declared.findings.Report.{Report}

-- the text of the formula that says that the members hold, and what is asked
abbrev pub formula_text : Because → List ℕ
formula_text b = print.text_of (tree_at b.table b.root)

-- the text of the certificate that no trace satisfies it
abbrev pub claims_text : Because → List ℕ
claims_text b = claims.text_of (certificate_in b.certificate)

-- both, with a separator line between
abbrev pub certificate_text : Because → List ℕ
certificate_text b = formula_text b ++ codes "\n---\n" ++ claims_text b

-- the formula is one of the table
abbrev pub HasFormula : Because → Type 0
HasFormula b = b.root < length b.table.nodes

abbrev pub AnswerHasFormula : QuestionAnswer → Type 0
AnswerHasFormula (answers.Can t) = ⊤
AnswerHasFormula (answers.Cannot b) = HasFormula b.value
AnswerHasFormula answers.Undecided = ⊤
AnswerHasFormula (answers.TooLarge size) = ⊤

-- so it is for each answer of a report that says that there is no trace
pub record HaveFormulas (r : Report) : Type 0 where
  pub conflicts : All (λ b. HasFormula b.value) r.conflicts.items
  pub replies : All (λ p. AnswerHasFormula p.answer) r.replies.items
