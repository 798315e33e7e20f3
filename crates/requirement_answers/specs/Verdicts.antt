-- What a report comes to.
use Rattle.std.specs.Prelude.{Bool, true, false, ◌||◌, List, [], ◌∷◌, if◌then◌else◌}
use Rattle.std.specs.List.{list_any}
use Rattle.requirement_questions.specs.declared.answering.QuestionAnswer.{QuestionAnswer}
use Rattle.requirement_questions.specs.declared.answering.QuestionAnswer.TheVariants as answers
use Rattle.requirement_answers.specs.declared.asking.Asking.{Asking}
use Rattle.requirement_answers.specs.declared.asking.Asking.TheVariants as askings
use Rattle.requirement_answers.specs.declared.asking.Reply.{Reply}
use Rattle.requirement_answers.specs.declared.findings.Check.{Check}
use Rattle.requirement_answers.specs.declared.findings.Report.{Report}
use Rattle.requirement_answers.specs.declared.judging.ReportVerdict.{ReportVerdict}
use Rattle.requirement_answers.specs.declared.judging.ReportVerdict.TheVariants as verdicts

abbrev pub are_some : {X : Type 0} → List X → Bool
are_some [] = false
are_some (x ∷ xs) = true

abbrev pub is_can : QuestionAnswer → Bool
is_can (answers.Can t) = true
is_can (answers.Cannot b) = false
is_can answers.Undecided = false
is_can (answers.TooLarge size) = false

abbrev pub is_cannot : QuestionAnswer → Bool
is_cannot (answers.Can t) = false
is_cannot (answers.Cannot b) = true
is_cannot answers.Undecided = false
is_cannot (answers.TooLarge size) = false

abbrev pub is_undecided : QuestionAnswer → Bool
is_undecided (answers.Can t) = false
is_undecided (answers.Cannot b) = false
is_undecided answers.Undecided = true
is_undecided (answers.TooLarge size) = true

-- what is to stay possible is not, or what is to follow does not. Never triggered and nothing new are remarks
abbrev pub is_wrong : Asking → QuestionAnswer → Bool
is_wrong askings.Together a = false
is_wrong (askings.Triggered n) a = false
is_wrong (askings.New n) a = false
is_wrong (askings.Possible n) a = is_cannot a
is_wrong (askings.Follows n) a = is_can a

abbrev pub wrong_reply : Reply → Bool
wrong_reply r = is_wrong r.asking r.answer

abbrev pub open_reply : Reply → Bool
open_reply r = is_undecided r.answer

abbrev pub has_break : Check → Bool
has_break c = are_some c.breaks.items

-- a conflict, an answer that is not as wished, or a behaviour that breaks an item
abbrev pub has_wrong : Report → Bool
has_wrong r = are_some r.conflicts.items || (list_any wrong_reply r.replies.items || list_any has_break r.checks.items)

abbrev pub has_open : Report → Bool
has_open r = is_undecided r.together || list_any open_reply r.replies.items

abbrev pub verdict : Report → ReportVerdict
verdict r = if has_wrong r then verdicts.NotAsWished else (if has_open r then verdicts.Undecided else verdicts.AsWished)
