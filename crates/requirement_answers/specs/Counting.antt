-- How many questions were answered as one may hope.
use Rattle.std.specs.Prelude.{◌≡◌, ℕ, Bool, true, false, not, ◌&&◌, List, length, if◌then◌else◌}
use Rattle.std.specs.List.{count_by}
use Rattle.requirement_questions.specs.declared.answering.QuestionAnswer.{QuestionAnswer}
use Rattle.requirement_document.specs.Values.{DocumentValue}
use Rattle.requirement_answers.specs.declared.asking.Asking.{Asking}
use Rattle.requirement_answers.specs.declared.asking.Asking.TheVariants as askings
use Rattle.requirement_answers.specs.declared.asking.Reply.{Reply}
use Rattle.requirement_answers.specs.declared.findings.Report.{Report}
use Rattle.requirement_answers.specs.declared.counting.Further.{Further}
use Rattle.requirement_answers.specs.declared.counting.Further.TheVariants as further
use Rattle.requirement_answers.specs.declared.counting.Tally.{Tally}
use Rattle.requirement_answers.specs.declared.counting.Counts.{Counts}
use Rattle.requirement_answers.specs.Items.{given_numbers}
use Rattle.requirement_answers.specs.Verdicts.{is_can, is_cannot, has_break}

-- whether the question is of this sort
abbrev pub is_of : Further → Asking → Bool
is_of further.Triggered (askings.Triggered n) = true
is_of further.New (askings.New n) = true
is_of further.Possible (askings.Possible n) = true
is_of further.Follows (askings.Follows n) = true
is_of sort asking = false

-- what one hopes for: that it can be, but of what is to follow that it cannot fail
abbrev pub is_hoped : Further → QuestionAnswer → Bool
is_hoped further.Triggered a = is_can a
is_hoped further.New a = is_can a
is_hoped further.Possible a = is_can a
is_hoped further.Follows a = is_cannot a

abbrev pub asked_so : Further → Reply → Bool
asked_so sort r = is_of sort r.asking

abbrev pub good_so : Further → Reply → Bool
good_so sort r = is_of sort r.asking && is_hoped sort r.answer

abbrev pub tally : Further → List Reply → Tally
tally sort replies = record { good = count_by (good_so sort) replies; all = count_by (asked_so sort) replies }

-- of the given items those that are met together; of each sort of question those answered as hoped; and the behaviours that keep all
pub record AreCounts (d : DocumentValue) (r : Report) (c : Counts) : Type 0 where
  pub met : c.met.good ≡ if is_can r.together then length r.left.items else 0
  pub given : c.met.all ≡ length (given_numbers d)
  pub triggered : c.triggered ≡ tally further.Triggered r.replies.items
  pub new : c.new ≡ tally further.New r.replies.items
  pub possible : c.possible ≡ tally further.Possible r.replies.items
  pub follows : c.follows ≡ tally further.Follows r.replies.items
  pub kept : c.keeps.good ≡ count_by (λ b. not (has_break b)) r.checks.items
  pub recorded : c.keeps.all ≡ length r.checks.items

abbrev pub one_if : Bool → ℕ
one_if b = if b then 1 else 0
