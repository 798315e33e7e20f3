-- The numbers of the answers on the page, which count from 1 those that are shown: conflicts, what is met together, further answers, behaviours.
use Rattle.std.specs.Prelude.{ℕ, ◌+◌, if◌then◌else◌, List, [], ◌∷◌, length}
use Rattle.requirement_answers.specs.declared.asking.Reply.{Reply}
use Rattle.requirement_answers.specs.declared.findings.Report.{Report}
use Rattle.requirement_answers.specs.declared.findings.Scope.{Scope}
use Rattle.requirement_report.specs.Text.{is_hidden}

-- the number behind an answer, which has this one where it is shown
abbrev pub next_number : Scope → ℕ → Reply → ℕ
next_number scope number r = if is_hidden scope r.asking r.answer then number else (number + 1)

-- and the one behind all these answers
abbrev pub number_behind : Scope → ℕ → List Reply → ℕ
number_behind scope number [] = number
number_behind scope number (r ∷ rs) = number_behind scope (next_number scope number r) rs

abbrev pub together_number : Report → ℕ
together_number r = length r.conflicts.items + 1

abbrev pub first_reply : Report → ℕ
first_reply r = length r.conflicts.items + 2

abbrev pub first_check : Scope → Report → ℕ
first_check scope r = number_behind scope (first_reply r) r.replies.items
