-- The line that is written for a question.
use Rattle.std.specs.Prelude.{ℕ, ◌==◌, if◌then◌else◌, List, [], ◌++◌, codes}
use Rattle.std.specs.Fmt.{decimal}
use Rattle.report.specs.Texts.{line}
use Rattle.requirement_document.specs.Values.{DocumentValue}
use Rattle.requirement_answers.specs.declared.asking.Asking.{Asking}
use Rattle.requirement_answers.specs.declared.asking.Asking.TheVariants as askings
use Rattle.requirement_report.specs.Flat.{flat}
use Rattle.requirement_report.specs.Subjects.{name_of}
use Rattle.requirement_report.specs.Text.{question_words}

-- what is asked about, where it is one item
abbrev pub item_text : DocumentValue → ℕ → List ℕ
item_text d n = codes " " ++ flat (name_of d n)

abbrev pub subject_text : DocumentValue → Asking → List ℕ
subject_text d askings.Together = []
subject_text d (askings.Triggered n) = item_text d n
subject_text d (askings.New n) = item_text d n
subject_text d (askings.Possible n) = item_text d n
subject_text d (askings.Follows n) = item_text d n

-- how many questions stand behind it, where some do
abbrev pub left_text : ℕ → List ℕ
left_text n = if n == 0 then [] else (codes " (" ++ (decimal n ++ codes " left)"))

abbrev pub progress_line : DocumentValue → Asking → ℕ → List ℕ
progress_line d asking left = line (question_words asking ++ (subject_text d asking ++ left_text left))
