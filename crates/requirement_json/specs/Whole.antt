-- A report about a document as one JSON object on one line. Names, sentences and formulas stand in it as they are written.
use Rattle.std.specs.Prelude.{ℕ, List, ◌∷◌, ◌++◌, map, codes}
use Rattle.requirement_document.specs.Values.{DocumentValue}
use Rattle.requirement_questions.specs.declared.members.Member.{Member}
use Rattle.requirement_answers.specs.declared.asking.Asking.TheVariants as askings
use Rattle.requirement_answers.specs.declared.findings.Report.{Report}
use Rattle.requirement_answers.specs.declared.judging.ReportVerdict.{ReportVerdict}
use Rattle.requirement_answers.specs.Verdicts.{verdict}
use Rattle.requirement_report.specs.Letters.{uses_of}
use Rattle.requirement_report.specs.Slips.{slips_of}
use Rattle.requirement_report.specs.Text.{verdict_text, set_aside}
use Rattle.requirement_json.specs.Items.{kind_text, items_data, name_data}
use Rattle.requirement_json.specs.Answers.{answer_data, reply_data, conflicts_from}
use Rattle.requirement_json.specs.Checks.{check_data}
use Rattle.requirement_json.specs.Letters.{letters_data, slips_data}
use Rattle.serde_json.specs.Data.{Data, string, array, object, Members, member, no_members, put}
use Rattle.serde_json.specs.View.{items_of}
use Rattle.serde_json.specs.Written.{compact_text}

-- the answers in the order of the text, all of them
abbrev pub answers_of : DocumentValue → Report → ℕ → List Data
answers_of d r steps =
    conflicts_from d r.cores.items 0 r.conflicts.items
    ++ answer_data d steps askings.Together r.together
    ∷ (map (reply_data d steps) r.replies.items ++ map (check_data d) r.checks.items)

abbrev pub aside_data : DocumentValue → List Member → Data
aside_data d members = array (items_of (map (λ m. name_data d m.given) members))

-- what is said of a report: its answers, what is set aside, and the verdict
abbrev pub told : DocumentValue → List Data → List Member → ReportVerdict → Members
told d answers aside v =
    member (codes "answers") (array (items_of answers))
    (member (codes "aside") (aside_data d aside) (member (codes "verdict") (string (verdict_text v)) no_members))

-- with the letters, and those that may be slips
abbrev pub with_letters : DocumentValue → Members → Members
with_letters d ms = put (codes "letters") (letters_data d (uses_of d)) (put (codes "slips") (slips_data d (slips_of d)) ms)

-- with all that is said of the document
abbrev pub with_document : DocumentValue → Members → Members
with_document d ms = put (codes "items") (items_data d.items) (with_letters d (put (codes "traces") (string (kind_text d.kind)) ms))

abbrev pub whole_data : DocumentValue → List Data → List Member → ReportVerdict → Data
whole_data d answers aside v = object (with_document d (told d answers aside v))

abbrev pub json_of : DocumentValue → Report → ℕ → Data
json_of d r steps = whole_data d (answers_of d r steps) (set_aside d r) (verdict r)

-- a value on a line of its own
abbrev pub line_of : Data → List ℕ
line_of value = compact_text value ++ codes "\n"

abbrev pub json_text : DocumentValue → Report → ℕ → List ℕ
json_text d r steps = line_of (json_of d r steps)
