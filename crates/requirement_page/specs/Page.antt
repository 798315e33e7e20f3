-- The page of a report.
use Rattle.std.specs.Prelude.{◌≡◌, ℕ, ◌+◌, if◌then◌else◌, List, [], ◌∷◌, ◌++◌, length, codes, Option}
use Rattle.std.specs.Global.{Box}
use Rattle.requirement_document.specs.Values.{DocumentValue}
use Rattle.requirement_questions.specs.declared.leaving.Because.{Because}
use Rattle.requirement_questions.specs.declared.parting.Core.{Core}
use Rattle.requirement_answers.specs.declared.asking.Reply.{Reply}
use Rattle.requirement_answers.specs.declared.findings.Check.{Check}
use Rattle.requirement_answers.specs.declared.findings.Report.{Report}
use Rattle.requirement_answers.specs.declared.findings.Scope.{Scope}
use Rattle.requirement_answers.specs.declared.judging.ReportVerdict.{ReportVerdict}
use Rattle.requirement_answers.specs.declared.judging.ReportVerdict.TheVariants as verdicts
use Rattle.requirement_answers.specs.declared.counting.Counts.{Counts}
use Rattle.requirement_answers.specs.Verdicts.{verdict}
use Rattle.requirement_answers.specs.Counting.{AreCounts}
use Rattle.requirement_report.specs.Parts.{core_at}
use Rattle.requirement_report.specs.Text.{verdict_text, set_aside, is_hidden}
use Rattle.requirement_page.specs.Marks.{badge}
use Rattle.requirement_page.specs.Style.{style}
use Rattle.requirement_page.specs.Reasons.{conflict_article}
use Rattle.requirement_page.specs.Answers.{together_article, reply_article}
use Rattle.requirement_page.specs.Checks.{check_article}
use Rattle.requirement_page.specs.Places.{next_number, together_number, first_reply, first_check}
use Rattle.requirement_page.specs.Slips.{slips_part}
use Rattle.requirement_page.specs.Items.{all_items}
use Rattle.requirement_page.specs.Counts.{table}

abbrev pub verdict_sort : ReportVerdict → List ℕ
verdict_sort verdicts.AsWished = codes "good"
verdict_sort verdicts.NotAsWished = codes "bad"
verdict_sort verdicts.Undecided = codes "open"

-- a page of HTML that runs no script and asks for no other file
abbrev pub declared : List ℕ
declared =
    codes "<!DOCTYPE html>\n<html lang=\"en\">\n<head>\n<meta charset=\"utf-8\">\n"
    ++ (codes "<meta name=\"viewport\" content=\"width=device-width, initial-scale=1\">\n"
    ++ codes "<meta http-equiv=\"Content-Security-Policy\" content=\"default-src 'none'; style-src 'unsafe-inline'\">\n")

abbrev pub titled : ReportVerdict → List ℕ
titled v = codes "<title>Requirements: " ++ (verdict_text v ++ codes "</title>\n")

abbrev pub styled : List ℕ
styled = codes "<style>" ++ (style ++ codes "</style>\n</head>\n<body>\n")

abbrev pub judged : ReportVerdict → List ℕ
judged v = codes "<h1>Requirements: " ++ (badge (verdict_sort v) (verdict_text v) ++ codes "</h1>\n")

abbrev pub head : ReportVerdict → List ℕ
head v = declared ++ (titled v ++ (styled ++ judged v))

-- ---- the answers in the order of the questions, where the first of them has a number

-- conflicts from the one at this place on, each with its core
abbrev pub conflict_articles : DocumentValue → List (Option (Box Core)) → ℕ → List (Box Because) → List ℕ
conflict_articles d cores k [] = []
conflict_articles d cores k (b ∷ bs) = conflict_article d (k + 1) (core_at cores k) b.value ++ conflict_articles d cores (k + 1) bs

-- where all is asked, what is triggered and what is new goes without saying
abbrev pub reply_if : DocumentValue → Scope → ℕ → ℕ → Reply → List ℕ
reply_if d scope steps number r = if is_hidden scope r.asking r.answer then [] else reply_article d steps number r

abbrev pub reply_articles : DocumentValue → Scope → ℕ → ℕ → List Reply → List ℕ
reply_articles d scope steps number [] = []
reply_articles d scope steps number (r ∷ rs) = reply_if d scope steps number r ++ reply_articles d scope steps (next_number scope number r) rs

abbrev pub check_articles : DocumentValue → ℕ → List Check → List ℕ
check_articles d number [] = []
check_articles d number (c ∷ cs) = check_article d number c ++ check_articles d (number + 1) cs

abbrev pub answer_articles : DocumentValue → Report → Scope → ℕ → Counts → List ℕ
answer_articles d r scope steps counts =
    codes "<h2>Answers</h2>\n"
    ++ (conflict_articles d r.cores.items 0 r.conflicts.items
    ++ (together_article d steps (together_number r) (length r.left.items) counts.met.all (set_aside d r) r.together
    ++ (reply_articles d scope steps (first_reply r) r.replies.items
    ++ check_articles d (first_check scope r) r.checks.items)))

-- ---- and the whole page, where these are the counts

abbrev pub page_of : DocumentValue → Report → Scope → ℕ → Counts → List ℕ
page_of d r scope steps counts =
    head (verdict r)
    ++ (table counts
    ++ (answer_articles d r scope steps counts
    ++ (slips_part d scope
    ++ (all_items d scope r
    ++ codes "</body>\n</html>\n"))))

-- the page of a report: there is one, since a report has one list of counts
abbrev pub IsPage : DocumentValue → Report → Scope → ℕ → List ℕ → Type 0
IsPage d r scope steps text = (counts : Counts) × AreCounts d r counts × (text ≡ page_of d r scope steps counts)
