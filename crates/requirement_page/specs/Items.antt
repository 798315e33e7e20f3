-- The items and the behaviours of the document, each with the words of the answers about it.
use Rattle.std.specs.Prelude.{ℕ, ◌+◌, ◌==◌, Bool, if◌then◌else◌, List, [], ◌∷◌, ◌++◌, length, slice_get, codes, Option, Some, None}
use Rattle.std.specs.Global.{Box}
use Rattle.std.specs.List.{list_any}
use Rattle.trace_view.specs.Text.{below}
use Rattle.requirement_document.specs.declared.document.Role.{Role}
use Rattle.requirement_document.specs.declared.document.Role.TheVariants as roles
use Rattle.requirement_document.specs.Values.{ItemValue, DocumentValue}
use Rattle.requirement_questions.specs.declared.members.Member.{Member}
use Rattle.requirement_questions.specs.declared.leaving.Because.{Because}
use Rattle.requirement_answers.specs.declared.asking.Reply.{Reply}
use Rattle.requirement_answers.specs.declared.findings.Check.{Check}
use Rattle.requirement_answers.specs.declared.findings.Report.{Report}
use Rattle.requirement_answers.specs.declared.findings.Scope.{Scope}
use Rattle.requirement_report.specs.Flat.{flat}
use Rattle.requirement_report.specs.Lines.{worded}
use Rattle.requirement_report.specs.Subjects.{name_of, behaviour_name, behaviour_sentence}
use Rattle.requirement_report.specs.Text.{word_of, item_asked, is_hidden, keeps_word}
use Rattle.requirement_page.specs.Marks.{said, paragraph, paragraph_if, ended}
use Rattle.requirement_page.specs.Reasons.{described}
use Rattle.requirement_page.specs.Places.{next_number, first_reply, first_check}

-- ---- notes: the words of the answers about an item, with links to those that are shown. Each stands behind a comma

abbrev pub answer_link : ℕ → List ℕ → List ℕ
answer_link number word = worded (codes "<a href=\"#answer-") number ++ (codes "\">" ++ (word ++ codes "</a>"))

abbrev pub linked_note : ℕ → List ℕ → List ℕ
linked_note number word = codes ", " ++ answer_link number word

abbrev pub is_member : ℕ → List Member → Bool
is_member n members = list_any (λ m. m.given == n) members

abbrev pub conflict_note : ℕ → ℕ → Because → List ℕ
conflict_note n number b = if is_member n b.members.items then linked_note number (codes "conflict") else []

abbrev pub conflict_notes : ℕ → ℕ → List (Box Because) → List ℕ
conflict_notes n number [] = []
conflict_notes n number (b ∷ bs) = conflict_note n number b.value ++ conflict_notes n (number + 1) bs

abbrev pub answer_note : Scope → ℕ → Reply → List ℕ
answer_note scope number r =
    if is_hidden scope r.asking r.answer
    then codes ", " ++ word_of r.asking r.answer
    else linked_note number (word_of r.asking r.answer)

abbrev pub reply_note : Scope → ℕ → ℕ → Reply → List ℕ
reply_note scope n number r = if item_asked r.asking == n then answer_note scope number r else []

abbrev pub reply_notes : Scope → ℕ → ℕ → List Reply → List ℕ
reply_notes scope n number [] = []
reply_notes scope n number (r ∷ rs) = reply_note scope n number r ++ reply_notes scope n (next_number scope number r) rs

abbrev pub check_note : ℕ → ℕ → Check → List ℕ
check_note n number c = if c.behaviour == n then linked_note number (keeps_word c.breaks.items) else []

abbrev pub check_notes : ℕ → ℕ → List Check → List ℕ
check_notes n number [] = []
check_notes n number (c ∷ cs) = check_note n number c ++ check_notes n (number + 1) cs

-- without the first comma and the blank behind it
abbrev pub notes : List ℕ → List ℕ
notes [] = []
notes (comma ∷ []) = []
notes (comma ∷ blank ∷ rest) = paragraph rest

abbrev pub item_notes : Scope → Report → ℕ → List ℕ
item_notes scope r n = conflict_notes n 1 r.conflicts.items ++ reply_notes scope n (first_reply r) r.replies.items

abbrev pub behaviour_notes : Scope → Report → ℕ → List ℕ
behaviour_notes scope r n = check_notes n (first_check scope r) r.checks.items

-- ---- the articles

abbrev pub item_begun : ℕ → List ℕ → List ℕ → List ℕ
item_begun number role name = worded (codes "<article id=\"item-") number ++ (codes "\">\n<h3>" ++ (role ++ (codes " " ++ (said name ++ codes "</h3>\n"))))

abbrev pub role_word : Role → List ℕ
role_word roles.Assume = codes "assume"
role_word roles.Require = codes "require"
role_word roles.Allow = codes "allow"
role_word roles.Ensure = codes "ensure"

abbrev pub role_in : Option ItemValue → List ℕ
role_in None = []
role_in (Some i) = role_word i.role

abbrev pub item_article : DocumentValue → Scope → Report → ℕ → List ℕ
item_article d scope r n = item_begun (n + 1) (role_in (slice_get d.items n)) (name_of d n) ++ (described d n ++ (notes (item_notes scope r n) ++ ended))

abbrev pub behaviour_article : DocumentValue → Scope → Report → ℕ → List ℕ
behaviour_article d scope r n =
    item_begun (length d.items + n + 1) (codes "behaviour") (behaviour_name d n)
    ++ (paragraph_if (flat (behaviour_sentence d n))
    ++ (notes (behaviour_notes scope r n)
    ++ ended))

abbrev pub all_items : DocumentValue → Scope → Report → List ℕ
all_items d scope r =
    codes "<h2>Items</h2>\n"
    ++ (below (length d.items) (item_article d scope r)
    ++ below (length d.behaviours) (behaviour_article d scope r))
