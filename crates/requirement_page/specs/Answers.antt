-- What is met together, and the answers to the further questions.
use Rattle.std.specs.Prelude.{ℕ, List, ◌++◌, codes}
use Rattle.requirement_document.specs.Values.{DocumentValue}
use Rattle.requirement_questions.specs.declared.members.Member.{Member}
use Rattle.requirement_questions.specs.declared.answering.QuestionAnswer.{QuestionAnswer}
use Rattle.requirement_questions.specs.declared.answering.QuestionAnswer.TheVariants as answers
use Rattle.requirement_answers.specs.declared.asking.Asking.{Asking}
use Rattle.requirement_answers.specs.declared.asking.Asking.TheVariants as askings
use Rattle.requirement_answers.specs.declared.asking.Reply.{Reply}
use Rattle.requirement_report.specs.Lines.{worded, of_all}
use Rattle.requirement_report.specs.Text.{question_words, word_of, item_asked}
use Rattle.requirement_page.specs.Marks.{paragraph, item_link, begun, ended}
use Rattle.requirement_page.specs.Pictures.{picture}
use Rattle.requirement_page.specs.Reasons.{described, because_of, without}

-- the sort of an answer that there is a trace, and that there is none
abbrev pub can_sort : Asking → List ℕ
can_sort askings.Together = codes "good"
can_sort (askings.Triggered n) = codes "good"
can_sort (askings.New n) = codes "good"
can_sort (askings.Possible n) = codes "good"
can_sort (askings.Follows n) = codes "bad"

abbrev pub cannot_sort : Asking → List ℕ
cannot_sort askings.Together = codes "bad"
cannot_sort (askings.Triggered n) = codes "remark"
cannot_sort (askings.New n) = codes "remark"
cannot_sort (askings.Possible n) = codes "bad"
cannot_sort (askings.Follows n) = codes "good"

abbrev pub sort_of : Asking → QuestionAnswer → List ℕ
sort_of a (answers.Can t) = can_sort a
sort_of a (answers.Cannot b) = cannot_sort a
sort_of a answers.Undecided = codes "open"
sort_of a (answers.TooLarge size) = codes "open"

-- the question in words, and why it is open
abbrev pub undecided : Asking → List ℕ → List ℕ
undecided a why = paragraph (question_words a) ++ paragraph why

abbrev pub tried : ℕ → List ℕ
tried steps = worded (codes "tried: ") steps ++ codes " steps"

abbrev pub large : ℕ → List ℕ
large size = worded (codes "limit nodes 16384 have ") size

abbrev pub answered : DocumentValue → ℕ → Asking → QuestionAnswer → List ℕ
answered d steps a (answers.Can t) = picture t
answered d steps a (answers.Cannot b) = because_of d b.value.members.items
answered d steps a answers.Undecided = undecided a (tried steps)
answered d steps a (answers.TooLarge size) = undecided a (large size)

-- how many of all that is given are left
abbrev pub together_article : DocumentValue → ℕ → ℕ → ℕ → ℕ → List Member → QuestionAnswer → List ℕ
together_article d steps number left all aside a =
    begun (sort_of askings.Together a) number (word_of askings.Together a) (of_all left all)
    ++ (without d aside
    ++ (answered d steps askings.Together a
    ++ ended))

-- the answer to a further question
abbrev pub reply_article : DocumentValue → ℕ → ℕ → Reply → List ℕ
reply_article d steps number r =
    begun (sort_of r.asking r.answer) number (word_of r.asking r.answer) (item_link d (item_asked r.asking))
    ++ (described d (item_asked r.asking)
    ++ (answered d steps r.asking r.answer
    ++ ended))
