-- The answers to questions about formulas as JSON. What depends on the answer is put at the place of its key.
use Rattle.std.specs.Prelude.{ℕ, ◌+◌, List, [], ◌∷◌, codes, Option, None}
use Rattle.std.specs.Global.{Box}
use Rattle.ltl_word.specs.Json.{trace_data}
use Rattle.requirement_document.specs.Values.{DocumentValue}
use Rattle.requirement_questions.specs.declared.answering.QuestionAnswer.{QuestionAnswer}
use Rattle.requirement_questions.specs.declared.answering.QuestionAnswer.TheVariants as answers
use Rattle.requirement_questions.specs.declared.leaving.Because.{Because}
use Rattle.requirement_questions.specs.declared.parting.Core.{Core}
use Rattle.requirement_answers.specs.declared.asking.Asking.{Asking}
use Rattle.requirement_answers.specs.declared.asking.Asking.TheVariants as askings
use Rattle.requirement_answers.specs.declared.asking.Reply.{Reply}
use Rattle.requirement_report.specs.Parts.{part_of, core_at}
use Rattle.requirement_report.specs.Text.{word_of, nevers_of}
use Rattle.requirement_json.specs.Items.{name_data}
use Rattle.requirement_json.specs.Because.{with_because}
use Rattle.serde_json.specs.Data.{Data, number, unsigned, string, object, Members, member, no_members, put}

abbrev pub question_text : Asking → List ℕ
question_text askings.Together = codes "consistent"
question_text (askings.Triggered n) = codes "triggered"
question_text (askings.New n) = codes "new"
question_text (askings.Possible n) = codes "possible"
question_text (askings.Follows n) = codes "follows"

-- the word of an answer, and the question
abbrev pub said : List ℕ → List ℕ → Members
said word question = member (codes "answer") (string word) (member (codes "question") (string question) no_members)

-- with the members, each with its part where there is a core, and the claims that show that there is no trace
abbrev pub with_reason : DocumentValue → Option Core → Because → Members → Members
with_reason d core b ms = with_because d (part_of core) b.members.items (nevers_of b) ms

-- with a trace; with the reason that there is none; with the steps within which neither was found; or with the size of a formula that is too large
abbrev pub with_found : DocumentValue → ℕ → QuestionAnswer → Members → Members
with_found d steps (answers.Can t) ms = put (codes "trace") (trace_data t) ms
with_found d steps (answers.Cannot b) ms = with_reason d None b.value ms
with_found d steps answers.Undecided ms = put (codes "steps") (number (unsigned steps)) ms
with_found d steps (answers.TooLarge size) ms = put (codes "nodes") (number (unsigned size)) ms

-- with the name of the item that is asked about, where it is one
abbrev pub with_name : DocumentValue → Asking → Members → Members
with_name d askings.Together ms = ms
with_name d (askings.Triggered n) ms = put (codes "name") (name_data d n) ms
with_name d (askings.New n) ms = put (codes "name") (name_data d n) ms
with_name d (askings.Possible n) ms = put (codes "name") (name_data d n) ms
with_name d (askings.Follows n) ms = put (codes "name") (name_data d n) ms

abbrev pub answer_data : DocumentValue → ℕ → Asking → QuestionAnswer → Data
answer_data d steps a answer = object (with_name d a (with_found d steps answer (said (word_of a answer) (question_text a))))

abbrev pub reply_data : DocumentValue → ℕ → Reply → Data
reply_data d steps r = answer_data d steps r.asking r.answer

-- what is given cannot be met together
abbrev pub conflict_data : DocumentValue → Option Core → Because → Data
conflict_data d core b = object (with_reason d core b (said (codes "conflict") (codes "consistent")))

-- conflicts from the one at this place on, each with its core
abbrev pub conflicts_from : DocumentValue → List (Option (Box Core)) → ℕ → List (Box Because) → List Data
conflicts_from d cores k [] = []
conflicts_from d cores k (b ∷ bs) = conflict_data d (core_at cores k) b.value ∷ conflicts_from d cores (k + 1) bs
