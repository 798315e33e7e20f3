-- What is written of a report has no float.
use Rattle.std.proofs.Common.{◌≡◌, ℕ, ◌+◌, List, [], ◌∷◌, ◌++◌, map, refl, false, codes, slice_get, Option, Some, None}
use Rattle.std.specs.Global.{Box}
use Rattle.ltl_syntax.specs.declared.node.UnaryOp.TheVariants.{Always}
use Rattle.ltl_syntax.specs.declared.node.BinaryOp.TheVariants.{Implies}
use Rattle.ltl_syntax.specs.Formula.{Formula, Unary, Binary}
use Rattle.ltl_word.specs.declared.trace.Trace.{Trace}
use Rattle.ltl_word.specs.declared.trace.Trace.TheVariants.{Infinite, Finite}
use Rattle.ltl_word.specs.Trace.{Names}
use Rattle.ltl_word.specs.Json.{state_data, states_data, trace_data}
use Rattle.requirement_document.specs.Values.{ItemValue, BehaviourValue, DocumentValue}
use Rattle.requirement_questions.specs.declared.members.Member.{Member}
use Rattle.requirement_questions.specs.declared.leaving.Because.{Because}
use Rattle.requirement_questions.specs.declared.parting.Core.{Core}
use Rattle.requirement_questions.specs.declared.answering.QuestionAnswer.{QuestionAnswer}
use Rattle.requirement_questions.specs.declared.answering.QuestionAnswer.TheVariants as answers
use Rattle.requirement_answers.specs.declared.asking.Asking.{Asking}
use Rattle.requirement_answers.specs.declared.asking.Asking.TheVariants as askings
use Rattle.requirement_answers.specs.declared.findings.Break.{Break}
use Rattle.requirement_answers.specs.declared.findings.Check.{Check}
use Rattle.requirement_answers.specs.declared.findings.Report.{Report}
use Rattle.requirement_answers.specs.declared.judging.ReportVerdict.{ReportVerdict}
use Rattle.requirement_answers.specs.Verdicts.{verdict}
use Rattle.requirement_report.specs.Letters.{UseValue, uses_of}
use Rattle.requirement_report.specs.Parts.{part_of, core_at}
use Rattle.requirement_report.specs.Slips.{SlipValue, slips_of}
use Rattle.requirement_report.specs.Text.{bare, nevers_of, set_aside, word_of}
use Rattle.serde_json.specs.Data.{Data, number, unsigned, string, Members, put}
use Rattle.serde_json.specs.View.{items_of}
use Rattle.serde_json.specs.Written.{has_float, items_have_float, members_have_float}
use Rattle.requirement_json.specs.Items.{kind_text, text_data, item_data, name_data, names_data, items_data}
use Rattle.requirement_json.specs.Because.{member_members, with_part, member_data, members_from, members_data, lines_behind, claim_data, claims_data}
use Rattle.requirement_json.specs.Because.{with_because}
use Rattle.requirement_json.specs.Answers.{question_text, said, with_found, with_name, answer_data, reply_data, conflict_data, conflicts_from}
use Rattle.requirement_json.specs.Checks.{with_asked, with_asked_of, place_members, break_data, breaks_data, behaviour_data, check_data}
use Rattle.requirement_json.specs.Letters.{use_data, letters_data, nearly_data, slip_data, slips_data}
use Rattle.requirement_json.specs.Whole.{answers_of, told, with_letters, with_document, json_of}
use Rattle.requirement_json.proofs.Plain.{map_plain, append_plain, put_plain}

-- ---- traces

state_plain : (names : Names) → has_float (state_data names) ≡ false
state_plain names = map_plain string (λ n. refl) names

states_plain : (states : List Names) → has_float (states_data states) ≡ false
states_plain states = map_plain state_data state_plain states

trace_plain : (t : Trace) → has_float (trace_data t) ≡ false
trace_plain (Infinite stem loop_part) = rw (states_plain stem, states_plain loop_part) refl
trace_plain (Finite states) = rw (states_plain states) refl

-- ---- items and letters

text_plain : (text : Option (List ℕ)) → has_float (text_data text) ≡ false
text_plain None = refl
text_plain (Some text) = refl

item_plain : (i : ItemValue) → has_float (item_data i) ≡ false
item_plain i = rw (text_plain i.sentence) refl

names_plain : (d : DocumentValue) (numbers : List ℕ) → has_float (names_data d numbers) ≡ false
names_plain d numbers = map_plain (name_data d) (λ n. refl) numbers

use_plain : (d : DocumentValue) (u : UseValue) → has_float (use_data d u) ≡ false
use_plain d u = rw (names_plain d u.items) refl

nearly_plain : (nearly : Option (List ℕ)) → items_have_float (items_of (nearly_data nearly)) ≡ false
nearly_plain None = refl
nearly_plain (Some letter) = refl

slip_plain : (d : DocumentValue) (s : SlipValue) → has_float (slip_data d s) ≡ false
slip_plain d s = rw (names_plain d s.items, nearly_plain s.nearly) refl

-- ---- answers

part_plain : (part : Option (List ℕ)) (ms : Members) → members_have_float ms ≡ false → members_have_float (with_part part ms) ≡ false
part_plain None ms h = h
part_plain (Some part) ms h = put_plain (codes "matters") (string part) ms refl h

member_plain : (d : DocumentValue) (part : Option (List ℕ)) (m : Member) → has_float (member_data d part m) ≡ false
member_plain d part m = part_plain part (member_members d m) refl

members_plain : (d : DocumentValue) (parts : ℕ → Option (List ℕ)) (k : ℕ) (members : List Member)
    → items_have_float (items_of (members_from d parts k members)) ≡ false
members_plain d parts k [] = refl
members_plain d parts k (m ∷ ms) = rw (member_plain d (parts k) m) (members_plain d parts (k + 1) ms)

because_plain : (d : DocumentValue) (parts : ℕ → Option (List ℕ)) (members : List Member) (nevers : List ℕ) (ms : Members) → members_have_float ms ≡ false
    → members_have_float (with_because d parts members nevers ms) ≡ false
because_plain d parts members nevers ms h =
    put_plain (codes "because") (members_data d parts members) (put (codes "claims") (claims_data nevers) ms) (members_plain d parts 0 members)
    (put_plain (codes "claims") (claims_data nevers) ms (map_plain claim_data (λ line. refl) (lines_behind [] nevers)) h)

found_plain : (d : DocumentValue) (steps : ℕ) (a : QuestionAnswer) (ms : Members)
    → members_have_float ms ≡ false → members_have_float (with_found d steps a ms) ≡ false
found_plain d steps (answers.Can t) ms h = put_plain (codes "trace") (trace_data t) ms (trace_plain t) h
found_plain d steps (answers.Cannot b) ms h = because_plain d (part_of None) b.value.members.items (nevers_of b.value) ms h
found_plain d steps answers.Undecided ms h = put_plain (codes "steps") (number (unsigned steps)) ms refl h
found_plain d steps (answers.TooLarge size) ms h = put_plain (codes "nodes") (number (unsigned size)) ms refl h

name_plain : (d : DocumentValue) (a : Asking) (ms : Members) → members_have_float ms ≡ false → members_have_float (with_name d a ms) ≡ false
name_plain d askings.Together ms h = h
name_plain d (askings.Triggered n) ms h = put_plain (codes "name") (name_data d n) ms refl h
name_plain d (askings.New n) ms h = put_plain (codes "name") (name_data d n) ms refl h
name_plain d (askings.Possible n) ms h = put_plain (codes "name") (name_data d n) ms refl h
name_plain d (askings.Follows n) ms h = put_plain (codes "name") (name_data d n) ms refl h

answer_plain : (d : DocumentValue) (steps : ℕ) (a : Asking) (answer : QuestionAnswer) → has_float (answer_data d steps a answer) ≡ false
answer_plain d steps a answer =
    let words = said (word_of a answer) (question_text a) in
    name_plain d a (with_found d steps answer words) (found_plain d steps answer words refl)

conflict_plain : (d : DocumentValue) (core : Option Core) (b : Because) → has_float (conflict_data d core b) ≡ false
conflict_plain d core b = because_plain d (part_of core) b.members.items (nevers_of b) (said (codes "conflict") (codes "consistent")) refl

conflicts_plain : (d : DocumentValue) (cores : List (Option (Box Core))) (k : ℕ) (bs : List (Box Because))
    → items_have_float (items_of (conflicts_from d cores k bs)) ≡ false
conflicts_plain d cores k [] = refl
conflicts_plain d cores k (b ∷ bs) = rw (conflict_plain d (core_at cores k) b.value) (conflicts_plain d cores (k + 1) bs)

-- ---- behaviours

asked_plain : (f : Formula) (ms : Members) → members_have_float ms ≡ false → members_have_float (with_asked f ms) ≡ false
asked_plain (Unary Always (Binary Implies a b)) ms h =
    put_plain (codes "asked") (string (bare a)) (put (codes "unanswered") (string (bare b)) ms) refl
    (put_plain (codes "unanswered") (string (bare b)) ms refl h)
asked_plain f ms h = h

asked_of_plain : (i : Option ItemValue) (ms : Members) → members_have_float ms ≡ false → members_have_float (with_asked_of i ms) ≡ false
asked_of_plain None ms h = h
asked_of_plain (Some i) ms h = asked_plain i.formula ms h

break_plain : (d : DocumentValue) (b : Break) → has_float (break_data d b) ≡ false
break_plain d b = asked_of_plain (slice_get d.items b.item) (place_members d b) refl

behaviour_plain : (b : Option BehaviourValue) → has_float (behaviour_data b) ≡ false
behaviour_plain None = refl
behaviour_plain (Some b) = trace_plain b.trace

breaks_plain : (d : DocumentValue) (breaks : List Break) → has_float (breaks_data d breaks) ≡ false
breaks_plain d breaks = map_plain (break_data d) (break_plain d) breaks

check_plain : (d : DocumentValue) (c : Check) → has_float (check_data d c) ≡ false
check_plain d c = rw (breaks_plain d c.breaks.items, behaviour_plain (slice_get d.behaviours c.behaviour)) refl

-- ---- the whole

later_plain : (d : DocumentValue) (r : Report) (steps : ℕ)
    → items_have_float (items_of (map (reply_data d steps) r.replies.items ++ map (check_data d) r.checks.items)) ≡ false
later_plain d r steps =
    append_plain (map (reply_data d steps) r.replies.items) (map (check_data d) r.checks.items)
    (map_plain (reply_data d steps) (λ p. answer_plain d steps p.asking p.answer) r.replies.items) (map_plain (check_data d) (check_plain d) r.checks.items)

answers_plain : (d : DocumentValue) (r : Report) (steps : ℕ) → items_have_float (items_of (answers_of d r steps)) ≡ false
answers_plain d r steps =
    append_plain (conflicts_from d r.cores.items 0 r.conflicts.items) _
    (conflicts_plain d r.cores.items 0 r.conflicts.items)
    (rw (answer_plain d steps askings.Together r.together) (later_plain d r steps))

letters_plain : (d : DocumentValue) (ms : Members) → members_have_float ms ≡ false → members_have_float (with_letters d ms) ≡ false
letters_plain d ms h =
    put_plain (codes "letters") (letters_data d (uses_of d)) (put (codes "slips") (slips_data d (slips_of d)) ms)
    (map_plain (use_data d) (use_plain d) (uses_of d))
    (put_plain (codes "slips") (slips_data d (slips_of d)) ms (map_plain (slip_data d) (slip_plain d) (slips_of d)) h)

document_plain : (d : DocumentValue) (ms : Members) → members_have_float ms ≡ false → members_have_float (with_document d ms) ≡ false
document_plain d ms h =
    let traces = string (kind_text d.kind) in
    put_plain (codes "items") (items_data d.items) (with_letters d (put (codes "traces") traces ms)) (map_plain item_data item_plain d.items)
    (letters_plain d (put (codes "traces") traces ms) (put_plain (codes "traces") traces ms refl h))

told_plain : (d : DocumentValue) (answers : List Data) (aside : List Member) (v : ReportVerdict) → items_have_float (items_of answers) ≡ false
    → members_have_float (told d answers aside v) ≡ false
told_plain d answers aside v h = rw (h, map_plain (λ (m : Member). name_data d m.given) (λ m. refl) aside) refl

pub report_plain : (d : DocumentValue) (r : Report) (steps : ℕ) → has_float (json_of d r steps) ≡ false
report_plain d r steps =
    document_plain d (told d (answers_of d r steps) (set_aside d r) (verdict r))
    (told_plain d (answers_of d r steps) (set_aside d r) (verdict r) (answers_plain d r steps))
