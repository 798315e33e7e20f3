-- The text of a report.
use Rattle.std.specs.Prelude.{◌≡◌, ℕ, ◌+◌, ◌-◌, ◌==◌, ◌&&◌, nat_le, Bool, true, false, if◌then◌else◌, List, [], ◌∷◌, ◌++◌, map, length, slice_get, codes}
use Rattle.std.specs.Prelude.{Option, Some, None}
use Rattle.std.specs.Global.{Box}
use Rattle.std.specs.List.{flat_map}
use Rattle.ltl_syntax.specs.declared.node.UnaryOp.TheVariants.{Always}
use Rattle.ltl_syntax.specs.declared.node.BinaryOp.TheVariants.{Implies}
use Rattle.ltl_syntax.specs.Formula.{Formula, Unary, Binary}
use Rattle.ltl_syntax.specs.Print.{text_of as printed, binary_text}
use Rattle.ltl_syntax.specs.Table.{tree_at}
use Rattle.claim_check.specs.Data.{certificate_in}
use Rattle.claim_reading.specs.Never.{never_text}
use Rattle.requirement_document.specs.Values.{ItemValue, BehaviourValue, DocumentValue}
use Rattle.requirement_questions.specs.declared.members.Member.{Member}
use Rattle.requirement_questions.specs.declared.leaving.Because.{Because}
use Rattle.requirement_questions.specs.declared.parting.Core.{Core}
use Rattle.requirement_questions.specs.declared.answering.QuestionAnswer.{QuestionAnswer}
use Rattle.requirement_questions.specs.declared.answering.QuestionAnswer.TheVariants as answers
use Rattle.requirement_answers.specs.declared.asking.Asking.{Asking}
use Rattle.requirement_answers.specs.declared.asking.Asking.TheVariants as askings
use Rattle.requirement_answers.specs.declared.asking.Reply.{Reply}
use Rattle.requirement_answers.specs.declared.findings.Break.{Break}
use Rattle.requirement_answers.specs.declared.findings.Check.{Check}
use Rattle.requirement_answers.specs.declared.findings.Report.{Report}
use Rattle.requirement_answers.specs.declared.findings.Scope.{Scope}
use Rattle.requirement_answers.specs.declared.findings.Scope.TheVariants as scopes
use Rattle.requirement_answers.specs.declared.judging.ReportVerdict.{ReportVerdict}
use Rattle.requirement_answers.specs.declared.judging.ReportVerdict.TheVariants as verdicts
use Rattle.requirement_answers.specs.declared.counting.Tally.{Tally}
use Rattle.requirement_answers.specs.declared.counting.Counts.{Counts}
use Rattle.requirement_answers.specs.Verdicts.{verdict, is_can}
use Rattle.requirement_answers.specs.Counting.{AreCounts}
use Rattle.requirement_report.specs.Flat.{flat}
use Rattle.requirement_report.specs.Lines.{worded, of_all, inner, deeper, inner_if, deeper_if, head, first_lines, lines_in, indented}
use Rattle.requirement_report.specs.Parts.{part_of, core_at}
use Rattle.requirement_report.specs.Pictures.{picture, marked_picture}
use Rattle.requirement_report.specs.Slips.{SlipValue, slips_of}
use Rattle.requirement_report.specs.Subjects.{name_of, sentence_of, written_of, behaviour_name, behaviour_sentence, members_text, aside}

-- ---- a conflict

-- what matters of a member, where that is known
abbrev pub matters_line : Option (List ℕ) → List ℕ
matters_line None = []
matters_line (Some part) = deeper (codes "matters: " ++ part)

-- a member: its name, its sentence, and its formula as it is written
abbrev pub subject_lines : DocumentValue → Member → List ℕ
subject_lines d m = inner (flat (name_of d m.given)) ++ (deeper_if (flat (sentence_of d m.given)) ++ deeper_if (flat (written_of d m.given)))

-- and what matters of it
abbrev pub member_lines : DocumentValue → Option (List ℕ) → Member → List ℕ
member_lines d part m = subject_lines d m ++ matters_line part

-- members from the one at this place on
abbrev pub members_lines : DocumentValue → Option Core → ℕ → List Member → List ℕ
members_lines d core k [] = []
members_lines d core k (m ∷ ms) = member_lines d (part_of core k) m ++ members_lines d core (k + 1) ms

-- the lines of claims behind the first 12
abbrev pub more_lines : ℕ → List ℕ
more_lines count = if nat_le count 12 then [] else inner (worded (codes "and ") (count - 12) ++ codes " more")

-- the first 12 claims
abbrev pub claim_lines : List ℕ → List ℕ
claim_lines [] = inner (codes "no first state meets them")
claim_lines (b ∷ bs) = indented true (first_lines 12 (b ∷ bs)) ++ more_lines (lines_in (b ∷ bs))

abbrev pub nevers_of : Because → List ℕ
nevers_of b = never_text (tree_at b.table b.root) (certificate_in b.certificate)

abbrev pub conflict_block : DocumentValue → Option Core → Because → List ℕ
conflict_block d core b = head (codes "conflict") (members_text d b.members.items) ++ (members_lines d core 0 b.members.items ++ claim_lines (nevers_of b))

-- and the empty line behind it
abbrev pub conflict_before : DocumentValue → Option Core → Because → List ℕ
conflict_before d core b = conflict_block d core b ++ codes "\n"

-- conflicts from the one at this place on, each with its core
abbrev pub conflict_blocks : DocumentValue → List (Option (Box Core)) → ℕ → List (Box Because) → List ℕ
conflict_blocks d cores k [] = []
conflict_blocks d cores k (b ∷ bs) = conflict_before d (core_at cores k) b.value ++ conflict_blocks d cores (k + 1) bs

-- ---- what is said of an answer

abbrev pub question_words : Asking → List ℕ
question_words askings.Together = codes "can all of them be met together?"
question_words (askings.Triggered n) = codes "is it ever triggered?"
question_words (askings.New n) = codes "does it say anything new?"
question_words (askings.Possible n) = codes "may it happen?"
question_words (askings.Follows n) = codes "does it follow?"

-- the word of an answer that there is a trace, and that there is none
abbrev pub can_word : Asking → List ℕ
can_word askings.Together = codes "consistent"
can_word (askings.Triggered n) = codes "triggered"
can_word (askings.New n) = codes "new"
can_word (askings.Possible n) = codes "possible"
can_word (askings.Follows n) = codes "fails"

abbrev pub cannot_word : Asking → List ℕ
cannot_word askings.Together = codes "conflict"
cannot_word (askings.Triggered n) = codes "never triggered"
cannot_word (askings.New n) = codes "follows from the others"
cannot_word (askings.Possible n) = codes "impossible"
cannot_word (askings.Follows n) = codes "follows"

abbrev pub word_of : Asking → QuestionAnswer → List ℕ
word_of a (answers.Can t) = can_word a
word_of a (answers.Cannot b) = cannot_word a
word_of a answers.Undecided = codes "undecided"
word_of a (answers.TooLarge size) = codes "undecided"

-- the members because of which there is none
abbrev pub because_line : DocumentValue → List Member → List ℕ
because_line d [] = inner (codes "by itself")
because_line d (m ∷ ms) = inner (codes "because of: " ++ members_text d (m ∷ ms))

abbrev pub tried_line : ℕ → List ℕ
tried_line steps = inner (worded (codes "tried: ") steps ++ codes " steps")

abbrev pub large_line : ℕ → List ℕ
large_line size = inner (worded (codes "limit nodes 16384 have ") size)

abbrev pub answer_lines : DocumentValue → ℕ → Asking → QuestionAnswer → List ℕ
answer_lines d steps a (answers.Can t) = picture t
answer_lines d steps a (answers.Cannot b) = because_line d b.value.members.items
answer_lines d steps a answers.Undecided = inner (question_words a) ++ tried_line steps
answer_lines d steps a (answers.TooLarge size) = inner (question_words a) ++ large_line size

-- ---- the blocks

-- what is set aside where there is a conflict
abbrev pub without_line : DocumentValue → List Member → List ℕ
without_line d [] = []
without_line d (m ∷ ms) = inner (codes "without: " ++ members_text d (m ∷ ms))

-- how many of all that is given are left
abbrev pub together_block : DocumentValue → ℕ → ℕ → ℕ → List Member → QuestionAnswer → List ℕ
together_block d steps left all without answer =
    head (word_of askings.Together answer) (of_all left all) ++ (without_line d without ++ answer_lines d steps askings.Together answer)

-- the item that is asked about
abbrev pub item_asked : Asking → ℕ
item_asked askings.Together = 0
item_asked (askings.Triggered n) = n
item_asked (askings.New n) = n
item_asked (askings.Possible n) = n
item_asked (askings.Follows n) = n

-- where all is asked, what is triggered and what is new goes without saying
abbrev pub is_remark : Asking → Bool
is_remark askings.Together = false
is_remark (askings.Triggered n) = true
is_remark (askings.New n) = true
is_remark (askings.Possible n) = false
is_remark (askings.Follows n) = false

abbrev pub is_all : Scope → Bool
is_all scopes.All = true
is_all (scopes.Item n) = false
is_all (scopes.Behaviour n) = false

abbrev pub is_hidden : Scope → Asking → QuestionAnswer → Bool
is_hidden scope a answer = is_all scope && (is_remark a && is_can answer)

-- each further block stands behind an empty line
abbrev pub named_head : List ℕ → List ℕ → List ℕ → List ℕ
named_head word name sentence = codes "\n" ++ (head word (flat name) ++ inner_if (flat sentence))

abbrev pub reply_block : DocumentValue → Scope → ℕ → Reply → List ℕ
reply_block d scope steps r =
    if is_hidden scope r.asking r.answer then []
    else
    (named_head (word_of r.asking r.answer) (name_of d (item_asked r.asking)) (sentence_of d (item_asked r.asking)) ++ answer_lines d steps r.asking r.answer)

-- the text of a formula without parentheses around the whole
abbrev pub bare : Formula → List ℕ
bare (Binary op a b) = printed a ++ (binary_text op ++ printed b)
bare f = printed f

abbrev pub is_joined : Formula → Bool
is_joined (Binary op a b) = true
is_joined f = false

-- what asked, and what was not answered
abbrev pub asked_lines : Formula → List ℕ
asked_lines (Unary Always (Binary Implies a b)) = deeper (codes "asked: " ++ bare a) ++ deeper (codes "not answered: " ++ bare b)
asked_lines f = []

abbrev pub asked_in : Option ItemValue → List ℕ
asked_in None = []
asked_in (Some i) = asked_lines i.formula

-- an item that is broken
abbrev pub break_lines : DocumentValue → Break → List ℕ
break_lines d b = inner (flat (name_of d b.item) ++ worded (codes " at ") b.position) ++ asked_in (slice_get d.items b.item)

abbrev pub keeps_word : List Break → List ℕ
keeps_word [] = codes "keeps"
keeps_word (b ∷ bs) = codes "breaks"

-- the picture of a behaviour, with marks where it first breaks something
abbrev pub behaviour_picture : Option BehaviourValue → List ℕ → List ℕ
behaviour_picture None positions = []
behaviour_picture (Some b) positions = marked_picture b.trace positions

abbrev pub positions_of : List Break → List ℕ
positions_of breaks = map (λ (b : Break). b.position) breaks

abbrev pub broken_picture : DocumentValue → ℕ → List Break → List ℕ
broken_picture d n [] = []
broken_picture d n (b ∷ bs) = behaviour_picture (slice_get d.behaviours n) (positions_of (b ∷ bs))

abbrev pub check_block : DocumentValue → Check → List ℕ
check_block d c =
    named_head (keeps_word c.breaks.items) (behaviour_name d c.behaviour) (behaviour_sentence d c.behaviour)
    ++ (flat_map (break_lines d) c.breaks.items ++ broken_picture d c.behaviour c.breaks.items)

-- ---- letters that may be slips

-- the item in which a letter stands alone
abbrev pub alone_text : DocumentValue → List ℕ → List ℕ
alone_text d [] = []
alone_text d (n ∷ []) = codes "in " ++ (flat (name_of d n) ++ codes " alone")
alone_text d (n ∷ m ∷ more) = []

-- the letter that it is nearly
abbrev pub nearly_text : Option (List ℕ) → List ℕ
nearly_text None = []
nearly_text (Some other) = codes "nearly " ++ flat other

-- two remarks, of which either may be missing
abbrev pub both_texts : List ℕ → List ℕ → List ℕ
both_texts [] later = later
both_texts (b ∷ bs) [] = b ∷ bs
both_texts (b ∷ bs) (c ∷ cs) = (b ∷ bs) ++ (codes "; " ++ (c ∷ cs))

abbrev pub slip_line : DocumentValue → SlipValue → List ℕ
slip_line d s = inner (flat s.letter ++ (codes ": " ++ both_texts (alone_text d s.items) (nearly_text s.nearly)))

abbrev pub slips_block : DocumentValue → List SlipValue → List ℕ
slips_block d [] = []
slips_block d (s ∷ ss) = codes "\nperhaps a slip\n" ++ flat_map (slip_line d) (s ∷ ss)

-- they are shown where all is asked
abbrev pub slips_text : DocumentValue → Scope → List ℕ
slips_text d scope = if is_all scope then slips_block d (slips_of d) else []

-- ---- the end

abbrev pub verdict_text : ReportVerdict → List ℕ
verdict_text verdicts.AsWished = codes "as wished"
verdict_text verdicts.NotAsWished = codes "not as wished"
verdict_text verdicts.Undecided = codes "undecided"

abbrev pub met_line : Tally → List ℕ
met_line t = inner (codes "met together: " ++ of_all t.good t.all)

-- a question that was not asked is not counted
abbrev pub count_line : List ℕ → Tally → List ℕ
count_line words t = if t.all == 0 then [] else inner (words ++ (codes ": " ++ of_all t.good t.all))

abbrev pub later_counts : Counts → List ℕ
later_counts c = count_line (codes "possible") c.possible ++ (count_line (codes "follows") c.follows ++ count_line (codes "keeps all") c.keeps)

abbrev pub count_lines : Counts → List ℕ
count_lines c = met_line c.met ++ (count_line (codes "triggered") c.triggered ++ (count_line (codes "says something new") c.new ++ later_counts c))

abbrev pub ending : ReportVerdict → Counts → List ℕ
ending v c = codes "\n" ++ (verdict_text v ++ (codes "\n" ++ count_lines c))

-- the items that are set aside, which are none where there is no conflict
abbrev pub set_aside : DocumentValue → Report → List Member
set_aside d r = if length r.conflicts.items == 0 then [] else aside d r.left.items

-- the blocks of all answers
abbrev pub answers_text : DocumentValue → Report → Scope → ℕ → Counts → List ℕ
answers_text d r scope steps counts =
    conflict_blocks d r.cores.items 0 r.conflicts.items
    ++ (together_block d steps (length r.left.items) counts.met.all (set_aside d r) r.together
    ++ (flat_map (reply_block d scope steps) r.replies.items
    ++ flat_map (check_block d) r.checks.items))

-- and the whole text, where these are the counts
abbrev pub text_of : DocumentValue → Report → Scope → ℕ → Counts → List ℕ
text_of d r scope steps counts = answers_text d r scope steps counts ++ (slips_text d scope ++ ending (verdict r) counts)

-- the text of a report: there is one, since a report has one list of counts
abbrev pub IsText : DocumentValue → Report → Scope → ℕ → List ℕ → Type 0
IsText d r scope steps text = (counts : Counts) × AreCounts d r counts × (text ≡ text_of d r scope steps counts)
