-- A page has no marks but its own, since each of its pieces has none.
use Rattle.std.proofs.Common.{◌≡◌, ℕ, ◌+◌, ◌-◌, ◌*◌, Bool, true, false, List, [], ◌∷◌, ◌++◌, length, slice_get, codes, Option, Some, None, refl, sym, ◌∙◌}
use Rattle.std.proofs.Common.{subst, append_assoc, nat_le, ◌==◌}
use Rattle.std.specs.Global.{Box}
use Rattle.std.specs.Prelude.{slice_index_or}
use Rattle.ltl_syntax.specs.declared.node.UnaryOp.TheVariants.{Always}
use Rattle.ltl_syntax.specs.declared.node.BinaryOp.TheVariants.{Implies}
use Rattle.ltl_syntax.specs.Formula.{Formula, Const, Letter, Unary, Binary}
use Rattle.ltl_word.specs.declared.trace.Trace.{Trace}
use Rattle.trace_view.specs.Grid.{RowValue, GridValue, cells_for}
use Rattle.trace_view.specs.Names.{shown, widest}
use Rattle.trace_view.specs.Diagram as drawing
use Rattle.requirement_document.specs.declared.document.Role.{Role}
use Rattle.requirement_document.specs.declared.document.Role.TheVariants as roles
use Rattle.requirement_document.specs.Values.{ItemValue, BehaviourValue, DocumentValue}
use Rattle.requirement_questions.specs.declared.members.Member.{Member}
use Rattle.requirement_questions.specs.declared.leaving.Because.{Because}
use Rattle.requirement_questions.specs.declared.parting.Core.{Core}
use Rattle.requirement_questions.specs.declared.answering.QuestionAnswer.{QuestionAnswer}
use Rattle.requirement_questions.specs.declared.answering.QuestionAnswer.TheVariants as kinds
use Rattle.requirement_answers.specs.declared.asking.Asking.{Asking}
use Rattle.requirement_answers.specs.declared.asking.Asking.TheVariants as askings
use Rattle.requirement_answers.specs.declared.asking.Reply.{Reply}
use Rattle.requirement_answers.specs.declared.findings.Break.{Break}
use Rattle.requirement_answers.specs.declared.findings.Check.{Check}
use Rattle.requirement_answers.specs.declared.findings.Report.{Report}
use Rattle.requirement_answers.specs.declared.findings.Scope.{Scope}
use Rattle.requirement_answers.specs.declared.judging.ReportVerdict.{ReportVerdict}
use Rattle.requirement_answers.specs.declared.judging.ReportVerdict.TheVariants as verdicts
use Rattle.requirement_answers.specs.declared.counting.Tally.{Tally}
use Rattle.requirement_answers.specs.declared.counting.Counts.{Counts}
use Rattle.requirement_answers.specs.Verdicts.{verdict}
use Rattle.requirement_report.specs.Flat.{flat}
use Rattle.requirement_report.specs.Lines.{of_all, first_lines, lines_in}
use Rattle.requirement_report.specs.Parts.{part_of, core_at}
use Rattle.requirement_report.specs.Pictures.{letters_in, grid_of}
use Rattle.requirement_report.specs.Slips.{SlipValue, slips_of}
use Rattle.requirement_report.specs.Subjects.{name_of, sentence_of, written_of, behaviour_name, behaviour_sentence, perhaps}
use Rattle.requirement_report.specs.Text.{question_words, can_word, cannot_word, word_of, item_asked, is_all, is_hidden, bare, keeps_word, nevers_of}
use Rattle.requirement_report.specs.Text.{verdict_text, set_aside}
use Rattle.requirement_page.specs.Marks.{turned, said, code, paragraph, paragraph_if, link, item_link, behaviour_link, badge, begun, ended}
use Rattle.requirement_page.specs.Style.{style}
use Rattle.requirement_page.specs.Pictures.{picture}
use Rattle.requirement_page.specs.Reasons.{described, member_link, behind_comma, member_links, because_of, without, claim_begins, claim_byte, left_behind}
use Rattle.requirement_page.specs.Reasons.{claims_from, more, claims, matters, member_described, members_described, conflict_article}
use Rattle.requirement_page.specs.Answers.{can_sort, cannot_sort, sort_of, undecided, tried, large, answered, together_article, reply_article}
use Rattle.requirement_page.specs.Checks.{keeps_sort, asked, asked_in, broken_item, behaviour_picture, check_article}
use Rattle.requirement_page.specs.Places.{next_number, together_number, first_reply, first_check}
use Rattle.requirement_page.specs.Slips.{alone, suspected, slip_item, slip_list, slips_part}
use Rattle.requirement_page.specs.Items.{linked_note, conflict_notes, answer_note, reply_notes, check_notes, notes, item_notes, behaviour_notes, item_begun}
use Rattle.requirement_page.specs.Items.{role_word, role_in, item_article, behaviour_article, all_items}
use Rattle.requirement_page.specs.Counts.{row, row_if, table}
use Rattle.requirement_page.specs.Laws.{HasOnlyMarks}
use Rattle.requirement_page.specs.Page.{verdict_sort, declared, titled, styled, judged, head, conflict_articles, reply_articles, check_articles}
use Rattle.requirement_page.specs.Page.{answer_articles, page_of, IsPage}
use Rattle.requirement_page.proofs.Harmless.{Tame, Drawn, drawn, go_on, has_only_marks, join, word, nothing, each, each_below, either, behind_byte}
use Rattle.requirement_page.proofs.Harmless.{decimal_tame, number, escaped_byte_tame, escaped_tame}

-- ---- pictures

sheet_tame : (w h : ℕ) → Tame (drawing.sheet w h)
sheet_tame w h = join (join (number (codes "<rect class='paper' width='") refl w) (number (codes "' height='") refl h)) (word (codes "'/>\n") refl)

band_tame : (names lanes states start : ℕ) → Tame (drawing.band names lanes states start)
band_tame names lanes states start =
    join (join (join (number (codes "<rect class='loop' x='") refl (drawing.x_of names start)) (number (codes "' y='36' width='") refl (40 *
    (states - start))))
    (number (codes "' height='") refl (8 + 36 * lanes))) (word (codes "'/>\n") refl)

edge_tame : (names lanes i : ℕ) → Tame (drawing.edge names lanes i)
edge_tame names lanes i = join (number (codes "M") refl (drawing.x_of names i)) (number (codes " 36V") refl (drawing.bottom lanes))

edges_tame : (names lanes states : ℕ) → Tame (drawing.edges names lanes states)
edges_tame names lanes states =
    join (join (join (word (codes "<path class='edge' d='") refl) (each_below states (drawing.edge names lanes) (edge_tame names lanes)))
    (edge_tame names lanes states))
    (word (codes "'/>\n") refl)

numeral_tame : (names i : ℕ) → Tame (drawing.numeral names i)
numeral_tame names i =
    join (join (number (codes "<text class='number' x='") refl (drawing.x_of names i + 20)) (number (codes "' y='30'>") refl i)) (word
    (codes "</text>\n") refl)

stroke_tame : (names lane : ℕ) (r : RowValue) (i : ℕ) → Tame (drawing.stroke names lane r i)
stroke_tame names lane r i =
    join (number (codes "V") refl (drawing.level lane (slice_index_or r.cells i false))) (number (codes "H") refl (drawing.x_of names (i + 1)))

wave_tame : (names states lane : ℕ) (r : RowValue) → Tame (drawing.wave names states lane r)
wave_tame names states lane r =
    join (join (join (join (number (codes "<path class='lane' d='M") refl (drawing.x_of names 0)) (number (codes " ") refl (drawing.level lane false)))
    (each_below states (drawing.stroke names lane r) (stroke_tame names lane r))) (number (codes "V") refl (drawing.level lane false))) (word
    (codes "'/>\n") refl)

title_tame : (lane : ℕ) (r : RowValue) → Tame (drawing.title lane r)
title_tame lane r =
    join (join (join (number (codes "<text class='name' x='12' y='") refl (63 + 36 * lane)) (word (codes "'>") refl)) (escaped_tame (shown r.name)))
    (word (codes "</text>\n") refl)

lanes_tame : (names states lane : ℕ) (rs : List RowValue) → Tame (drawing.lanes_from names states lane rs)
lanes_tame names states lane [] = nothing
lanes_tame names states lane (r ∷ rs) = join (join (title_tame lane r) (wave_tame names states lane r)) (lanes_tame names states (lane + 1) rs)

arrow_tame : (names lanes states start : ℕ) → Tame (drawing.arrow names lanes states start)
arrow_tame names lanes states start =
    join (join (join (join (join (number (codes "<path class='back' d='M") refl (drawing.x_of names (states - 1) + 28)) (number (codes " ") refl
    (drawing.bottom lanes)))
    (number (codes "V") refl (drawing.bottom lanes + 20))) (number (codes "H") refl (drawing.x_of names start + 12))) (number (codes "V") refl
    (drawing.bottom lanes + 4)))
    (word (codes "'/>\n") refl)

head_tame : (names lanes start : ℕ) → Tame (drawing.head names lanes start)
head_tame names lanes start =
    join (join (number (codes "<path class='head' d='M") refl (drawing.x_of names start + 12)) (number (codes " ") refl (drawing.bottom lanes))) (word
    (codes "l5 9h-10Z'/>\n") refl)

band_of_tame : (names lanes states : ℕ) (at : Option ℕ) → Tame (drawing.band_of names lanes states at)
band_of_tame names lanes states None = nothing
band_of_tame names lanes states (Some start) = band_tame names lanes states start

arrow_of_tame : (names lanes states : ℕ) (at : Option ℕ) → Tame (drawing.arrow_of names lanes states at)
arrow_of_tame names lanes states None = nothing
arrow_of_tame names lanes states (Some start) = join (arrow_tame names lanes states start) (head_tame names lanes start)

opening_drawn : (width height : ℕ) → Drawn (drawing.opening width height)
opening_drawn width height =
    let first = drawn (codes "<?xml version='1.0' encoding='UTF-8'?>\n<svg xmlns='http://www.w3.org/2000/svg' version='1.1' width='") refl
    (record { is = refl }) in
    go_on (go_on (go_on (go_on (go_on (go_on first (decimal_tame width)) (number (codes "' height='") refl height)) (number
    (codes "' viewBox='0 0 ") refl width))
    (number (codes " ") refl height)) (word (codes "'>\n<title>A trace</title>\n") refl)) (word drawing.style refl)

picture_drawn : (names lanes : ℕ) (g : GridValue) → Drawn (drawing.picture names lanes g)
picture_drawn names lanes g =
    let w = drawing.x_of names g.states + 16 in
    let h = drawing.bottom lanes + 36 in
    go_on (go_on (go_on (go_on (go_on (go_on (go_on (opening_drawn w h) (sheet_tame w h)) (band_of_tame names lanes g.states g.loop_at))
    (edges_tame names lanes g.states))
    (each_below g.states (drawing.numeral names) (numeral_tame names))) (lanes_tame names g.states 0 g.rows)) (arrow_of_tame names lanes g.states g.loop_at))
    (word (codes "</svg>\n") refl)

-- ---- pieces

turned_tame : (line : List ℕ) → Tame (turned line)
turned_tame line = join (word (codes "<bdi>") refl) (join (escaped_tame line) (word (codes "</bdi>") refl))

said_tame : (text : List ℕ) → Tame (said text)
said_tame text = turned_tame (flat text)

code_tame : (line : List ℕ) → Tame (code line)
code_tame line = join (word (codes "<code>") refl) (join (turned_tame line) (word (codes "</code>") refl))

paragraph_tame : (content : List ℕ) → Tame content → Tame (paragraph content)
paragraph_tame content t = join (word (codes "<p>") refl) (join t (word (codes "</p>\n") refl))

paragraph_if_tame : (line : List ℕ) → Tame (paragraph_if line)
paragraph_if_tame [] = nothing
paragraph_if_tame (b ∷ bs) = paragraph_tame (turned (b ∷ bs)) (turned_tame (b ∷ bs))

link_tame : (n : ℕ) (name : List ℕ) → Tame (link n name)
link_tame n name = join (number (codes "<a href=\"#item-") refl n) (join (word (codes "\">") refl) (join (said_tame name) (word (codes "</a>") refl)))

item_link_tame : (d : DocumentValue) (n : ℕ) → Tame (item_link d n)
item_link_tame d n = link_tame (n + 1) (name_of d n)

behaviour_link_tame : (d : DocumentValue) (n : ℕ) → Tame (behaviour_link d n)
behaviour_link_tame d n = link_tame (length d.items + n + 1) (behaviour_name d n)

badge_tame : (sort text : List ℕ) → Tame sort → Tame text → Tame (badge sort text)
badge_tame sort text s t = join (word (codes "<span class=\"word ") refl) (join s (join (word (codes "\">") refl) (join t (word (codes "</span>") refl))))

begun_tame : (sort : List ℕ) (n : ℕ) (text subject : List ℕ) → Tame sort → Tame text → Tame subject → Tame (begun sort n text subject)
begun_tame sort n text subject s t u =
    join (join (word (codes "<article class=\"") refl) (join s (join (number (codes "\" id=\"answer-") refl n) (word (codes "\">\n") refl))))
    (join (word (codes "<h3>") refl) (join (badge_tame sort text s t) (join (word (codes " ") refl) (join u (word (codes "</h3>\n") refl)))))

ended_tame : Tame ended
ended_tame = word (codes "</article>\n") refl

of_all_tame : (good all : ℕ) → Tame (of_all good all)
of_all_tame good all = join (decimal_tame good) (number (codes " of ") refl all)

-- ---- reasons

described_tame : (d : DocumentValue) (n : ℕ) → Tame (described d n)
described_tame d n = join (paragraph_if_tame (flat (sentence_of d n))) (paragraph_tame (code (flat (written_of d n))) (code_tame (flat (written_of d n))))

perhaps_tame : (needed : Bool) → Tame (perhaps needed)
perhaps_tame true = nothing
perhaps_tame false = word (codes " (perhaps)") refl

member_link_tame : (d : DocumentValue) (m : Member) → Tame (member_link d m)
member_link_tame d m = join (item_link_tame d m.given) (perhaps_tame m.needed)

behind_comma_tame : (d : DocumentValue) (m : Member) → Tame (behind_comma d m)
behind_comma_tame d m = join (word (codes ", ") refl) (member_link_tame d m)

member_links_tame : (d : DocumentValue) (ms : List Member) → Tame (member_links d ms)
member_links_tame d [] = nothing
member_links_tame d (m ∷ ms) = join (member_link_tame d m) (each (behind_comma d) (behind_comma_tame d) ms)

because_of_tame : (d : DocumentValue) (ms : List Member) → Tame (because_of d ms)
because_of_tame d [] = paragraph_tame (codes "by itself") (word (codes "by itself") refl)
because_of_tame d (m ∷ ms) = paragraph_tame _ (join (word (codes "because of: ") refl) (member_links_tame d (m ∷ ms)))

without_tame : (d : DocumentValue) (ms : List Member) → Tame (without d ms)
without_tame d [] = nothing
without_tame d (m ∷ ms) = paragraph_tame _ (join (word (codes "without: ") refl) (member_links_tame d (m ∷ ms)))

claim_begins_tame : (left : ℕ) → Tame (claim_begins left)
claim_begins_tame left = either (left == 1) (codes "<p>never <code><bdi>") [] (word (codes "<p>never <code><bdi>") refl) nothing

claim_byte_tame : (left b : ℕ) → Tame (claim_byte left b)
claim_byte_tame left b =
    either (b == 10) (codes "</bdi></code></p>\n") _ (word (codes "</bdi></code></p>\n") refl)
    (either (left == 0) _ _ (escaped_byte_tame b) (claim_begins_tame left))

claims_from_tame : (left : ℕ) (text : List ℕ) → Tame (claims_from left text)
claims_from_tame left [] = nothing
claims_from_tame left (b ∷ bs) = join (claim_byte_tame left b) (claims_from_tame (left_behind left b) bs)

more_tame : (count : ℕ) → Tame (more count)
more_tame count = either (nat_le count 12) [] _ nothing (paragraph_tame _ (join (number (codes "and ") refl (count - 12)) (word (codes " more") refl)))

claims_tame : (text : List ℕ) → Tame (claims text)
claims_tame [] = paragraph_tame (codes "no first state meets them") (word (codes "no first state meets them") refl)
claims_tame (b ∷ bs) = join (claims_from_tame 6 (first_lines 12 (b ∷ bs))) (more_tame (lines_in (b ∷ bs)))

matters_tame : (part : Option (List ℕ)) → Tame (matters part)
matters_tame None = nothing
matters_tame (Some part) = paragraph_tame _ (join (word (codes "matters: ") refl) (code_tame part))

member_described_tame : (d : DocumentValue) (part : Option (List ℕ)) (m : Member) → Tame (member_described d part m)
member_described_tame d part m =
    join (word (codes "<p><strong>") refl)
    (join (item_link_tame d m.given) (join (word (codes "</strong></p>\n") refl) (join (described_tame d m.given) (matters_tame part))))

members_described_tame : (d : DocumentValue) (core : Option Core) (k : ℕ) (ms : List Member) → Tame (members_described d core k ms)
members_described_tame d core k [] = nothing
members_described_tame d core k (m ∷ ms) = join (member_described_tame d (part_of core k) m) (members_described_tame d core (k + 1) ms)

conflict_tame : (d : DocumentValue) (n : ℕ) (core : Option Core) (b : Because) → Tame (conflict_article d n core b)
conflict_tame d n core b =
    join (begun_tame (codes "bad") n (codes "conflict") (member_links d b.members.items) (word (codes "bad") refl) (word (codes "conflict") refl)
    (member_links_tame d b.members.items))
    (join (members_described_tame d core 0 b.members.items) (join (claims_tame (nevers_of b)) ended_tame))

-- ---- answers

picture_tame : (t : Trace) → Tame (picture t)
unfolding picture
picture_tame t =
    let g = grid_of t (letters_in t) in
    either (nat_le (cells_for t (letters_in t)) 16777216) _ _
    (join (word (codes "<div class=\"picture\">\n") refl) (join (picture_drawn (widest g.rows) (length g.rows) g).behind (word (codes "</div>\n") refl)))
    (paragraph_tame (codes "limit cells 16777216") (word (codes "limit cells 16777216") refl))

can_sort_tame : (a : Asking) → Tame (can_sort a)
can_sort_tame (askings.Follows n) = word (codes "bad") refl
can_sort_tame other = word (codes "good") refl

cannot_sort_tame : (a : Asking) → Tame (cannot_sort a)
cannot_sort_tame askings.Together = word (codes "bad") refl
cannot_sort_tame (askings.Triggered n) = word (codes "remark") refl
cannot_sort_tame (askings.New n) = word (codes "remark") refl
cannot_sort_tame (askings.Possible n) = word (codes "bad") refl
cannot_sort_tame (askings.Follows n) = word (codes "good") refl

can_word_tame : (a : Asking) → Tame (can_word a)
can_word_tame askings.Together = word (codes "consistent") refl
can_word_tame (askings.Triggered n) = word (codes "triggered") refl
can_word_tame (askings.New n) = word (codes "new") refl
can_word_tame (askings.Possible n) = word (codes "possible") refl
can_word_tame (askings.Follows n) = word (codes "fails") refl

cannot_word_tame : (a : Asking) → Tame (cannot_word a)
cannot_word_tame askings.Together = word (codes "conflict") refl
cannot_word_tame (askings.Triggered n) = word (codes "never triggered") refl
cannot_word_tame (askings.New n) = word (codes "follows from the others") refl
cannot_word_tame (askings.Possible n) = word (codes "impossible") refl
cannot_word_tame (askings.Follows n) = word (codes "follows") refl

sort_tame : (a : Asking) (x : QuestionAnswer) → Tame (sort_of a x)
sort_tame a (kinds.Can t) = can_sort_tame a
sort_tame a (kinds.Cannot b) = cannot_sort_tame a
sort_tame a kinds.Undecided = word (codes "open") refl
sort_tame a (kinds.TooLarge size) = word (codes "open") refl

word_tame : (a : Asking) (x : QuestionAnswer) → Tame (word_of a x)
word_tame a (kinds.Can t) = can_word_tame a
word_tame a (kinds.Cannot b) = cannot_word_tame a
word_tame a kinds.Undecided = word (codes "undecided") refl
word_tame a (kinds.TooLarge size) = word (codes "undecided") refl

question_tame : (a : Asking) → Tame (question_words a)
question_tame askings.Together = word (codes "can all of them be met together?") refl
question_tame (askings.Triggered n) = word (codes "is it ever triggered?") refl
question_tame (askings.New n) = word (codes "does it say anything new?") refl
question_tame (askings.Possible n) = word (codes "may it happen?") refl
question_tame (askings.Follows n) = word (codes "does it follow?") refl

undecided_tame : (a : Asking) (why : List ℕ) → Tame why → Tame (undecided a why)
undecided_tame a why t = join (paragraph_tame (question_words a) (question_tame a)) (paragraph_tame why t)

answered_tame : (d : DocumentValue) (steps : ℕ) (a : Asking) (x : QuestionAnswer) → Tame (answered d steps a x)
answered_tame d steps a (kinds.Can t) = picture_tame t
answered_tame d steps a (kinds.Cannot b) = because_of_tame d b.value.members.items
answered_tame d steps a kinds.Undecided = undecided_tame a (tried steps) (join (number (codes "tried: ") refl steps) (word (codes " steps") refl))
answered_tame d steps a (kinds.TooLarge size) = undecided_tame a (large size) (number (codes "limit nodes 16384 have ") refl size)

together_tame : (d : DocumentValue) (steps n left all : ℕ) (aside : List Member) (x : QuestionAnswer) → Tame (together_article d steps n left all aside x)
together_tame d steps n left all aside x =
    join (begun_tame (sort_of askings.Together x) n (word_of askings.Together x) (of_all left all) (sort_tame askings.Together x)
    (word_tame askings.Together x) (of_all_tame left all))
    (join (without_tame d aside) (join (answered_tame d steps askings.Together x) ended_tame))

reply_tame : (d : DocumentValue) (steps n : ℕ) (r : Reply) → Tame (reply_article d steps n r)
reply_tame d steps n r =
    let item = item_asked r.asking in
    join (begun_tame (sort_of r.asking r.answer) n (word_of r.asking r.answer) (item_link d item) (sort_tame r.asking r.answer)
    (word_tame r.asking r.answer) (item_link_tame d item))
    (join (described_tame d item) (join (answered_tame d steps r.asking r.answer) ended_tame))

-- ---- behaviours

keeps_sort_tame : (bs : List Break) → Tame (keeps_sort bs)
keeps_sort_tame [] = word (codes "good") refl
keeps_sort_tame (b ∷ bs) = word (codes "bad") refl

keeps_word_tame : (bs : List Break) → Tame (keeps_word bs)
keeps_word_tame [] = word (codes "keeps") refl
keeps_word_tame (b ∷ bs) = word (codes "breaks") refl

implied_tame : (a b : Formula) → Tame (asked (Unary Always (Binary Implies a b)))
implied_tame a b =
    join (paragraph_tame _ (join (word (codes "asked: ") refl) (code_tame (bare a)))) (paragraph_tame _ (join (word (codes "not answered: ") refl)
    (code_tame (bare b))))

-- what is said of a formula of another form is nothing
asked_tame : (f : Formula) → Tame (asked f)
asked_tame (Const b) = nothing
asked_tame (Letter p) = nothing
asked_tame (Binary op a b) = nothing
asked_tame (Unary Always (Const b)) = nothing
asked_tame (Unary Always (Letter p)) = nothing
asked_tame (Unary Always (Unary op a)) = nothing
asked_tame (Unary Always (Binary Implies a b)) = implied_tame a b
asked_tame (Unary Always (Binary op a b)) = nothing
asked_tame (Unary op f) = nothing

asked_in_tame : (i : Option ItemValue) → Tame (asked_in i)
asked_in_tame None = nothing
asked_in_tame (Some i) = asked_tame i.formula

broken_tame : (d : DocumentValue) (b : Break) → Tame (broken_item d b)
broken_tame d b =
    join (paragraph_tame _ (join (item_link_tame d b.item) (number (codes " at ") refl b.position))) (asked_in_tame (slice_get d.items b.item))

behaviour_picture_tame : (b : Option BehaviourValue) → Tame (behaviour_picture b)
behaviour_picture_tame None = nothing
behaviour_picture_tame (Some b) = picture_tame b.trace

check_tame : (d : DocumentValue) (n : ℕ) (c : Check) → Tame (check_article d n c)
check_tame d n c =
    let bs = c.breaks.items in
    join (begun_tame (keeps_sort bs) n (keeps_word bs) (behaviour_link d c.behaviour) (keeps_sort_tame bs) (keeps_word_tame bs) (behaviour_link_tame d
    c.behaviour))
    (join (paragraph_if_tame (flat (behaviour_sentence d c.behaviour)))
    (join (each (broken_item d) (broken_tame d) bs) (join (behaviour_picture_tame (slice_get d.behaviours c.behaviour)) ended_tame)))

-- ---- slips

alone_tame : (d : DocumentValue) (items behind : List ℕ) → Tame behind → Tame (alone d items behind)
alone_tame d [] behind t = nothing
alone_tame d (n ∷ []) behind t = join (word (codes "in ") refl) (join (item_link_tame d n) (join (word (codes " alone") refl) t))
alone_tame d (n ∷ m ∷ ms) behind t = nothing

suspected_tame : (d : DocumentValue) (items : List ℕ) (nearly : Option (List ℕ)) → Tame (suspected d items nearly)
suspected_tame d items None = alone_tame d items [] nothing
suspected_tame d items (Some other) =
    join (alone_tame d items (codes "; ") (word (codes "; ") refl)) (join (word (codes "nearly ") refl) (code_tame (flat other)))

slip_tame : (d : DocumentValue) (s : SlipValue) → Tame (slip_item d s)
slip_tame d s =
    join (word (codes "<li>") refl)
    (join (code_tame (flat s.letter)) (join (word (codes ": ") refl) (join (suspected_tame d s.items s.nearly) (word (codes "</li>\n") refl))))

slip_list_tame : (d : DocumentValue) (ss : List SlipValue) → Tame (slip_list d ss)
slip_list_tame d [] = nothing
slip_list_tame d (s ∷ ss) =
    join (word (codes "<h2>Perhaps a slip</h2>\n<ul>\n") refl) (join (each (slip_item d) (slip_tame d) (s ∷ ss)) (word (codes "</ul>\n") refl))

slips_tame : (d : DocumentValue) (scope : Scope) → Tame (slips_part d scope)
slips_tame d scope = either (is_all scope) (slip_list d (slips_of d)) [] (slip_list_tame d (slips_of d)) nothing

-- ---- items

linked_tame : (n : ℕ) (text : List ℕ) → Tame text → Tame (linked_note n text)
linked_tame n text t =
    join (word (codes ", ") refl) (join (number (codes "<a href=\"#answer-") refl n) (join (word (codes "\">") refl) (join t (word (codes "</a>") refl))))

conflict_notes_tame : (n first : ℕ) (bs : List (Box Because)) → Tame (conflict_notes n first bs)
conflict_notes_tame n first [] = nothing
conflict_notes_tame n first (b ∷ bs) =
    join (either _ (linked_note first (codes "conflict")) [] (linked_tame first (codes "conflict") (word (codes "conflict") refl)) nothing)
    (conflict_notes_tame n (first + 1) bs)

answer_note_tame : (scope : Scope) (n : ℕ) (r : Reply) → Tame (answer_note scope n r)
answer_note_tame scope n r =
    let t = word_tame r.asking r.answer in
    either (is_hidden scope r.asking r.answer) _ (linked_note n (word_of r.asking r.answer)) (join (word (codes ", ") refl) t) (linked_tame n
    (word_of r.asking r.answer) t)

reply_notes_tame : (scope : Scope) (n first : ℕ) (rs : List Reply) → Tame (reply_notes scope n first rs)
reply_notes_tame scope n first [] = nothing
reply_notes_tame scope n first (r ∷ rs) =
    join (either (item_asked r.asking == n) (answer_note scope first r) [] (answer_note_tame scope first r) nothing) (reply_notes_tame scope n
    (next_number scope first r) rs)

check_notes_tame : (n first : ℕ) (cs : List Check) → Tame (check_notes n first cs)
check_notes_tame n first [] = nothing
check_notes_tame n first (c ∷ cs) =
    join (either (c.behaviour == n) (linked_note first (keeps_word c.breaks.items)) [] (linked_tame first (keeps_word c.breaks.items) (keeps_word_tame
    c.breaks.items)) nothing)
    (check_notes_tame n (first + 1) cs)

notes_tame : (line : List ℕ) → Tame line → Tame (notes line)
notes_tame [] t = nothing
notes_tame (a ∷ []) t = nothing
notes_tame (a ∷ b ∷ rest) t = paragraph_tame rest (behind_byte b rest (behind_byte a (b ∷ rest) t))

item_begun_tame : (n : ℕ) (role name : List ℕ) → Tame role → Tame (item_begun n role name)
item_begun_tame n role name t =
    join (number (codes "<article id=\"item-") refl n)
    (join (word (codes "\">\n<h3>") refl) (join t (join (word (codes " ") refl) (join (said_tame name) (word (codes "</h3>\n") refl)))))

role_tame : (role : Role) → Tame (role_word role)
role_tame roles.Assume = word (codes "assume") refl
role_tame roles.Require = word (codes "require") refl
role_tame roles.Allow = word (codes "allow") refl
role_tame roles.Ensure = word (codes "ensure") refl

role_in_tame : (i : Option ItemValue) → Tame (role_in i)
role_in_tame None = nothing
role_in_tame (Some i) = role_tame i.role

item_notes_tame : (scope : Scope) (r : Report) (n : ℕ) → Tame (item_notes scope r n)
item_notes_tame scope r n = join (conflict_notes_tame n 1 r.conflicts.items) (reply_notes_tame scope n (first_reply r) r.replies.items)

item_tame : (d : DocumentValue) (scope : Scope) (r : Report) (n : ℕ) → Tame (item_article d scope r n)
item_tame d scope r n =
    join (item_begun_tame (n + 1) (role_in (slice_get d.items n)) (name_of d n) (role_in_tame (slice_get d.items n)))
    (join (described_tame d n) (join (notes_tame (item_notes scope r n) (item_notes_tame scope r n)) ended_tame))

behaviour_tame : (d : DocumentValue) (scope : Scope) (r : Report) (n : ℕ) → Tame (behaviour_article d scope r n)
behaviour_tame d scope r n =
    join (item_begun_tame (length d.items + n + 1) (codes "behaviour") (behaviour_name d n) (word (codes "behaviour") refl))
    (join (paragraph_if_tame (flat (behaviour_sentence d n)))
    (join (notes_tame (behaviour_notes scope r n) (check_notes_tame n (first_check scope r) r.checks.items)) ended_tame))

all_items_tame : (d : DocumentValue) (scope : Scope) (r : Report) → Tame (all_items d scope r)
all_items_tame d scope r =
    join (word (codes "<h2>Items</h2>\n") refl)
    (join (each_below (length d.items) (item_article d scope r) (item_tame d scope r)) (each_below (length d.behaviours) (behaviour_article d scope r)
    (behaviour_tame d scope r)))

-- ---- the whole page

row_tame : (text : List ℕ) (t : Tally) → Tame text → Tame (row text t)
row_tame text t h =
    join (word (codes "<tr><td>") refl) (join h (join (word (codes "</td><td>") refl) (join (of_all_tame t.good t.all) (word (codes "</td></tr>\n") refl))))

row_if_tame : (text : List ℕ) (t : Tally) → Tame text → Tame (row_if text t)
row_if_tame text t h = either (t.all == 0) [] (row text t) nothing (row_tame text t h)

table_tame : (c : Counts) → Tame (table c)
table_tame c =
    join (word (codes "<table class=\"counts\">\n") refl)
    (join (join (row_tame (codes "met together") c.met (word (codes "met together") refl))
    (join (row_if_tame (codes "triggered") c.triggered (word (codes "triggered") refl))
    (join (row_if_tame (codes "says something new") c.new (word (codes "says something new") refl))
    (join (row_if_tame (codes "possible") c.possible (word (codes "possible") refl))
    (join (row_if_tame (codes "follows") c.follows (word (codes "follows") refl)) (row_if_tame (codes "keeps all") c.keeps (word
    (codes "keeps all") refl)))))))
    (word (codes "</table>\n") refl))

verdict_tame : (v : ReportVerdict) → Tame (verdict_text v)
verdict_tame verdicts.AsWished = word (codes "as wished") refl
verdict_tame verdicts.NotAsWished = word (codes "not as wished") refl
verdict_tame verdicts.Undecided = word (codes "undecided") refl

verdict_sort_tame : (v : ReportVerdict) → Tame (verdict_sort v)
verdict_sort_tame verdicts.AsWished = word (codes "good") refl
verdict_sort_tame verdicts.NotAsWished = word (codes "bad") refl
verdict_sort_tame verdicts.Undecided = word (codes "open") refl

head_of_tame : (v : ReportVerdict) → Tame (head v)
head_of_tame v =
    join (word declared refl)
    (join (join (word (codes "<title>Requirements: ") refl) (join (verdict_tame v) (word (codes "</title>\n") refl)))
    (join (join (word (codes "<style>") refl) (join (word style refl) (word (codes "</style>\n</head>\n<body>\n") refl)))
    (join (word (codes "<h1>Requirements: ") refl) (join (badge_tame (verdict_sort v) (verdict_text v) (verdict_sort_tame v) (verdict_tame v)) (word
    (codes "</h1>\n") refl)))))

conflicts_tame : (d : DocumentValue) (cores : List (Option (Box Core))) (k : ℕ) (bs : List (Box Because)) → Tame (conflict_articles d cores k bs)
conflicts_tame d cores k [] = nothing
conflicts_tame d cores k (b ∷ bs) = join (conflict_tame d (k + 1) (core_at cores k) b.value) (conflicts_tame d cores (k + 1) bs)

replies_tame : (d : DocumentValue) (scope : Scope) (steps n : ℕ) (rs : List Reply) → Tame (reply_articles d scope steps n rs)
replies_tame d scope steps n [] = nothing
replies_tame d scope steps n (r ∷ rs) =
    join (either (is_hidden scope r.asking r.answer) [] (reply_article d steps n r) nothing (reply_tame d steps n r)) (replies_tame d scope steps
    (next_number scope n r) rs)

checks_tame : (d : DocumentValue) (n : ℕ) (cs : List Check) → Tame (check_articles d n cs)
checks_tame d n [] = nothing
checks_tame d n (c ∷ cs) = join (check_tame d n c) (checks_tame d (n + 1) cs)

answers_tame : (d : DocumentValue) (r : Report) (scope : Scope) (steps : ℕ) (counts : Counts) → Tame (answer_articles d r scope steps counts)
answers_tame d r scope steps counts =
    join (word (codes "<h2>Answers</h2>\n") refl)
    (join (conflicts_tame d r.cores.items 0 r.conflicts.items)
    (join (together_tame d steps (together_number r) (length r.left.items) counts.met.all (set_aside d r) r.together)
    (join (replies_tame d scope steps (first_reply r) r.replies.items) (checks_tame d (first_check scope r) r.checks.items))))

pub page_tame : (d : DocumentValue) (r : Report) (scope : Scope) (steps : ℕ) (counts : Counts) → Tame (page_of d r scope steps counts)
page_tame d r scope steps counts =
    join (head_of_tame (verdict r))
    (join (table_tame counts)
    (join (answers_tame d r scope steps counts)
    (join (slips_tame d scope) (join (all_items_tame d scope r) (word (codes "</body>\n</html>\n") refl)))))

pub page_marked : (d : DocumentValue) (r : Report) (scope : Scope) (steps : ℕ) (text : List ℕ) → IsPage d r scope steps text → HasOnlyMarks text
page_marked d r scope steps text p = has_only_marks text (subst Tame (sym p.2) (page_tame d r scope steps p.0))

pub page_guarded : (d : DocumentValue) (r : Report) (scope : Scope) (steps : ℕ) (text : List ℕ) → IsPage d r scope steps text → (rest : List ℕ) × (text
    ≡ declared ++ rest)
page_guarded d r scope steps text p =
    let first = titled (verdict r) ++ (styled ++ judged (verdict r)) in
    let behind = table p.0 ++ (answer_articles d r scope steps p.0 ++ (slips_part d scope ++ (all_items d scope r ++ codes "</body>\n</html>\n"))) in
    (first ++ behind, p.2 ∙ append_assoc declared first behind)
