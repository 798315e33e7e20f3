-- What is said of an item, and of items that cannot be met together.
use Rattle.std.specs.Prelude.{ℕ, ◌+◌, ◌-◌, ◌==◌, nat_le, if◌then◌else◌, List, [], ◌∷◌, ◌++◌, codes, Option, Some, None}
use Rattle.std.specs.List.{flat_map}
use Rattle.trace_view.specs.Diagram.{escaped_byte}
use Rattle.requirement_document.specs.Values.{DocumentValue}
use Rattle.requirement_questions.specs.declared.members.Member.{Member}
use Rattle.requirement_questions.specs.declared.leaving.Because.{Because}
use Rattle.requirement_questions.specs.declared.parting.Core.{Core}
use Rattle.requirement_report.specs.Flat.{flat}
use Rattle.requirement_report.specs.Lines.{worded, first_lines, lines_in}
use Rattle.requirement_report.specs.Parts.{part_of}
use Rattle.requirement_report.specs.Subjects.{sentence_of, written_of, perhaps}
use Rattle.requirement_report.specs.Text.{nevers_of}
use Rattle.requirement_page.specs.Marks.{code, paragraph, paragraph_if, item_link, begun, ended}

-- its sentence, where it has one, and its formula as it is written
abbrev pub described : DocumentValue → ℕ → List ℕ
described d n = paragraph_if (flat (sentence_of d n)) ++ paragraph (code (flat (written_of d n)))

-- ---- members: their names, joined by commas. One that is not known to be needed is marked

abbrev pub member_link : DocumentValue → Member → List ℕ
member_link d m = item_link d m.given ++ perhaps m.needed

abbrev pub behind_comma : DocumentValue → Member → List ℕ
behind_comma d m = codes ", " ++ member_link d m

abbrev pub member_links : DocumentValue → List Member → List ℕ
member_links d [] = []
member_links d (m ∷ ms) = member_link d m ++ flat_map (behind_comma d) ms

-- the members because of which there is no trace
abbrev pub because_of : DocumentValue → List Member → List ℕ
because_of d [] = paragraph (codes "by itself")
because_of d (m ∷ ms) = paragraph (codes "because of: " ++ member_links d (m ∷ ms))

-- what is set aside
abbrev pub without : DocumentValue → List Member → List ℕ
without d [] = []
without d (m ∷ ms) = paragraph (codes "without: " ++ member_links d (m ∷ ms))

-- ---- a conflict

-- each line `never F`, with F as code: what is left out of a line gives way to how the paragraph begins
abbrev pub claim_begins : ℕ → List ℕ
claim_begins left = if left == 1 then codes "<p>never <code><bdi>" else []

abbrev pub claim_byte : ℕ → ℕ → List ℕ
claim_byte left b =
    if b == 10 then codes "</bdi></code></p>\n"
    else (if left == 0 then escaped_byte b else claim_begins left)

-- how many bytes of the line are left out behind a byte
abbrev pub left_behind : ℕ → ℕ → ℕ
left_behind left b = if b == 10 then 6 else left - 1

abbrev pub claims_from : ℕ → List ℕ → List ℕ
claims_from left [] = []
claims_from left (b ∷ bs) = claim_byte left b ++ claims_from (left_behind left b) bs

-- how many claims there are behind the first 12
abbrev pub more : ℕ → List ℕ
more count = if nat_le count 12 then [] else paragraph (worded (codes "and ") (count - 12) ++ codes " more")

-- the first 12 claims
abbrev pub claims : List ℕ → List ℕ
claims [] = paragraph (codes "no first state meets them")
claims (b ∷ bs) = claims_from 6 (first_lines 12 (b ∷ bs)) ++ more (lines_in (b ∷ bs))

-- what matters of a member, where that is known
abbrev pub matters : Option (List ℕ) → List ℕ
matters None = []
matters (Some part) = paragraph (codes "matters: " ++ code part)

abbrev pub member_described : DocumentValue → Option (List ℕ) → Member → List ℕ
member_described d part m =
    codes "<p><strong>"
    ++ (item_link d m.given
    ++ (codes "</strong></p>\n"
    ++ (described d m.given
    ++ matters part)))

-- members from the one at this place on
abbrev pub members_described : DocumentValue → Option Core → ℕ → List Member → List ℕ
members_described d core k [] = []
members_described d core k (m ∷ ms) = member_described d (part_of core k) m ++ members_described d core (k + 1) ms

abbrev pub conflict_article : DocumentValue → ℕ → Option Core → Because → List ℕ
conflict_article d number core b =
    begun (codes "bad") number (codes "conflict") (member_links d b.members.items)
    ++ (members_described d core 0 b.members.items
    ++ (claims (nevers_of b)
    ++ ended))
