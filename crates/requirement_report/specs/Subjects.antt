-- The items and behaviours of a document by their numbers, from 0.
use Rattle.std.specs.Prelude.{ℕ, zero, suc, ◌&&◌, ◌==◌, not, Bool, true, false, if◌then◌else◌, List, [], ◌∷◌, ◌++◌, length, slice_get, codes, Option, Some}
use Rattle.std.specs.Prelude.{None}
use Rattle.std.specs.List.{flat_map, list_any}
use Rattle.requirement_document.specs.declared.document.Role.{Role}
use Rattle.requirement_document.specs.declared.document.Role.TheVariants as roles
use Rattle.requirement_document.specs.Values.{ItemValue, BehaviourValue, DocumentValue}
use Rattle.requirement_questions.specs.declared.members.Member.{Member}
use Rattle.requirement_report.specs.Flat.{flat}

-- what is said of an item, and nothing of one that is not there
abbrev pub name_in : Option ItemValue → List ℕ
name_in None = []
name_in (Some i) = i.name

abbrev pub name_of : DocumentValue → ℕ → List ℕ
name_of d n = name_in (slice_get d.items n)

abbrev pub or_nothing : Option (List ℕ) → List ℕ
or_nothing None = []
or_nothing (Some text) = text

abbrev pub sentence_in : Option ItemValue → List ℕ
sentence_in None = []
sentence_in (Some i) = or_nothing i.sentence

abbrev pub sentence_of : DocumentValue → ℕ → List ℕ
sentence_of d n = sentence_in (slice_get d.items n)

-- its formula as it is written
abbrev pub written_in : Option ItemValue → List ℕ
written_in None = []
written_in (Some i) = i.text

abbrev pub written_of : DocumentValue → ℕ → List ℕ
written_of d n = written_in (slice_get d.items n)

-- the same of a behaviour
abbrev pub behaviour_name_in : Option BehaviourValue → List ℕ
behaviour_name_in None = []
behaviour_name_in (Some b) = b.name

abbrev pub behaviour_name : DocumentValue → ℕ → List ℕ
behaviour_name d n = behaviour_name_in (slice_get d.behaviours n)

abbrev pub behaviour_sentence_in : Option BehaviourValue → List ℕ
behaviour_sentence_in None = []
behaviour_sentence_in (Some b) = or_nothing b.sentence

abbrev pub behaviour_sentence : DocumentValue → ℕ → List ℕ
behaviour_sentence d n = behaviour_sentence_in (slice_get d.behaviours n)

-- ---- members

-- one that is not known to be needed is marked
abbrev pub perhaps : Bool → List ℕ
perhaps true = []
perhaps false = codes " (perhaps)"

abbrev pub member_text : DocumentValue → Member → List ℕ
member_text d m = flat (name_of d m.given) ++ perhaps m.needed

abbrev pub behind_comma : DocumentValue → Member → List ℕ
behind_comma d m = codes ", " ++ member_text d m

abbrev pub members_text : DocumentValue → List Member → List ℕ
members_text d [] = []
members_text d (m ∷ ms) = member_text d m ++ flat_map (behind_comma d) ms

-- ---- what is set aside

-- the item is assumed or required
abbrev pub is_given : Role → Bool
is_given roles.Assume = true
is_given roles.Require = true
is_given roles.Allow = false
is_given roles.Ensure = false

abbrev pub is_given_in : Option ItemValue → Bool
is_given_in None = false
is_given_in (Some i) = is_given i.role

abbrev pub is_among : List ℕ → ℕ → Bool
is_among numbers n = list_any (λ k. k == n) numbers

-- it is, and is not among those that are left
abbrev pub is_aside : DocumentValue → List ℕ → ℕ → Bool
is_aside d left n = is_given_in (slice_get d.items n) && not (is_among left n)

abbrev pub aside_at : DocumentValue → List ℕ → ℕ → List Member
aside_at d left n = if is_aside d left n then (record { given = n; needed = true } ∷ []) else []

-- these items below a number, in order. None is marked
abbrev pub aside_below : DocumentValue → List ℕ → ℕ → List Member
aside_below d left zero = []
aside_below d left (suc n) = aside_below d left n ++ aside_at d left n

abbrev pub aside : DocumentValue → List ℕ → List Member
aside d left = aside_below d left (length d.items)
