-- Why there is no trace, as JSON: the members of a set that no trace satisfies, and what the claims of its certificate exclude.
use Rattle.std.specs.Prelude.{ℕ, ◌+◌, ◌==◌, if◌then◌else◌, List, [], ◌∷◌, ◌++◌, map, drop, codes, Option, Some, None}
use Rattle.requirement_document.specs.Values.{DocumentValue}
use Rattle.requirement_questions.specs.declared.members.Member.{Member}
use Rattle.requirement_report.specs.Subjects.{name_of}
use Rattle.serde_json.specs.Data.{Data, boolean, string, array, object, Members, member, no_members, put}
use Rattle.serde_json.specs.View.{items_of}

abbrev pub member_members : DocumentValue → Member → Members
member_members d m = member (codes "name") (string (name_of d m.given)) (member (codes "needed") (boolean m.needed) no_members)

-- with what matters of a member, where that is known
abbrev pub with_part : Option (List ℕ) → Members → Members
with_part None ms = ms
with_part (Some part) ms = put (codes "matters") (string part) ms

abbrev pub member_data : DocumentValue → Option (List ℕ) → Member → Data
member_data d part m = object (with_part part (member_members d m))

-- members from the one at this place on, each with its part
abbrev pub members_from : DocumentValue → (ℕ → Option (List ℕ)) → ℕ → List Member → List Data
members_from d parts k [] = []
members_from d parts k (m ∷ ms) = member_data d (parts k) m ∷ members_from d parts (k + 1) ms

abbrev pub members_data : DocumentValue → (ℕ → Option (List ℕ)) → List Member → Data
members_data d parts members = array (items_of (members_from d parts 0 members))

-- the lines that newlines end, where this much of the first one was read before
abbrev pub lines_behind : List ℕ → List ℕ → List (List ℕ)
lines_behind begun [] = []
lines_behind begun (b ∷ bs) = if b == 10 then (begun ∷ lines_behind [] bs) else lines_behind (begun ++ b ∷ []) bs

-- what a line says behind `never `
abbrev pub claim_data : List ℕ → Data
claim_data line = string (drop 6 line)

-- what each line of a text says
abbrev pub claims_data : List ℕ → Data
claims_data nevers = array (items_of (map claim_data (lines_behind [] nevers)))

-- with the members of a set, each with its part, and the lines of claims
abbrev pub with_because : DocumentValue → (ℕ → Option (List ℕ)) → List Member → List ℕ → Members → Members
with_because d parts members nevers ms = put (codes "because") (members_data d parts members) (put (codes "claims") (claims_data nevers) ms)
