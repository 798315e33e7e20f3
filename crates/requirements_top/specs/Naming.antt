-- Which item or behaviour of a document has a name.
use Rattle.std.specs.Prelude.{◌≡◌, ℕ, List, map, slice_get, Option, Some, None}
use Rattle.requirement_document.specs.Values.{DocumentValue}
use Rattle.requirement_answers.specs.declared.findings.Scope.{Scope}
use Rattle.requirement_answers.specs.declared.findings.Scope.TheVariants as scopes

-- the names of the items, and those of the behaviours, in their order
abbrev pub item_names : DocumentValue → List (List ℕ)
item_names d = map (λ i. i.name) d.items

abbrev pub behaviour_names : DocumentValue → List (List ℕ)
behaviour_names d = map (λ b. b.name) d.behaviours

-- the name stands at this place, from 0
abbrev pub StandsAt : List (List ℕ) → List ℕ → ℕ → Type 0
StandsAt names name n = slice_get names n ≡ Some name

abbrev pub IsMissing : List (List ℕ) → List ℕ → Type 0
IsMissing names name = (n : ℕ) → ¬ (StandsAt names name n)

-- this item or this behaviour has the name
abbrev pub IsNamed : DocumentValue → List ℕ → Scope → Type 0
IsNamed d name scopes.All = ⊥
IsNamed d name (scopes.Item n) = StandsAt (item_names d) name n
IsNamed d name (scopes.Behaviour n) = StandsAt (behaviour_names d) name n

-- no item and no behaviour has it
abbrev pub HasNoName : DocumentValue → List ℕ → Type 0
HasNoName d name = IsMissing (item_names d) name × IsMissing (behaviour_names d) name

-- what is asked about: the whole document where no name is given
abbrev pub IsAskedAbout : DocumentValue → Option (List ℕ) → Scope → Type 0
IsAskedAbout d None scope = scope ≡ scopes.All
IsAskedAbout d (Some name) scope = IsNamed d name scope
