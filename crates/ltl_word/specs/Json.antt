-- The JSON form of a trace: what is written for it, and what bytes are read as.
use Rattle.std.specs.Prelude.{◌≡◌, ◌↔◌, ℕ, List, [], ◌∷◌, map, codes, Contains, Some, Result, Ok, Err, IsUtf8, ⊤}
use Rattle.serde_json.specs.Data.{Data, string, array, object, no_members, member}
use Rattle.serde_json.specs.View.{items_of}
use Rattle.serde_json.specs.Read.{read}
use Rattle.serde_json.specs.Written.{compact_text}
use Rattle.ltl_word.specs.declared.trace.Trace.{Trace}
use Rattle.ltl_word.specs.declared.trace.Trace.TheVariants.{Infinite, Finite}
use Rattle.ltl_word.specs.declared.json.TraceFault.{TraceFault}
use Rattle.ltl_word.specs.declared.json.TraceFault.TheVariants.{NotJson, NotTrace, EmptyLoop, EmptyStates, NoMemory}
use Rattle.ltl_word.specs.State.{IsAscending}
use Rattle.ltl_word.specs.Trace.{Names, IsTrace}

-- a state is an array of strings, its names
abbrev pub state_data : Names → Data
state_data names = array (items_of (map string names))

-- states are an array of them
abbrev pub states_data : List Names → Data
states_data states = array (items_of (map state_data states))

-- a trace is an object with its kind and its states, by keys in ascending order
abbrev pub trace_data : Trace → Data
trace_data (Infinite stem loop_part) = object
    (member (codes "kind") (string (codes "infinite")) (member (codes "loop") (states_data loop_part) (member (codes "stem") (states_data stem) no_members)))
trace_data (Finite states) = object (member (codes "kind") (string (codes "finite")) (member (codes "states") (states_data states) no_members))

-- what is written for a trace
abbrev pub trace_text : Trace → List ℕ
trace_text t = compact_text (trace_data t)

-- the bytes are a JSON text, and this is its value
abbrev pub IsJson : List ℕ → Data → Type 0
IsJson bytes d = IsUtf8 bytes × (read bytes ≡ Some d)

-- the set of the names
abbrev pub IsSetOf : Names → Names → Type 0
IsSetOf names state = IsAscending state × ((name : List ℕ) → Contains state name ↔ Contains names name)

-- each state is the set of the names at its place
abbrev pub AreSetsOf : List Names → List Names → Type 0
AreSetsOf [] [] = ⊤
AreSetsOf [] (state ∷ states) = ⊥
AreSetsOf (names ∷ all) [] = ⊥
AreSetsOf (names ∷ all) (state ∷ states) = IsSetOf names state × AreSetsOf all states

-- the trace whose states are the sets of the written names
abbrev pub IsTraceOf : Trace → Trace → Type 0
IsTraceOf (Infinite stem loop_part) (Infinite stem' loop_part') = AreSetsOf stem stem' × AreSetsOf loop_part loop_part'
IsTraceOf (Infinite stem loop_part) (Finite states') = ⊥
IsTraceOf (Finite states) (Infinite stem' loop_part') = ⊥
IsTraceOf (Finite states) (Finite states') = AreSetsOf states states'

-- what bytes are read as: a trace, or why they are none
abbrev pub IsReading : List ℕ → Result Trace TraceFault → Type 0
IsReading bytes (Ok t) = (written : Trace) × IsJson bytes (trace_data written) × IsTrace written × IsTraceOf written t
IsReading bytes (Err NotJson) = (d : Data) → IsJson bytes d → ⊥
IsReading bytes (Err NotTrace) = (d : Data) × IsJson bytes d × ((written : Trace) → d ≡ trace_data written → ⊥)
IsReading bytes (Err EmptyLoop) = (stem : List Names) × IsJson bytes (trace_data (Infinite stem []))
IsReading bytes (Err EmptyStates) = IsJson bytes (trace_data (Finite []))
IsReading bytes (Err NoMemory) = ⊤

-- ---- for private clauses: the same of a value, and of its parts

abbrev pub IsTraceReading : Data → Result Trace TraceFault → Type 0
IsTraceReading d (Ok t) = (written : Trace) × (d ≡ trace_data written) × IsTrace written × IsTraceOf written t
IsTraceReading d (Err NotJson) = ⊥
IsTraceReading d (Err NotTrace) = (written : Trace) → d ≡ trace_data written → ⊥
IsTraceReading d (Err EmptyLoop) = (stem : List Names) × (d ≡ trace_data (Infinite stem []))
IsTraceReading d (Err EmptyStates) = d ≡ trace_data (Finite [])
IsTraceReading d (Err NoMemory) = ⊤

-- a part that was read, one that has not the form, or want of memory
abbrev pub IsPartReading : {A : Type 0} → (A → Type 0) → Type 0 → Result A TraceFault → Type 0
IsPartReading good formless (Ok x) = good x
IsPartReading good formless (Err NotJson) = ⊥
IsPartReading good formless (Err NotTrace) = formless
IsPartReading good formless (Err EmptyLoop) = ⊥
IsPartReading good formless (Err EmptyStates) = ⊥
IsPartReading good formless (Err NoMemory) = ⊤

abbrev pub IsStateReading : Data → Result Names TraceFault → Type 0
IsStateReading d r = IsPartReading (λ state. (names : Names) × (d ≡ state_data names) × IsSetOf names state) ((names : Names) → d ≡ state_data names → ⊥) r

abbrev pub IsStatesReading : Data → Result (List Names) TraceFault → Type 0
IsStatesReading d r =
    IsPartReading (λ states. (all : List Names) × (d ≡ states_data all) × AreSetsOf all states) ((all : List Names) → d ≡ states_data all → ⊥) r
