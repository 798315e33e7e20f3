-- How the names of a trace's states are found from the entries and the values.
use Rattle.std.specs.Prelude.{◌≡◌, ℕ, ◌<◌, ◌^◌, ◌↔◌, Bool, false, List, [], ◌∷◌, length, Option, Some, None, slice_get, slice_index_or, Contains, IsTrue}
use Rattle.ltl_syntax.specs.Formula.{Fresh, Formula}
use Rattle.ltl_word.specs.Trace.{Names}
use Rattle.ltl_word.specs.Holds.{name_of}
use Rattle.ltl_closure.specs.Entries.{AreEntries}
use Rattle.ltl_closure.specs.declared.entry.Entry.{Entry}
use Rattle.ltl_closure.specs.declared.entry.Entry.TheVariants as Is
use Rattle.ltl_run.specs.declared.run_state.RunState.{RunState}

-- the entries are those of some formula
abbrev pub HaveFormula : Names → List Entry → Type 0
HaveFormula known entries = (f : Formula) × AreEntries known f entries

-- the name of a letter's entry, where known are the names of the table
abbrev pub entry_name : Names → Entry → Option (List ℕ)
entry_name known (Is.Letter n) = Some (slice_index_or known n [])
entry_name known (Is.Fresh n) = Some (name_of (Fresh n))
entry_name known x = None

-- a letter's number is a name's
abbrev pub HasRoom : Names → Entry → Type 0
HasRoom known (Is.Letter n) = n < length known
HasRoom known x = Unit {0}

-- the name, where there is one, goes first
abbrev pub name_before : Option (List ℕ) → Names → Names
name_before (Some name) names = name ∷ names
name_before None names = names

-- the names of the letters among the entries, in their order
abbrev pub entry_names : Names → List Entry → Names
entry_names known [] = []
entry_names known (x ∷ xs) = name_before (entry_name known x) (entry_names known xs)

-- the number of a fresh letter fits a Rust number
abbrev pub IsSmall : Entry → Type 0
IsSmall (Is.Fresh n) = n < 2 ^ 32
IsSmall x = Unit {0}

-- the name is one of the first n whose value is true
abbrev pub IsChosen : Names → List Bool → ℕ → List ℕ → Type 0
IsChosen names values n name = (j : ℕ) × (j < n) × IsTrue (slice_index_or values j false) × (slice_index_or names j [] ≡ name)

-- the state's names are those whose value is true
abbrev pub HasChosen : Names → RunState → Names → Type 0
HasChosen names s shown = (name : List ℕ) → Contains shown name ↔ IsChosen names s.letters.items (length names) name

-- so it is for the first n states
pub record HaveChosen (names : Names) (states : List RunState) (n : ℕ) (shown : List Names) : Type 0 where
  pub count : length shown ≡ n
  pub each : (i : ℕ) (s : RunState) → i < n → slice_get states i ≡ Some s → HasChosen names s (slice_index_or shown i [])
