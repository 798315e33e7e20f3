-- The words of a document: its sections, and the keys that may stand in it.
use Rattle.std.specs.Prelude.{◌≡◌, ℕ, List, Bool, ◌||◌, codes, bytes_eq, Option, Some, None, if◌then◌else◌, ⊤}
use Rattle.toml.specs.Data.{Data, as_table, Members, no_members, member}
use Rattle.requirement_document.specs.declared.fault.Section.{Section}
use Rattle.requirement_document.specs.declared.fault.Section.TheVariants as sections
use Rattle.requirement_document.specs.declared.fault.Key.{Key}
use Rattle.requirement_document.specs.declared.fault.Key.TheVariants as keys

abbrev pub section_word : Section → List ℕ
section_word sections.Define = codes "define"
section_word sections.Assume = codes "assume"
section_word sections.Require = codes "require"
section_word sections.Allow = codes "allow"
section_word sections.Ensure = codes "ensure"
section_word sections.Behaviour = codes "behaviour"

abbrev pub key_word : Key → List ℕ
key_word keys.Traces = codes "traces"
key_word (keys.Section s) = section_word s
key_word keys.Name = codes "name"
key_word keys.Text = codes "text"
key_word keys.Formula = codes "formula"
key_word keys.States = codes "states"
key_word keys.Stem = codes "stem"
key_word keys.Loop = codes "loop"

-- the keys that a document may have
abbrev pub knows_document : List ℕ → Bool
knows_document key =
    bytes_eq key (codes "traces") || bytes_eq key (codes "define") || bytes_eq key (codes "assume") || bytes_eq key (codes "require")
    || bytes_eq key (codes "allow") || bytes_eq key (codes "ensure") || bytes_eq key (codes "behaviour")

-- those of a definition and of an item, and those of a behaviour
abbrev pub knows_formula : List ℕ → Bool
knows_formula key = bytes_eq key (codes "name") || bytes_eq key (codes "text") || bytes_eq key (codes "formula")

abbrev pub knows_behaviour : List ℕ → Bool
knows_behaviour key =
    bytes_eq key (codes "name") || bytes_eq key (codes "text") || bytes_eq key (codes "states") || bytes_eq key (codes "stem") || bytes_eq key (codes "loop")

abbrev pub knows : Section → List ℕ → Bool
knows sections.Define key = knows_formula key
knows sections.Assume key = knows_formula key
knows sections.Require key = knows_formula key
knows sections.Allow key = knows_formula key
knows sections.Ensure key = knows_formula key
knows sections.Behaviour key = knows_behaviour key

-- those of the entries of a section, or of the document
abbrev pub knows_at : Option Section → List ℕ → Bool
knows_at None key = knows_document key
knows_at (Some s) key = knows s key

-- the first key, in the order of their bytes, that may not be there
abbrev pub unknown_in : (List ℕ → Bool) → Members → Option (List ℕ)
unknown_in known no_members = None
unknown_in known (member k d ms) = if known k then unknown_in known ms else Some k

-- a table without keys that may not be there
abbrev pub HasKeys : (List ℕ → Bool) → Data → Type 0
HasKeys known d = (ms : Members) × (as_table d ≡ Some ms) × (unknown_in known ms ≡ None)

-- a table with this key as the first that may not be there
abbrev pub HasUnknown : (List ℕ → Bool) → Data → List ℕ → Type 0
HasUnknown known d k = (ms : Members) × (as_table d ≡ Some ms) × (unknown_in known ms ≡ Some k)

-- the entries of the section have a formula
abbrev pub HasFormulas : Section → Type 0
HasFormulas sections.Define = ⊤
HasFormulas sections.Assume = ⊤
HasFormulas sections.Require = ⊤
HasFormulas sections.Allow = ⊤
HasFormulas sections.Ensure = ⊤
HasFormulas sections.Behaviour = ⊥

-- the key has to be there in each entry of the section
abbrev pub IsWanted : Section → Key → Type 0
IsWanted s keys.Traces = ⊥
IsWanted s (keys.Section t) = ⊥
IsWanted s keys.Name = ⊤
IsWanted s keys.Text = ⊥
IsWanted s keys.Formula = HasFormulas s
IsWanted s keys.States = ⊥
IsWanted s keys.Stem = ⊥
IsWanted s keys.Loop = ⊥
