-- The document that a text is, and what may be wrong with a text.
use Rattle.std.specs.Prelude.{◌≡◌, ℕ, ◌+◌, ◌<◌, ◌≤◌, List, [], ◌∷◌, ◌++◌, length, take, slice_get, codes, string_bytes, bytes_eq, Option, Some, None}
use Rattle.std.specs.Prelude.{option_map, option_and_then, if◌then◌else◌, nat_lt, IsUtf8, ⊤}
use Rattle.std.specs.List.{flat_map}
use Rattle.std.specs.Option.{unwrap_or}
use Rattle.std.specs.Str.Lossy.{utf8_valid_len}
use Rattle.toml.specs.Data as toml
use Rattle.toml.specs.Data.{Data, Items, Members, get, as_str, as_array, as_table}
use Rattle.toml.specs.Parse.{parse_document}
use Rattle.ltl_syntax.specs.Formula.{Formula}
use Rattle.ltl_syntax.specs.declared.node.Kind.{Kind}
use Rattle.ltl_syntax.specs.declared.node.Kind.TheVariants as Kinds
use Rattle.requirement_document.specs.declared.document.Role.{Role}
use Rattle.requirement_document.specs.declared.document.Role.TheVariants as roles
use Rattle.requirement_document.specs.declared.fault.Section.{Section}
use Rattle.requirement_document.specs.declared.fault.Section.TheVariants as sections
use Rattle.requirement_document.specs.declared.fault.Key.TheVariants as keys
use Rattle.requirement_document.specs.declared.fault.Cause.{Cause}
use Rattle.requirement_document.specs.declared.fault.Cause.TheVariants as causes
use Rattle.requirement_document.specs.declared.fault.Place.{Place}
use Rattle.requirement_document.specs.declared.fault.Place.TheVariants as places
use Rattle.requirement_document.specs.declared.fault.DocumentFault.{DocumentFault}
use Rattle.requirement_document.specs.declared.fault.Refused.{Refused}
use Rattle.requirement_document.specs.declared.fault.Refused.TheVariants as refusals
use Rattle.requirement_document.specs.Keys.{section_word, knows_document, HasKeys, HasUnknown}
use Rattle.requirement_document.specs.Substitution.{Definitions, names_defined}
use Rattle.requirement_document.specs.Values.{ItemValue, BehaviourValue, DocumentValue}
use Rattle.requirement_document.specs.Entry.{IsDefinition, IsItem, IsBehaviour, HasCause}

-- the items of an array in a list
abbrev pub listed : Items → List Data
listed toml.no_items = []
listed (toml.item d ds) = d ∷ listed ds

-- none where the section is not written
abbrev pub entries_at : Option Data → Option (List Data)
entries_at None = Some []
entries_at (Some (toml.array ds)) = if nat_lt 1024 (length (listed ds)) then None else Some (listed ds)
entries_at (Some _) = None

-- the entries of a section as they are written, and nothing where its value is no array, or one of more than 1,024
abbrev pub entries : Section → Data → Option (List Data)
entries s root = entries_at (get (section_word s) root)

-- the kind of the traces, which are infinite where nothing is said
abbrev pub kind_at : Option Data → Option Kind
kind_at None = Some Kinds.Infinite
kind_at (Some (toml.string s)) =
    if bytes_eq s (codes "infinite") then Some Kinds.Infinite else (if bytes_eq s (codes "finite") then Some Kinds.Finite else None)
kind_at (Some _) = None

abbrev pub section_of : Role → Section
section_of roles.Assume = sections.Assume
section_of roles.Require = sections.Require
section_of roles.Allow = sections.Allow
section_of roles.Ensure = sections.Ensure

-- the name of an entry, where it has a text for one
abbrev pub name_at : Data → Option (List ℕ)
name_at d = option_and_then as_str (get (codes "name") d)

-- and its formula, as it is written
abbrev pub formula_at : Data → Option (List ℕ)
formula_at d = option_and_then as_str (get (codes "formula") d)

abbrev pub in_list : Option (List ℕ) → List (List ℕ)
in_list None = []
in_list (Some name) = name ∷ []

-- the names of entries in order
abbrev pub names_of : List Data → List (List ℕ)
names_of ds = flat_map (λ d. in_list (name_at d)) ds

-- the names of a section
abbrev pub names_in : Section → Data → List (List ℕ)
names_in s root = names_of (unwrap_or (entries s root) [])

-- the names that are taken before a section: those of the sections before it. Definitions have names of their own
abbrev pub taken_before : Section → Data → List (List ℕ)
taken_before sections.Define root = []
taken_before sections.Assume root = []
taken_before sections.Require root = names_in sections.Assume root
taken_before sections.Allow root = names_in sections.Assume root ++ names_in sections.Require root
taken_before sections.Ensure root = (names_in sections.Assume root ++ names_in sections.Require root) ++ names_in sections.Allow root
taken_before sections.Behaviour root =
    ((names_in sections.Assume root ++ names_in sections.Require root) ++ names_in sections.Allow root) ++ names_in sections.Ensure root

-- entries are definitions, of which each is put in into those behind it. These stand before them
abbrev pub AreDefined : Definitions → List Data → Definitions → Type 0
AreDefined before [] all = all ≡ before
AreDefined before (d ∷ ds) all = (new : List ℕ × Formula) × IsDefinition before d new × AreDefined (before ++ new ∷ []) ds all

-- entries are items of a role. No name comes twice, and these are taken before
abbrev pub AreItems : Role → Definitions → List (List ℕ) → List Data → List ItemValue → Type 0
AreItems role ds taken [] [] = ⊤
AreItems role ds taken [] (i ∷ is) = ⊥
AreItems role ds taken (d ∷ rest) [] = ⊥
AreItems role ds taken (d ∷ rest) (i ∷ is) = IsItem role ds taken d i × AreItems role ds (taken ++ in_list (name_at d)) rest is

abbrev pub AreBehaviours : List (List ℕ) → List Data → List BehaviourValue → Type 0
AreBehaviours taken [] [] = ⊤
AreBehaviours taken [] (b ∷ bs) = ⊥
AreBehaviours taken (d ∷ rest) [] = ⊥
AreBehaviours taken (d ∷ rest) (b ∷ bs) = IsBehaviour taken d b × AreBehaviours (taken ++ in_list (name_at d)) rest bs

-- the section has these definitions, these items, these behaviours
abbrev pub HasDefinitions : Data → Definitions → Type 0
HasDefinitions root ds = (es : List Data) × (entries sections.Define root ≡ Some es) × AreDefined [] es ds

abbrev pub HasItems : Role → Definitions → Data → List ItemValue → Type 0
HasItems role ds root is = (es : List Data) × (entries (section_of role) root ≡ Some es) × AreItems role ds (taken_before (section_of role) root) es is

abbrev pub HasBehaviours : Data → List BehaviourValue → Type 0
HasBehaviours root bs = (es : List Data) × (entries sections.Behaviour root ≡ Some es) × AreBehaviours (taken_before sections.Behaviour root) es bs

-- the table is the document
pub record IsDocumentOf (root : Data) (d : DocumentValue) : Type 0 where
  pub known : HasKeys knows_document root
  pub kind : kind_at (get (codes "traces") root) ≡ Some d.kind
  pub definitions : Definitions
  pub defined : HasDefinitions root definitions
  pub assume : List ItemValue
  pub assumed : HasItems roles.Assume definitions root assume
  pub require : List ItemValue
  pub required : HasItems roles.Require definitions root require
  pub allow : List ItemValue
  pub allowed : HasItems roles.Allow definitions root allow
  pub ensure : List ItemValue
  pub ensured : HasItems roles.Ensure definitions root ensure
  pub items : d.items ≡ ((assume ++ require) ++ allow) ++ ensure
  pub behaviours : HasBehaviours root d.behaviours

-- the text is within the limit, it is UTF-8, and it is TOML
pub record IsWritten (text : List ℕ) (ms : Members) : Type 0 where
  pub short : length text ≤ 4194304
  pub utf8 : IsUtf8 text
  pub parsed : parse_document text ≡ Some ms

-- the text is the document
pub record IsDocument (text : List ℕ) (d : DocumentValue) : Type 0 where
  pub members : Members
  pub written : IsWritten text members
  pub document : IsDocumentOf (toml.table members) d

-- ---- what may be wrong

-- the definitions that are read before an entry: those before it in its own section, and all of them in the others
abbrev pub defined_before : Section → ℕ → List Data → List Data
defined_before sections.Define index es = take index es
defined_before sections.Assume index es = es
defined_before sections.Require index es = es
defined_before sections.Allow index es = es
defined_before sections.Ensure index es = es
defined_before sections.Behaviour index es = es

-- this stands before an entry of the section, where these entries stand before it
abbrev pub taken_at : Section → Definitions → Data → List Data → List (List ℕ)
taken_at sections.Define ds root before = names_defined ds
taken_at sections.Assume ds root before = taken_before sections.Assume root ++ names_of before
taken_at sections.Require ds root before = taken_before sections.Require root ++ names_of before
taken_at sections.Allow ds root before = taken_before sections.Allow root ++ names_of before
taken_at sections.Ensure ds root before = taken_before sections.Ensure root ++ names_of before
taken_at sections.Behaviour ds root before = taken_before sections.Behaviour root ++ names_of before

-- the place of an entry with this number, from 0: it tells the name and the formula of the entry
abbrev pub IsPlace : Section → ℕ → Data → Place → Type 0
IsPlace s index d places.Document = ⊥
IsPlace s index d (places.Entry section number name formula) =
    (section ≡ s) × (number ≡ index + 1) × (option_map string_bytes name ≡ name_at d) × (option_map string_bytes formula ≡ formula_at d)

-- the entry at the place has this cause, where the definitions before it are in order
pub record HasEntryFault (root : Data) (place : Place) (cause : Cause) : Type 0 where
  pub section : Section
  pub index : ℕ
  pub all : List Data
  pub entry : Data
  pub written : entries section root ≡ Some all
  pub there : slice_get all index ≡ Some entry
  pub stands : IsPlace section index entry place
  pub define : List Data
  pub definitions : Definitions
  pub defines : entries sections.Define root ≡ Some define
  pub defined : AreDefined [] (defined_before section index define) definitions
  pub wrong : HasCause (record { section = section; definitions = definitions; taken = taken_at section definitions root (take index all) }) entry cause

-- the table as a whole has this cause
abbrev pub HasDocumentCause : Data → Cause → Type 0
HasDocumentCause root (causes.UnknownKey key) = HasUnknown knows_document root (string_bytes key)
HasDocumentCause root (causes.Unfit keys.Traces) = kind_at (get (codes "traces") root) ≡ None
HasDocumentCause root (causes.Unfit (keys.Section s)) = (v : Data) × (get (section_word s) root ≡ Some v) × (as_array v ≡ None)
HasDocumentCause root (causes.TooMany s) = (ds : Items) × (get (section_word s) root ≡ Some (toml.array ds)) × (1024 < length (listed ds))
HasDocumentCause root _ = ⊥

-- the table has the fault
pub data HasFaultOf (root : Data) (f : DocumentFault) : Type 0 where
  as_whole : f.place ≡ places.Document → HasDocumentCause root f.cause → HasFaultOf root f
  in_entry : HasEntryFault root f.place f.cause → HasFaultOf root f

-- the text as a whole has this cause
abbrev pub HasTextCause : List ℕ → Cause → Type 0
HasTextCause text causes.TooLong = 4194304 < length text
HasTextCause text (causes.NotText byte) = (length text ≤ 4194304) × (IsUtf8 text → ⊥) × (byte ≡ utf8_valid_len text)
HasTextCause text (causes.NotToml line column message) = (length text ≤ 4194304) × IsUtf8 text × (parse_document text ≡ None)
HasTextCause text _ = ⊥

-- the text has the fault
pub data HasFault (text : List ℕ) (f : DocumentFault) : Type 0 where
  of_text : f.place ≡ places.Document → HasTextCause text f.cause → HasFault text f
  of_document : (ms : Members) → IsWritten text ms → HasFaultOf (toml.table ms) f → HasFault text f

-- what a refusal says of a text, and of a table
abbrev pub IsRefused : List ℕ → Refused → Type 0
IsRefused text (refusals.Fault f) = HasFault text f
IsRefused text refusals.NoMemory = ⊤

abbrev pub IsRefusedOf : Data → Refused → Type 0
IsRefusedOf root (refusals.Fault f) = HasFaultOf root f
IsRefusedOf root refusals.NoMemory = ⊤
