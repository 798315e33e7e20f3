-- What an entry is read as, and what may be wrong with it.
use Rattle.std.specs.Prelude.{◌≡◌, ◌≢◌, ℕ, ◌<◌, ◌≤◌, ◌⊎◌, List, [], map, codes, string_bytes, bytes_eq, Bool, true, false, ◌&&◌, ◌||◌, not, Option, Some, None}
use Rattle.std.specs.Prelude.{is_some}
use Rattle.std.specs.List.{list_any}
use Rattle.toml.specs.Data.{Data, string, array, get, as_str, as_table}
use Rattle.toml.specs.View.{items_of}
use Rattle.ltl_syntax.specs.Formula.{Formula, Letter, Name}
use Rattle.ltl_syntax.specs.Size.{formula_size}
use Rattle.ltl_parser.specs.Text.{ReadsText, IsAccepted}
use Rattle.formula_reading.specs.declared.reading.FormulaFault.TheVariants as wrong
use Rattle.formula_reading.specs.Reading.{IsShort, HasFormulaFault}
use Rattle.ltl_word.specs.declared.trace.Trace.{Trace}
use Rattle.ltl_word.specs.declared.trace.Trace.TheVariants.{Infinite, Finite}
use Rattle.ltl_word.specs.Trace.{Names, IsTrace}
use Rattle.ltl_word.specs.Json.{IsTraceOf}
use Rattle.requirement_document.specs.declared.document.Role.{Role}
use Rattle.requirement_document.specs.declared.fault.Section.{Section}
use Rattle.requirement_document.specs.declared.fault.Section.TheVariants as sections
use Rattle.requirement_document.specs.declared.fault.Key.{Key}
use Rattle.requirement_document.specs.declared.fault.Key.TheVariants as keys
use Rattle.requirement_document.specs.declared.fault.Cause.{Cause}
use Rattle.requirement_document.specs.declared.fault.Cause.TheVariants as causes
use Rattle.requirement_document.specs.Keys.{key_word, knows, knows_formula, knows_behaviour, HasKeys, HasUnknown, HasFormulas, IsWanted}
use Rattle.requirement_document.specs.Substitution.{Definitions, names_defined, substituted}
use Rattle.requirement_document.specs.Values.{ItemValue, BehaviourValue}

-- the key has a text for its value
abbrev pub HasText : Data → Key → List ℕ → Type 0
HasText d k text = get (key_word k) d ≡ Some (string text)

-- the value of a key that need not be there
abbrev pub IsSentence : Data → Option (List ℕ) → Type 0
IsSentence d None = get (key_word keys.Text) d ≡ None
IsSentence d (Some text) = HasText d keys.Text text

-- whether the name is among these
abbrev pub is_among : List ℕ → List (List ℕ) → Bool
is_among name names = list_any (bytes_eq name) names

-- a name that is a text, not empty, and none of those that are taken
pub record IsNewName (d : Data) (taken : List (List ℕ)) (name : List ℕ) : Type 0 where
  pub text : HasText d keys.Name name
  pub some : name ≢ []
  pub new : is_among name taken ≡ false

-- the text reads as a formula, in which these definitions are put in
pub record IsPutIn (ds : Definitions) (text : List ℕ) (f : Formula) : Type 0 where
  pub written : Formula
  pub accepted : IsAccepted text written
  pub put : f ≡ substituted ds written
  pub few : formula_size f ≤ 16384

-- the text is that of one letter
abbrev pub IsLetter : List ℕ → Type 0
IsLetter name = IsAccepted name (Letter (Name name))

-- a definition, after those before it
pub record IsDefinition (before : Definitions) (d : Data) (new : List ℕ × Formula) : Type 0 where
  pub known : HasKeys knows_formula d
  pub sentence : Option (List ℕ)
  pub said : IsSentence d sentence
  pub name : IsNewName d (names_defined before) new.0
  pub letter : IsLetter new.0
  pub text : List ℕ
  pub formula : HasText d keys.Formula text
  pub put : IsPutIn before text new.1

-- an item of a role, where these names are taken
pub record IsItem (role : Role) (ds : Definitions) (taken : List (List ℕ)) (d : Data) (i : ItemValue) : Type 0 where
  pub known : HasKeys knows_formula d
  pub serves : i.role ≡ role
  pub sentence : IsSentence d i.sentence
  pub name : IsNewName d taken i.name
  pub formula : HasText d keys.Formula i.text
  pub put : IsPutIn ds i.text i.formula

-- states are an array of arrays of names
abbrev pub state_data : Names → Data
state_data names = array (items_of (map string names))

abbrev pub states_data : List Names → Data
states_data states = array (items_of (map state_data states))

-- the states stand alone, or the stem and the loop do
abbrev pub HasTrace : Data → Trace → Type 0
HasTrace d (Infinite stem loop_part) =
    (get (codes "states") d ≡ None) × (get (codes "stem") d ≡ Some (states_data stem)) × (get (codes "loop") d ≡ Some (states_data loop_part))
HasTrace d (Finite states) = (get (codes "states") d ≡ Some (states_data states)) × (get (codes "stem") d ≡ None) × (get (codes "loop") d ≡ None)

-- a behaviour, where these names are taken. Its states are the sets of the written names
pub record IsBehaviour (taken : List (List ℕ)) (d : Data) (b : BehaviourValue) : Type 0 where
  pub known : HasKeys knows_behaviour d
  pub sentence : IsSentence d b.sentence
  pub name : IsNewName d taken b.name
  pub written : Trace
  pub states : HasTrace d written
  pub some : IsTrace written
  pub sets : IsTraceOf written b.trace

-- ---- what may be wrong

-- where an entry stands: its section, what is defined before it, and the names that are taken
pub record Context : Type 0 where
  pub section : Section
  pub definitions : Definitions
  pub taken : List (List ℕ)

-- the entries of the section may have the key, and the value is none for it
abbrev pub DoesNotFit : Section → Key → Data → Type 0
DoesNotFit s keys.Traces v = ⊥
DoesNotFit s (keys.Section t) v = ⊥
DoesNotFit s keys.Name v = as_str v ≡ None
DoesNotFit s keys.Text v = as_str v ≡ None
DoesNotFit s keys.Formula v = HasFormulas s × (as_str v ≡ None)
DoesNotFit s keys.States v = (s ≡ sections.Behaviour) × ((all : List Names) → v ≡ states_data all → ⊥)
DoesNotFit s keys.Stem v = (s ≡ sections.Behaviour) × ((all : List Names) → v ≡ states_data all → ⊥)
DoesNotFit s keys.Loop v = (s ≡ sections.Behaviour) × ((all : List Names) → v ≡ states_data all → ⊥)

-- what may be wrong with a text as a formula in which these definitions are put in
abbrev pub IsFormulaCause : Definitions → List ℕ → Cause → Type 0
IsFormulaCause ds text causes.TooLong = HasFormulaFault text wrong.Long
IsFormulaCause ds text (causes.Lexical byte) = HasFormulaFault text (wrong.Lexical byte)
IsFormulaCause ds text (causes.Grammar byte) = HasFormulaFault text (wrong.Grammar byte)
IsFormulaCause ds text (causes.Size count) =
    (f : Formula) × IsShort text × ReadsText text f × ((count ≡ formula_size f) ⊎ (count ≡ formula_size (substituted ds f))) × (16384 < count)
IsFormulaCause ds text _ = ⊥

-- and with the formula of an entry
abbrev pub HasFormulaCause : Context → Data → Cause → Type 0
HasFormulaCause x d cause = HasFormulas x.section × (text : List ℕ) × HasText d keys.Formula text × IsFormulaCause x.definitions text cause

-- whether the states stand alone, or the stem and the loop do
abbrev pub has_form : Option Data → Option Data → Option Data → Bool
has_form states stem loop_part =
    (is_some states && not (is_some stem) && not (is_some loop_part)) || (not (is_some states) && is_some stem && is_some loop_part)

-- this is wrong with the entry
abbrev pub HasCause : Context → Data → Cause → Type 0
HasCause x d causes.TooLong = HasFormulaCause x d causes.TooLong
HasCause x d (causes.NotText byte) = ⊥
HasCause x d (causes.NotToml line column message) = ⊥
HasCause x d (causes.UnknownKey key) = HasUnknown (knows x.section) d (string_bytes key)
HasCause x d (causes.Unfit key) = (v : Data) × (get (key_word key) d ≡ Some v) × DoesNotFit x.section key v
HasCause x d (causes.TooMany s) = ⊥
HasCause x d causes.NotTable = as_table d ≡ None
HasCause x d (causes.Missing key) = IsWanted x.section key × (get (key_word key) d ≡ None)
HasCause x d causes.EmptyName = HasText d keys.Name []
HasCause x d causes.NameTwice = (name : List ℕ) × HasText d keys.Name name × (is_among name x.taken ≡ true)
HasCause x d causes.NoLetter = (x.section ≡ sections.Define) × (name : List ℕ) × HasText d keys.Name name × (IsLetter name → ⊥)
HasCause x d (causes.Lexical byte) = HasFormulaCause x d (causes.Lexical byte)
HasCause x d (causes.Grammar byte) = HasFormulaCause x d (causes.Grammar byte)
HasCause x d (causes.Size count) = HasFormulaCause x d (causes.Size count)
HasCause x d causes.Form = (x.section ≡ sections.Behaviour) × (has_form (get (codes "states") d) (get (codes "stem") d) (get (codes "loop") d) ≡ false)
HasCause x d causes.NoState = (x.section ≡ sections.Behaviour) × (get (codes "states") d ≡ Some (states_data []))
HasCause x d causes.EmptyLoop = (x.section ≡ sections.Behaviour) × (get (codes "loop") d ≡ Some (states_data []))
