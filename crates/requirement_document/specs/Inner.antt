-- What the private calls give. No public contract cites this file.
use Rattle.std.specs.Prelude.{◌≡◌, ℕ, ◌<◌, ◌≤◌, List, [], map, length, slice_get, slice_index_or, string_bytes, Some, None, String, ⊤}
use Rattle.std.specs.declared.alloc.Global.{Global}
use Rattle.toml.specs.Data.{Data, get, as_str}
use Rattle.ltl_syntax.specs.declared.node.Node.{Node}
use Rattle.ltl_syntax.specs.declared.node.Node.TheVariants as nodes
use Rattle.ltl_syntax.specs.Formula.{Formula, Const, Letter, Fresh, Unary, Binary}
use Rattle.ltl_syntax.specs.Size.{formula_size}
use Rattle.ltl_syntax.specs.Table.{Table, tree_at, tree_among}
use Rattle.requirement_document.specs.declared.fault.Section.{Section}
use Rattle.requirement_document.specs.declared.fault.Cause.{Cause}
use Rattle.requirement_document.specs.declared.fault.Cause.TheVariants as causes
use Rattle.requirement_document.specs.declared.fault.Place.TheVariants as places
use Rattle.requirement_document.specs.declared.fault.Key.{Key}
use Rattle.requirement_document.specs.declared.fault.Key.TheVariants as keys
use Rattle.formula_reading.specs.declared.reading.FormulaFault.{FormulaFault}
use Rattle.formula_reading.specs.declared.reading.FormulaFault.TheVariants as wrong
use Rattle.ltl_word.specs.declared.trace.Trace.{Trace}
use Rattle.ltl_word.specs.Trace.{IsTrace}
use Rattle.ltl_word.specs.Json.{IsTraceOf}
use Rattle.requirement_document.specs.declared.fault.Refused.{Refused}
use Rattle.requirement_document.specs.declared.fault.Refused.TheVariants as refused
use Rattle.requirement_document.specs.declared.fault.Refusal.{Refusal}
use Rattle.requirement_document.specs.declared.fault.Refusal.TheVariants as refusals
use Rattle.requirement_document.specs.declared.values.TextAt.{TextAt}
use Rattle.requirement_document.specs.declared.values.TextAt.TheVariants as texts
use Rattle.requirement_document.specs.declared.formulas.Tree.{Tree}
use Rattle.requirement_document.specs.Keys.{key_word}
use Rattle.requirement_document.specs.Substitution.{Definitions, found, or_letter, substituted}
use Rattle.requirement_document.specs.Entry.{HasCause, HasText, HasTrace, IsFormulaCause}
use Rattle.requirement_document.specs.Document.{IsPlace}

-- what a table has at a key where a text is wanted
abbrev pub IsTextAt : Key → Data → TextAt → Type 0
IsTextAt k d texts.Missing = get (key_word k) d ≡ None
IsTextAt k d texts.Unfit = (v : Data) × (get (key_word k) d ≡ Some v) × (as_str v ≡ None)
IsTextAt k d (texts.Given text) = HasText d k text.now

-- what a refusal says of an entry
abbrev pub IsRefusedAt : Section → Definitions → List (List ℕ) → Data → Refusal → Type 0
IsRefusedAt s ds taken d (refusals.Cause c) = HasCause (record { section = s; definitions = ds; taken = taken }) d c
IsRefusedAt s ds taken d refusals.NoMemory = ⊤

-- and of a text as a formula
abbrev pub IsRefusedText : Definitions → List ℕ → Refusal → Type 0
IsRefusedText ds text (refusals.Cause c) = IsFormulaCause ds text c
IsRefusedText ds text refusals.NoMemory = ⊤

-- what is wrong with a text that has this fault
abbrev pub cause_of : FormulaFault → Cause
cause_of wrong.Long = causes.TooLong
cause_of (wrong.Lexical byte) = causes.Lexical byte
cause_of (wrong.Grammar byte) = causes.Grammar byte
cause_of (wrong.Nodes count) = causes.Size count

-- the refusal of an entry with its place
abbrev pub IsPlaced : Section → ℕ → Data → Refusal → Refused → Type 0
IsPlaced s index d refusal (refused.Fault f) = (refusal ≡ refusals.Cause f.cause) × IsPlace s index d f.place
IsPlaced s index d refusal refused.NoMemory = ⊤

-- the formula of a tree
abbrev pub tree_in : Tree → Formula
tree_in t = tree_at t.table t.root

-- the definitions that a map has
abbrev pub defined_in : List (String Global × Tree) → Definitions
defined_in es = map (λ e. (string_bytes e.0, tree_in e.1)) es

-- the size of the formula with the definitions put in
abbrev pub HasSize : Definitions → Formula → ℕ → Type 0
HasSize ds f n = n ≡ formula_size (substituted ds f)

-- the table has the formula under a number
pub record IsAt (t : Table) (f : Formula) (number : ℕ) : Type 0 where
  pub there : number < length t.nodes
  pub tree : tree_at t number ≡ f

-- the table has these formulas under the numbers of a list
abbrev pub AreAt : (ℕ → Formula) → Table → List ℕ → Type 0
AreAt image t numbers = (i n : ℕ) → slice_get numbers i ≡ Some n → IsAt t (image i) n

-- the trees of the old table stay
pub record Keeps (old new : Table) : Type 0 where
  pub longer : length old.nodes ≤ length new.nodes
  pub others : (n : ℕ) → n < length old.nodes → tree_at new n ≡ tree_at old n

-- the trees of a table under these numbers
abbrev pub trees_under : Table → List ℕ → List Formula
trees_under t numbers = map (tree_at t) numbers

-- what a node stands for over these trees, where the definitions are put in
abbrev pub put_over : Definitions → List (List ℕ) → List Formula → Node → Formula
put_over ds names trees (nodes.Const b) = Const b
put_over ds names trees (nodes.Letter n) = or_letter (slice_index_or names n []) (found ds (slice_index_or names n []))
put_over ds names trees (nodes.Fresh n) = Letter (Fresh n)
put_over ds names trees (nodes.Unary op a) = Unary op (tree_among trees a)
put_over ds names trees (nodes.Binary op a b) = Binary op (tree_among trees a) (tree_among trees b)

-- the trace of an entry: its states are the sets of the written names
abbrev pub IsTraceAt : Data → Trace → Type 0
IsTraceAt d t = (written : Trace) × HasTrace d written × IsTrace written × IsTraceOf written t

-- a key whose value is states
abbrev pub IsStateKey : Key → Type 0
IsStateKey keys.Traces = ⊥
IsStateKey (keys.Section s) = ⊥
IsStateKey keys.Name = ⊥
IsStateKey keys.Text = ⊥
IsStateKey keys.Formula = ⊥
IsStateKey keys.States = ⊤
IsStateKey keys.Stem = ⊤
IsStateKey keys.Loop = ⊤

-- the refusal tells that the text is no TOML
abbrev pub IsNotTomlCause : Cause → Type 0
IsNotTomlCause (causes.NotToml line column message) = ⊤
IsNotTomlCause _ = ⊥

abbrev pub IsNotToml : Refused → Type 0
IsNotToml (refused.Fault f) = (f.place ≡ places.Document) × IsNotTomlCause f.cause
IsNotToml refused.NoMemory = ⊤
