-- Documents that were judged by hand.
use Rattle.std.specs.Prelude.{◌≡◌, ℕ, List, [], ◌∷◌, codes, None}
use Rattle.toml.specs.Data as toml
use Rattle.toml.specs.Data.{Data}
use Rattle.ltl_syntax.specs.declared.node.Kind.TheVariants as Kinds
use Rattle.ltl_syntax.specs.declared.node.UnaryOp.TheVariants as one
use Rattle.ltl_syntax.specs.Formula.{Formula, Letter, Name, Unary}
use Rattle.ltl_word.specs.declared.trace.Trace.TheVariants.{Infinite}
use Rattle.requirement_document.specs.declared.document.Role.TheVariants as roles
use Rattle.requirement_document.specs.declared.fault.Section.TheVariants as sections
use Rattle.requirement_document.specs.declared.fault.Cause.TheVariants as causes
use Rattle.requirement_document.specs.declared.fault.DocumentFault.{DocumentFault}
use Rattle.requirement_document.specs.Values.{DocumentValue}
use Rattle.requirement_document.specs.Document.{IsDocument, IsPlace, HasFault}

abbrev pub letter_b : Formula
letter_b = Letter (Name (codes "b"))

-- each definition is put in behind itself, and what is put in is not looked at again
abbrev pub small_text : List ℕ
small_text = codes "define=[{name=\"a\",formula=\"b\"},{name=\"b\",formula=\"X a\"}]\nallow=[{name=\"it\",formula=\"b\"}]"

abbrev pub small : DocumentValue
small = record {
  kind = Kinds.Infinite;
  items = record { role = roles.Allow; name = codes "it"; sentence = None; text = codes "b"; formula = Unary one.Next letter_b } ∷ [];
  behaviours = [];
}

-- a trace of another kind than that of the items
abbrev pub recorded_text : List ℕ
recorded_text = codes "traces=\"finite\"\nbehaviour=[{name=\"it\",stem=[],loop=[[\"p\"],[]]}]"

abbrev pub recorded : DocumentValue
recorded = record {
  kind = Kinds.Finite;
  items = [];
  behaviours = record { name = codes "it"; sentence = None; trace = Infinite [] ((codes "p" ∷ []) ∷ [] ∷ []) } ∷ [];
}

-- two items of one name, in different sections
abbrev pub twice_text : List ℕ
twice_text = codes "ensure=[{name=\"it\"}]\nassume=[{name=\"it\"}]"

abbrev pub it : Data
it = toml.table (toml.member (codes "name") (toml.string (codes "it")) toml.no_members)

pub record WorkedDocuments : Type 0 where
  pub small_is : IsDocument small_text small
  pub recorded_is : IsDocument recorded_text recorded
  pub twice : (f : DocumentFault) → f.cause ≡ causes.NameTwice → IsPlace sections.Ensure 0 it f.place → HasFault twice_text f
