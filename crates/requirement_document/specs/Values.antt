-- What a document is, apart from how it is stored.
use Rattle.std.specs.Prelude.{ℕ, List, map, Option, option_map, string_bytes}
use Rattle.ltl_syntax.specs.declared.node.Kind.{Kind}
use Rattle.ltl_syntax.specs.Formula.{Formula}
use Rattle.ltl_syntax.specs.Table.{tree_at}
use Rattle.ltl_word.specs.declared.trace.Trace.{Trace}
use Rattle.requirement_document.specs.declared.document.Role.{Role}
use Rattle.requirement_document.specs.declared.document.Item.{Item}
use Rattle.requirement_document.specs.declared.document.Behaviour.{Behaviour}
use Rattle.requirement_document.specs.declared.document.Document.{Document}

-- an item: its text as it is written, and the formula with what is defined put in
pub record ItemValue : Type 0 where
  pub role : Role
  pub name : List ℕ
  pub sentence : Option (List ℕ)
  pub text : List ℕ
  pub formula : Formula

pub record BehaviourValue : Type 0 where
  pub name : List ℕ
  pub sentence : Option (List ℕ)
  pub trace : Trace

pub record DocumentValue : Type 0 where
  pub kind : Kind
  pub items : List ItemValue
  pub behaviours : List BehaviourValue

abbrev pub item_in : Item → ItemValue
item_in i = record {
  role = i.role;
  name = string_bytes i.name;
  sentence = option_map string_bytes i.sentence;
  text = string_bytes i.formula;
  formula = tree_at i.table i.root;
}

abbrev pub behaviour_in : Behaviour → BehaviourValue
behaviour_in b = record { name = string_bytes b.name; sentence = option_map string_bytes b.sentence; trace = b.trace }

abbrev pub document_in : Document → DocumentValue
document_in d = record { kind = d.kind; items = map item_in d.items.items; behaviours = map behaviour_in d.behaviours.items }
