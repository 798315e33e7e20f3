-- The items of a document, and the kind of its traces, as JSON.
use Rattle.std.specs.Prelude.{ℕ, List, map, codes, Option, Some, None}
use Rattle.ltl_syntax.specs.declared.node.Kind.{Kind}
use Rattle.ltl_syntax.specs.declared.node.Kind.TheVariants as Kinds
use Rattle.requirement_document.specs.declared.document.Role.{Role}
use Rattle.requirement_document.specs.declared.document.Role.TheVariants as roles
use Rattle.requirement_document.specs.Values.{ItemValue, DocumentValue}
use Rattle.requirement_report.specs.Subjects.{name_of}
use Rattle.serde_json.specs.Data.{Data, null, string, array, object, member, no_members}
use Rattle.serde_json.specs.View.{items_of}

abbrev pub role_text : Role → List ℕ
role_text roles.Assume = codes "assume"
role_text roles.Require = codes "require"
role_text roles.Allow = codes "allow"
role_text roles.Ensure = codes "ensure"

abbrev pub kind_text : Kind → List ℕ
kind_text Kinds.Infinite = codes "infinite"
kind_text Kinds.Finite = codes "finite"

-- a text, and null where there is none
abbrev pub text_data : Option (List ℕ) → Data
text_data None = null
text_data (Some text) = string text

-- an item, with its texts as they are written
abbrev pub item_data : ItemValue → Data
item_data i =
    object (member (codes "formula") (string i.text) (member (codes "name") (string i.name)
    (member (codes "role") (string (role_text i.role)) (member (codes "text") (text_data i.sentence) no_members))))

abbrev pub items_data : List ItemValue → Data
items_data items = array (items_of (map item_data items))

-- the name of the item with this number, and those of several
abbrev pub name_data : DocumentValue → ℕ → Data
name_data d n = string (name_of d n)

abbrev pub names_data : DocumentValue → List ℕ → Data
names_data d numbers = array (items_of (map (name_data d) numbers))
