-- The letters of a document, and those that may be slips, as JSON.
use Rattle.std.specs.Prelude.{ℕ, List, [], ◌∷◌, map, codes, Option, Some, None}
use Rattle.requirement_document.specs.Values.{DocumentValue}
use Rattle.requirement_report.specs.Letters.{UseValue}
use Rattle.requirement_report.specs.Slips.{SlipValue}
use Rattle.requirement_json.specs.Items.{names_data}
use Rattle.serde_json.specs.Data.{Data, string, array, object, member, no_members}
use Rattle.serde_json.specs.View.{items_of}

-- a letter, and the names of the items that have it
abbrev pub use_data : DocumentValue → UseValue → Data
use_data d u =
    object (member (codes "items") (names_data d u.items)
    (member (codes "letter") (string u.letter) no_members))

abbrev pub letters_data : DocumentValue → List UseValue → Data
letters_data d uses = array (items_of (map (use_data d) uses))

-- the letter that it is nearly, where there is one
abbrev pub nearly_data : Option (List ℕ) → List Data
nearly_data None = []
nearly_data (Some letter) = string letter ∷ []

abbrev pub slip_data : DocumentValue → SlipValue → Data
slip_data d s =
    object (member (codes "items") (names_data d s.items)
    (member (codes "letter") (string s.letter)
    (member (codes "nearly") (array (items_of (nearly_data s.nearly))) no_members)))

abbrev pub slips_data : DocumentValue → List SlipValue → Data
slips_data d slips = array (items_of (map (slip_data d) slips))
