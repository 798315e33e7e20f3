-- What a text says, item by item: its parts in order, and then the close.
use Rattle.std.specs.Prelude.{◌≡◌, ℕ, ◌-◌, ◌==◌, List, [], ◌∷◌, ◌++◌, length, All, codes, if◌then◌else◌}
use Rattle.std.specs.List.{flat_map}
use Rattle.cnf_base.specs.declared.literal.Literal.{Literal}
use Rattle.cnf_base.specs.declared.literal.Hint.{Hint}
use Rattle.cert_text.specs.Text.{Part, Line, Delete, Certificate, IsLiteral, IsHint, IsNumber, literal_text, hint_text, target_text, header_text, IsTextOf}
use Rattle.cert_text.specs.Reading.{certificate_in}
use Rattle.cert_text.specs.declared.item.CertItem.{CertItem}
use Rattle.cert_text.specs.declared.item.CertItem.TheVariants as items

abbrev pub item_of : Part → CertItem
item_of (Line literals hints) = items.Line literals hints
item_of (Delete lines) = items.Delete lines

-- the parts, and then the close with these targets
abbrev pub items_from : List Part → List ℕ → List CertItem
items_from [] targets = items.Close targets ∷ []
items_from (part ∷ parts) targets = item_of part ∷ items_from parts targets

abbrev pub items_of : Certificate → List CertItem
items_of c = items_from c.parts c.targets

-- the numbers of an item are in range
abbrev pub IsItem : CertItem → Type 0
IsItem (items.Line literals hints) = All IsLiteral literals × All IsHint hints
IsItem (items.Delete lines) = All IsNumber lines
IsItem (items.Close targets) = All IsNumber targets

-- the text of a line without the newline behind it
abbrev pub line_text : List Literal → List Hint → List ℕ
line_text literals hints = flat_map literal_text literals ++ (codes "0 " ++ (flat_map hint_text hints ++ codes "0"))

abbrev pub item_line : CertItem → List ℕ
item_line (items.Line literals hints) = line_text literals hints
item_line (items.Delete lines) = codes "d" ++ flat_map target_text lines
item_line (items.Close targets) = codes "close" ++ flat_map target_text targets

abbrev pub item_text : CertItem → List ℕ
item_text item = item_line item ++ codes "\n"

-- the bytes spell an item, without the newline
pub record IsItemLine (line : List ℕ) : Type 0 where
  pub item : CertItem
  pub fits : IsItem item
  pub spelled : line ≡ item_line item

pub record IsLineText (line : List ℕ) : Type 0 where
  pub literals : List Literal
  pub hints : List Hint
  pub fits : All IsLiteral literals × All IsHint hints
  pub spelled : line ≡ line_text literals hints

-- the items behind the first bytes of their text
abbrev pub items_behind : ℕ → List CertItem → List CertItem
items_behind n [] = []
items_behind n (item ∷ more) = if n == 0 then item ∷ more else items_behind (n - length (item_text item)) more

-- the items behind the first bytes of the text, by their number
abbrev pub items_at : List ℕ → ℕ → List CertItem
items_at whole at = items_behind (at - length (header_text (certificate_in whole))) (items_of (certificate_in whole))

-- some items are read, and the text of the others begins here
pub record IsReading (whole : List ℕ) (at : ℕ) : Type 0 where
  pub certificate : Certificate
  pub is : IsTextOf whole certificate
  pub past : List CertItem
  pub left : List CertItem
  pub split : items_of certificate ≡ past ++ left
  pub place : at ≡ length (header_text certificate ++ flat_map item_text past)
