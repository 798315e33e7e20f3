-- The lines of a refused document, and the status with them.
use Rattle.std.specs.Prelude.{ℕ, List, [], ◌∷◌, ◌++◌, take, drop, codes, string_bytes, Option, Some, None, String}
use Rattle.std.specs.Fmt.{decimal}
use Rattle.std.specs.declared.alloc.Global.{Global}
use Rattle.report.specs.Texts.{line}
use Rattle.report.specs.declared.status.Status.{Status}
use Rattle.report.specs.declared.status.Status.TheVariants as statuses
use Rattle.requirement_document.specs.declared.fault.Key.{Key}
use Rattle.requirement_document.specs.declared.fault.Key.TheVariants as keys
use Rattle.requirement_document.specs.declared.fault.Cause.{Cause}
use Rattle.requirement_document.specs.declared.fault.Cause.TheVariants as causes
use Rattle.requirement_document.specs.declared.fault.Place.{Place}
use Rattle.requirement_document.specs.declared.fault.Place.TheVariants as places
use Rattle.requirement_document.specs.declared.fault.DocumentFault.{DocumentFault}
use Rattle.requirement_document.specs.Keys.{section_word, key_word}
use Rattle.requirement_report.specs.Flat.{flat}
use Rattle.requirements_top.specs.Pointing.{pointing}
use Rattle.requirements_top.specs.Hints.{hint, hint_line}

-- a name in parentheses, and nothing for the empty one
abbrev pub in_parentheses : List ℕ → List ℕ
in_parentheses [] = []
in_parentheses (b ∷ bs) = codes " (" ++ (flat (b ∷ bs) ++ codes ")")

abbrev pub name_text : Option (String Global) → List ℕ
name_text None = []
name_text (Some name) = in_parentheses (string_bytes name)

-- where it is: the whole document, or a section with its number and its name
abbrev pub place_text : Place → List ℕ
place_text places.Document = codes "the document"
place_text (places.Entry section number name formula) = section_word section ++ (codes " " ++ (decimal number ++ name_text name))

-- the line of what is wrong there
abbrev pub wrong_text : Place → List ℕ → List ℕ
wrong_text place what = line (codes "document fault in " ++ (place_text place ++ (codes ": " ++ what)))

-- what the value of a key should be
abbrev pub wanted_text : Key → List ℕ
wanted_text keys.Traces = codes " wants \"infinite\" or \"finite\""
wanted_text (keys.Section section) = codes " wants an array of tables"
wanted_text keys.Name = codes " wants a text"
wanted_text keys.Text = codes " wants a text"
wanted_text keys.Formula = codes " wants a text"
wanted_text keys.States = codes " wants an array of states, each an array of letters"
wanted_text keys.Stem = codes " wants an array of states, each an array of letters"
wanted_text keys.Loop = codes " wants an array of states, each an array of letters"

-- the limit on a document, or on the text of a formula
abbrev pub long_text : Place → List ℕ
long_text places.Document = line (codes "limit document 4194304")
long_text (places.Entry section number name formula) = line (codes "limit text 1048576 in " ++ place_text (places.Entry section number name formula))

-- a place in a formula, by the number of bytes before it: its lines, and a hint where there is one
abbrev pub formula_place : List ℕ → ℕ → List ℕ
formula_place text byte = pointing (take byte text) (drop byte text) ++ hint_line (hint (take byte text) (drop byte text))

abbrev pub place_in : Option (String Global) → ℕ → List ℕ
place_in None byte = []
place_in (Some formula) byte = formula_place (string_bytes formula) byte

-- and nothing where there is no formula
abbrev pub place_lines : Place → ℕ → List ℕ
place_lines places.Document byte = []
place_lines (places.Entry section number name formula) byte = place_in formula byte

-- a fault of a formula, at this byte of it
abbrev pub formula_text : List ℕ → Place → ℕ → List ℕ
formula_text word place byte = line (word ++ (codes " fault in " ++ (place_text place ++ (codes " at byte " ++ decimal byte)))) ++ place_lines place byte

abbrev pub cause_text : Place → Cause → List ℕ
cause_text place causes.TooLong = long_text place
cause_text place (causes.NotText byte) = line (codes "document fault at byte " ++ (decimal byte ++ codes ": not UTF-8"))
cause_text place (causes.NotToml row column message) =
    line (codes "document fault at line " ++ (decimal row ++ (codes ", column " ++ (decimal column ++ (codes ": " ++ flat (string_bytes message))))))
cause_text place (causes.UnknownKey key) = wrong_text place (codes "unknown key " ++ flat (string_bytes key))
cause_text place (causes.Unfit key) = wrong_text place (key_word key ++ wanted_text key)
cause_text place (causes.TooMany section) = line (codes "limit entries 1024 in " ++ section_word section)
cause_text place causes.NotTable = wrong_text place (codes "it is no table")
cause_text place (causes.Missing key) = wrong_text place (codes "no key " ++ key_word key)
cause_text place causes.EmptyName = wrong_text place (codes "the name is empty")
cause_text place causes.NameTwice = wrong_text place (codes "the name stands twice")
cause_text place causes.NoLetter = wrong_text place (codes "the name is no letter")
cause_text place (causes.Lexical byte) = formula_text (codes "lexical") place byte
cause_text place (causes.Grammar byte) = formula_text (codes "grammar") place byte
cause_text place (causes.Size count) = line (codes "limit nodes 16384 have " ++ (decimal count ++ (codes " in " ++ place_text place)))
cause_text place causes.Form = wrong_text place (codes "it has either states, or stem and loop")
cause_text place causes.NoState = wrong_text place (codes "states is empty")
cause_text place causes.EmptyLoop = wrong_text place (codes "loop is empty")

-- the line of a fault
abbrev pub refusal_text : DocumentFault → List ℕ
refusal_text f = cause_text f.place f.cause

-- the status of a cause: a limit, or a fault of the text
abbrev pub cause_status : Cause → Status
cause_status causes.TooLong = statuses.Limit
cause_status (causes.TooMany section) = statuses.Limit
cause_status (causes.Size count) = statuses.Limit
cause_status other = statuses.Text

abbrev pub refusal_status : DocumentFault → Status
refusal_status f = cause_status f.cause
