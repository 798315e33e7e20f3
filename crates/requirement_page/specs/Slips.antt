-- Letters that may be slips.
use Rattle.std.specs.Prelude.{ℕ, List, [], ◌∷◌, ◌++◌, if◌then◌else◌, codes, Option, Some, None}
use Rattle.std.specs.List.{flat_map}
use Rattle.requirement_document.specs.Values.{DocumentValue}
use Rattle.requirement_answers.specs.declared.findings.Scope.{Scope}
use Rattle.requirement_report.specs.Flat.{flat}
use Rattle.requirement_report.specs.Slips.{SlipValue, slips_of}
use Rattle.requirement_report.specs.Text.{is_all}
use Rattle.requirement_page.specs.Marks.{code, item_link}

-- the item that alone has the letter, where there is one, and some words behind that
abbrev pub alone : DocumentValue → List ℕ → List ℕ → List ℕ
alone d (n ∷ []) behind = codes "in " ++ (item_link d n ++ (codes " alone" ++ behind))
alone d items behind = []

-- and the letter that it is nearly
abbrev pub suspected : DocumentValue → List ℕ → Option (List ℕ) → List ℕ
suspected d items None = alone d items []
suspected d items (Some other) = alone d items (codes "; ") ++ (codes "nearly " ++ code (flat other))

abbrev pub slip_item : DocumentValue → SlipValue → List ℕ
slip_item d s = codes "<li>" ++ (code (flat s.letter) ++ (codes ": " ++ (suspected d s.items s.nearly ++ codes "</li>\n")))

abbrev pub slip_list : DocumentValue → List SlipValue → List ℕ
slip_list d [] = []
slip_list d (s ∷ ss) = codes "<h2>Perhaps a slip</h2>\n<ul>\n" ++ (flat_map (slip_item d) (s ∷ ss) ++ codes "</ul>\n")

-- they are told where all is asked
abbrev pub slips_part : DocumentValue → Scope → List ℕ
slips_part d scope = if is_all scope then slip_list d (slips_of d) else []
