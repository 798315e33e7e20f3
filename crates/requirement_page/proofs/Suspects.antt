-- Letters that may be slips: lists with some, and lists of one.
use Rattle.std.proofs.Common.{◌≡◌, ℕ, ◌<◌, List, [], ◌∷◌, ◌++◌, map, length, get_or, codes, flat_map, refl, arith}
use Rattle.requirement_document.specs.Values.{DocumentValue}
use Rattle.requirement_report.specs.declared.slips.Slip.{Slip}
use Rattle.requirement_report.specs.Slips.{slip_in}
use Rattle.requirement_page.specs.Marks.{item_link}
use Rattle.requirement_page.specs.Slips.{alone, slip_item, slip_list}

pub some_slips : (d : DocumentValue) (slips : List Slip) → 0 < length slips
    → slip_list d (map slip_in slips) ≡ codes "<h2>Perhaps a slip</h2>\n<ul>\n" ++ (flat_map (slip_item d) (map slip_in slips) ++ codes "</ul>\n")
some_slips d [] some = absurd (omega arith)
some_slips d (s ∷ ss) some = refl

pub one_alone : (d : DocumentValue) (items behind : List ℕ) → length items ≡ 1
    → alone d items behind ≡ codes "in " ++ (item_link d (get_or items 0 0) ++ (codes " alone" ++ behind))
one_alone d [] behind one = absurd (omega arith)
one_alone d (n ∷ []) behind one = refl
one_alone d (n ∷ m ∷ ms) behind one = absurd (omega arith)
