-- The lanes of a diagram, one row after the other.
use Rattle.std.proofs.Common.{◌≡◌, ℕ, ◌+◌, ◌<◌, List, ◌∷◌, ◌++◌, length, get_or, drop, ap, ap₂, sym, ◌∙◌, append_assoc, add-one, drop-cons}
use Rattle.trace_view.specs.Grid.{RowValue}
use Rattle.trace_view.specs.Diagram.{title, wave, lanes_from}

-- one row more
pub lane_more : (names states lane i : ℕ) (rows : List RowValue) (row : RowValue) (old text titled new : List ℕ) → i < length rows
    → row ≡ get_or rows i row → lane ≡ i
    → text ++ lanes_from names states lane (drop i rows) ≡ old → titled ≡ text ++ title lane row → new ≡ titled ++ wave names states lane row
    → new ++ lanes_from names states (lane + 1) (drop (i + 1) rows) ≡ old
lane_more names states lane i rows row old text titled new lt at same before one two =
    let rest = lanes_from names states (lane + 1) (drop (i + 1) rows) in
    let split : drop i rows ≡ row ∷ drop (i + 1) rows = drop-cons rows i row lt ∙ ap₂ (λ x n. x ∷ drop n rows) (sym at) (sym (add-one i)) in
    let texts : new ≡ (text ++ title lane row) ++ wave names states lane row = two ∙ ap (λ t. t ++ wave names states lane row) one in
    ap (λ t. t ++ rest) texts
    ∙ (append_assoc (text ++ title lane row) (wave names states lane row) rest ∙ (append_assoc text (title lane row) (wave names states lane row ++ rest)
    ∙ (ap (λ t. text ++ t) (sym (append_assoc (title lane row) (wave names states lane row) rest))
    ∙ (ap (λ xs. text ++ lanes_from names states lane xs) (sym split) ∙ before))))
