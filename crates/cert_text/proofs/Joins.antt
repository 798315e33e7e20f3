-- Pieces of a text, one behind the other.
use Rattle.std.proofs.Common.{◌≡◌, ℕ, ◌+◌, ◌-◌, ◌≤◌, List, [], ◌++◌, length, take, Some, refl, sym, ap, ◌∙◌, subst, arith}
use Rattle.std.specs.Prelude.{IfSome}
use Rattle.std.proofs.Math.Seq.{take-add}
use Rattle.std.proofs.lemmas.List.{take_all, length-take-le}
use Rattle.cert_text.specs.Text.{Certificate, IsTextOf}
use Rattle.cert_text.specs.Shape.{form_of, lines_at}
use Rattle.cert_text.specs.Skipped.{between}
use Rattle.cert_text.specs.Passes.{small_run, LeadsTo, IsPassed, with_lines}
use Rattle.cert_text.specs.declared.glance.Form.{Form}
use Rattle.cert_text.specs.declared.passing.Piece.{Piece}
use Rattle.cert_text.specs.declared.scanning.Head.{Head}
use Rattle.cert_text.specs.declared.scanning.Place.{Place}
use Rattle.cert_text.specs.declared.scanning.Place.TheVariants as places
use Rattle.cert_text.proofs.Forming.{at_lines, at_end}
use Rattle.cert_text.proofs.Runs.{at_led, led_more}
use Rattle.cert_text.proofs.Later.{later_place, later_next, run_later}

-- what is said of a piece that comes somewhere
pub came_to : (bytes : List ℕ) (head : Head) (piece : Piece) (place : Place) → IsPassed bytes head piece → piece.came ≡ Some place
    → small_run [] (places.Part head) (between bytes piece.from piece.to) ≡ Some ([], place)
came_to bytes head piece place is came = subst (λ o. IfSome o (λ p. small_run [] (places.Part head) (between bytes piece.from piece.to) ≡ Some ([], p))) came is

pub at_join : (bytes : List ℕ) (head : Head) (piece : Piece) (place : Place) (at : ℕ)
    → piece.from ≡ at → small_run [] (places.Part head) (between bytes piece.from piece.to) ≡ Some ([], place)
    → small_run [] (places.Part head) (between bytes at piece.to) ≡ Some ([], place)
at_join bytes head piece place at same e = ap (λ n. small_run [] (places.Part head) (between bytes n piece.to)) (sym same) ∙ e

-- the pass over the text up to a piece, and the one over the piece
join : (bytes : List ℕ) (head : Head) (place : Place) (at to lines : ℕ)
    → head.lines ≡ 0 → at ≤ to → LeadsTo (take at bytes) [] (places.Part (with_lines head lines))
    → small_run [] (places.Part head) (between bytes at to) ≡ Some ([], place) → LeadsTo (take to bytes) [] (later_place lines place)
join bytes head place at to lines none low led e =
    let same : lines ≡ lines + head.lines = omega (arith, none) in
    let run : small_run [] (later_place lines (places.Part head)) (between bytes at to) ≡ Some ([], later_place lines place) =
    run_later lines (between bytes at to) [] (places.Part head) tt ∙ ap (later_next lines) e in
    let apart : to ≡ at + (to - at) = omega (arith, low) in
    let whole : take to bytes ≡ take at bytes ++ between bytes at to = ap (λ n. take n bytes) apart ∙ take-add at (to - at) bytes in
    subst (λ w. LeadsTo w [] (later_place lines place)) (sym whole)
    (led_more (take at bytes) (between bytes at to) [] [] (places.Part (with_lines head lines)) (later_place lines place) led
    (ap (λ n. small_run [] (places.Part (with_lines head n)) (between bytes at to)) same ∙ run))

pub join_part : (bytes : List ℕ) (head found : Head) (at to lines : ℕ)
    → head.lines ≡ 0 → at ≤ to → LeadsTo (take at bytes) [] (places.Part (with_lines head lines))
    → small_run [] (places.Part head) (between bytes at to) ≡ Some ([], places.Part found) → found ≡ with_lines head found.lines
    → LeadsTo (take to bytes) [] (places.Part (with_lines head (lines + found.lines)))
join_part bytes head found at to lines none low led e under =
    subst (λ (h : Head). LeadsTo (take to bytes) [] (places.Part (with_lines h (lines + found.lines)))) under
    (join bytes head (places.Part found) at to lines none low led e)

-- the lines up to a piece's end
pub join_lines : (bytes : List ℕ) (place : Place) (to : ℕ) → to ≤ length bytes → LeadsTo (take to bytes) [] place → lines_at place ≤ length bytes
join_lines bytes place to within led =
    omega (arith, at_lines (take to bytes) [] place (at_led (take to bytes) [] place led) refl, length-take-le to bytes within, within)

pub join_end : (bytes : List ℕ) (head found : Head) (at to lines : ℕ)
    → head.lines ≡ 0 → at ≤ to → LeadsTo (take at bytes) [] (places.Part (with_lines head lines))
    → small_run [] (places.Part head) (between bytes at to) ≡ Some ([], places.End found)
    → LeadsTo (take to bytes) [] (places.End (with_lines found (lines + found.lines)))
join_end bytes head found at to lines none low led e = join bytes head (places.End found) at to lines none low led e

pub whole_text : (bytes : List ℕ) (h : Head) (to : ℕ) → length bytes ≤ to → LeadsTo (take to bytes) [] (places.End h)
    → (c : Certificate) × IsTextOf bytes c × (record { version = h.version; kind = h.kind; depth = h.depth; lines = h.lines } ≡ form_of c)
whole_text bytes h to all led =
    let whole = at_end bytes [] (places.End h) h
    (at_led bytes [] (places.End h) (subst (λ w. LeadsTo w [] (places.End h)) (take_all to bytes all) led)) refl refl in
    (whole.0, whole.1, ap (λ (g : Head). let it : Form = record { version = g.version; kind = g.kind; depth = g.depth; lines = g.lines } in it) whole.2)
