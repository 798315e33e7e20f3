-- The parts of a diagram, one behind the other.
use Rattle.std.proofs.Common.{◌≡◌, ℕ, ◌+◌, List, [], ◌++◌, length, codes, ap, ap₂, ◌∙◌}
use Rattle.trace_view.specs.Text.{below}
use Rattle.trace_view.specs.Grid.{GridValue}
use Rattle.trace_view.specs.Names.{widest}
use Rattle.trace_view.specs.Diagram.{x_of, bottom, opening, sheet, band_of, edges, numeral, lanes_from, arrow_of, picture, svg}
use Rattle.trace_view.proofs.Pieces.{begun, next, from_nothing}

-- with the numbers as the code has them
pub drawn : (g : GridValue) (t0 t1 t2 t3 t4 t5 t6 t7 t8 : List ℕ) (names lanes width height height' states states' : ℕ)
    → names ≡ widest g.rows → lanes ≡ length g.rows
    → width ≡ x_of names g.states + 16 → height ≡ bottom lanes + 36 → height' ≡ bottom lanes + 36 → states ≡ g.states → states' ≡ g.states
    → t0 ≡ [] → t1 ≡ t0 ++ opening width height → t2 ≡ t1 ++ sheet width height' → t3 ≡ t2 ++ band_of names lanes g.states g.loop_at
    → t4 ≡ t3 ++ edges names lanes states
    → t5 ≡ t4 ++ below states' (numeral names) → t6 ≡ t5 ++ lanes_from names g.states 0 g.rows → t7 ≡ t6 ++ arrow_of names lanes g.states g.loop_at
    → t8 ≡ t7 ++ codes "</svg>\n"
    → t8 ≡ svg g
drawn g t0 t1 t2 t3 t4 t5 t6 t7 t8 names lanes width height height' states states' n l w h h' s s' none p1 p2 p3 p4 p5 p6 p7 p8 =
    let q1 : t1 ≡ t0 ++ opening (x_of names g.states + 16) (bottom lanes + 36) = p1 ∙ ap₂ (λ a b. t0 ++ opening a b) w h in
    let q2 : t2 ≡ t1 ++ sheet (x_of names g.states + 16) (bottom lanes + 36) = p2 ∙ ap₂ (λ a b. t1 ++ sheet a b) w h' in
    let q4 : t4 ≡ t3 ++ edges names lanes g.states = p4 ∙ ap (λ a. t3 ++ edges names lanes a) s in
    let q5 : t5 ≡ t4 ++ below g.states (numeral names) = p5 ∙ ap (λ a. t4 ++ below a (numeral names)) s' in
    let r2 = next (sheet (x_of names g.states + 16) (bottom lanes + 36)) (begun t0 (opening (x_of names g.states + 16) (bottom lanes + 36)) q1) q2 in
    let r3 = next (band_of names lanes g.states g.loop_at) r2 p3 in
    let r4 = next (edges names lanes g.states) r3 q4 in
    let r5 = next (below g.states (numeral names)) r4 q5 in
    let r6 = next (lanes_from names g.states 0 g.rows) r5 p6 in
    let r7 = next (arrow_of names lanes g.states g.loop_at) r6 p7 in
    let whole : t8 ≡ picture names lanes g = from_nothing none (next (codes "</svg>\n") r7 p8) in
    whole ∙ ap₂ (λ a b. picture a b g) n l
