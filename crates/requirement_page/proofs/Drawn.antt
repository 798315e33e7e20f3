-- The picture of a trace: there is one.
use Rattle.std.proofs.Common.{◌≡◌, ◌<◌, ◌≤◌, true, false, List, ℕ, ◌++◌, leb, sym, ap, ◌∙◌, subst, codes}
use Rattle.std.proofs.lemmas.Bool.{cond-true, cond-false, le-leb, lt-leb}
use Rattle.ltl_word.specs.declared.trace.Trace.{Trace}
use Rattle.ltl_word.specs.Trace.{Names}
use Rattle.trace_view.specs.Grid.{GridValue, IsGridOf, cells_for}
use Rattle.trace_view.specs.Diagram.{svg}
use Rattle.requirement_report.specs.Pictures.{letters_in, grid_of}
use Rattle.requirement_report.proofs.Gridded.{grid_is}
use Rattle.requirement_page.specs.Marks.{paragraph}
use Rattle.requirement_page.specs.Pictures.{framed, picture}

pub shown_picture : (t : Trace) (letters : Names) (g : GridValue) (old new drawing : List ℕ) → letters ≡ letters_in t → IsGridOf t letters g
    → cells_for t letters ≤ 16777216
    → drawing ≡ svg g → new ≡ old ++ framed drawing → new ≡ old ++ picture t
unfolding picture
shown_picture t letters g old new drawing l h few drawn put =
    let grid : g ≡ grid_of t (letters_in t) = grid_is t letters g h ∙ ap (grid_of t) l in
    let fits : leb (cells_for t (letters_in t)) 16777216 ≡ true = le-leb _ _ (subst (λ ls. cells_for t ls ≤ 16777216) l few) in
    put ∙ ap (λ d. old ++ framed d) (drawn ∙ ap svg grid) ∙ ap (λ x. old ++ x) (sym (cond-true _ _ _ fits))

pub no_picture : (t : Trace) (letters : Names) (old new : List ℕ) → letters ≡ letters_in t → 16777216 < cells_for t letters
    → new ≡ old ++ paragraph (codes "limit cells 16777216") → new ≡ old ++ picture t
unfolding picture
no_picture t letters old new l many put =
    let large : leb (cells_for t (letters_in t)) 16777216 ≡ false = lt-leb _ _ (subst (λ ls. 16777216 < cells_for t ls) l many) in
    put ∙ ap (λ x. old ++ x) (sym (cond-false _ _ _ large))
