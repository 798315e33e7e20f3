-- How the clauses and the lines that may be named grow.
use Rattle.std.proofs.Common.{sym, ◌∙◌, [], ◌∷◌, ◌++◌, append_assoc}
use Rattle.enc_layout.specs.Letters.{below}
use Rattle.claims.specs.Between.{width, step_list}
use Rattle.claims.specs.Certificate.{line_at, layer_at, first_clauses, clauses_of, next_claims, both_claims}
use Rattle.claims.specs.Lawful.{lines_before}
use Rattle.claims.specs.Laws.{LinesGrow, LayersGrow, LayerLinesGrow}

pub lines_grow : LinesGrow
lines_grow earlier lines k = sym (append_assoc earlier (first_clauses lines k) ((line_at lines k).literals ∷ []))

pub layers_grow : LayersGrow
layers_grow f c j =
    let next = next_claims (width f) (layer_at c j) in
    let own = (layer_at c j).claims in
    let before = below j (λ i. both_claims (width f) (layer_at c i)) in
    sym (append_assoc (step_list f) before (next ++ own)) ∙ sym (append_assoc (step_list f ++ before) next own)

pub layer_lines_grow : LayerLinesGrow
layer_lines_grow c j = sym (append_assoc (lines_before c j) (clauses_of (layer_at c j).base_lines) (clauses_of (layer_at c j).step_lines))
