-- A certificate as data, and the certificate that it is.
use Rattle.std.specs.Prelude.{ℕ, List, [], ◌∷◌, ◌++◌, map}
use Rattle.cnf_base.specs.declared.literal.Literal.{Literal}
use Rattle.cnf_base.specs.declared.literal.Hint.{Hint}
use Rattle.cnf_base.specs.Step.{IsHintedStep}
use Rattle.claims.specs.Certificate.{HintedLine, Layer, Certificate, line_at, first_clauses}
use Rattle.claim_check.specs.declared.certificate.HintedLines.{HintedLines}
use Rattle.claim_check.specs.declared.certificate.Layer.{Layer as StoredLayer}
use Rattle.claim_check.specs.declared.certificate.Certificate.{Certificate as Stored}

-- clauses and their hints, one beside the other; a clause behind the last hints has none
abbrev pub hinted : List (List Literal) → List (List Hint) → List HintedLine
hinted [] hs = []
hinted (c ∷ cs) [] = record { literals = c; hints = [] } ∷ hinted cs []
hinted (c ∷ cs) (h ∷ hs) = record { literals = c; hints = h } ∷ hinted cs hs

abbrev pub lines_in : HintedLines → List HintedLine
lines_in l = hinted l.literals l.hints

abbrev pub layer_in : StoredLayer → Layer
layer_in l = record {
  eventuality = l.eventuality;
  claims = l.claims;
  base_lines = lines_in l.base_lines;
  base_targets = l.base_targets.items;
  step_lines = lines_in l.step_lines;
  step_targets = l.step_targets.items;
}

abbrev pub certificate_in : Stored → Certificate
certificate_in c = record { kind = c.kind; layers = map layer_in c.layers.items; lines = lines_in c.lines; target = c.target }

-- line k + 1 is a hinted step over the clauses, the earlier lines and those of this list before it
abbrev pub IsGoodStep : List (List Literal) → List (List Literal) → ℕ → List HintedLine → ℕ → Type 0
IsGoodStep clauses earlier greatest lines k =
    IsHintedStep clauses (earlier ++ first_clauses lines k) greatest (line_at lines k).literals (line_at lines k).hints
