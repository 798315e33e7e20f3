-- Certificates of claims: that no trace of a kind satisfies a formula, without a depth. A claim is a clause over the entries of one state that no
-- state of a trace breaks. Claims stand in layers, and each layer is an inductive invariant relative to those before it, as in IC3 (Bradley,
-- SAT-based model checking without unrolling, 2011). An infinite trace meets an eventuality again and again, and each time may have a layer of its
-- own, where k-liveness counts (Claessen and Sorensson, A liveness checking algorithm that counts, 2012). That claims are proved backwards, from a
-- state to the one before it, is ours: they speak of what a state still owes, and not of how it was reached.
use Rattle.std.specs.Prelude.{ℕ, ◌+◌, List, [], ◌∷◌, ◌++◌, map, length, slice_index_or, Option, None}
use Rattle.ltl_syntax.specs.declared.node.Kind.{Kind}
use Rattle.cnf_base.specs.declared.literal.Literal.{Literal}
use Rattle.cnf_base.specs.declared.literal.Hint.{Hint}
use Rattle.enc_layout.specs.Letters.{below}

-- a line: a clause, and the hints by which it follows
pub record HintedLine : Type 0 where
  pub literals : List Literal
  pub hints : List Hint

-- a layer: its claims; the lines and the targets of the base, by which they hold at a last state, or before a state that meets the eventuality, or
-- everywhere where it names none; and those of the step, by which they hold at a state where they hold at the next one. Eventuality m + 1 is m here
pub record Layer : Type 0 where
  pub eventuality : Option ℕ
  pub claims : List (List Literal)
  pub base_lines : List HintedLine
  pub base_targets : List ℕ
  pub step_lines : List HintedLine
  pub step_targets : List ℕ

-- the layers, and the lines and the target by which the certificate is closed: no state is a first one
pub record Certificate : Type 0 where
  pub kind : Kind
  pub layers : List Layer
  pub lines : List HintedLine
  pub target : ℕ

-- line k + 1, layer j + 1 and claim q + 1
abbrev pub line_at : List HintedLine → ℕ → HintedLine
line_at lines k = slice_index_or lines k (record { literals = []; hints = [] })

abbrev pub layer_at : Certificate → ℕ → Layer
layer_at c j = slice_index_or c.layers j (record { eventuality = None; claims = []; base_lines = []; base_targets = []; step_lines = []; step_targets = [] })

abbrev pub claim_at : Layer → ℕ → List Literal
claim_at layer q = slice_index_or layer.claims q []

-- the clauses of the first k lines, and of all
abbrev pub first_clauses : List HintedLine → ℕ → List (List Literal)
first_clauses lines k = below k (λ i. (line_at lines i).literals ∷ [])

abbrev pub clauses_of : List HintedLine → List (List Literal)
clauses_of lines = first_clauses lines (length lines)

-- those of a layer's lines
abbrev pub lines_of : Layer → List (List Literal)
lines_of layer = clauses_of layer.base_lines ++ clauses_of layer.step_lines

-- the literal of an entry at the next state, where there are w entries
abbrev pub at_next : ℕ → Literal → Literal
at_next w l = record { letter = record { 0 = w + l.letter.0 }; negated = l.negated }

-- the claims of a layer at the next state
abbrev pub next_claims : ℕ → Layer → List (List Literal)
next_claims w layer = map (map (at_next w)) layer.claims

-- the claims of a layer at both states, in the order in which they are opened
abbrev pub both_claims : ℕ → Layer → List (List Literal)
both_claims w layer = next_claims w layer ++ layer.claims
