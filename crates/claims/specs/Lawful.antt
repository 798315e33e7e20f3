-- When a certificate of claims is lawful for a formula and a kind. What a line may name is a list that only grows: the list of a step; the claims
-- of a layer at the next state from its step lines on, and those at the state itself from the next layer on; and all lines before it.
use Rattle.std.specs.Prelude.{◌≡◌, ℕ, ◌+◌, ◌*◌, ◌<◌, List, [], ◌∷◌, ◌++◌, length, Option, Some, None}
use Rattle.ltl_syntax.specs.declared.node.Kind.{Kind}
use Rattle.ltl_syntax.specs.declared.node.Kind.TheVariants as Kinds
use Rattle.ltl_syntax.specs.Formula.{Formula}
use Rattle.cnf_base.specs.declared.literal.Literal.{Literal as Signed}
use Rattle.cnf_base.specs.Known.{AreKnown}
use Rattle.cnf_base.specs.Step.{IsHintedStep}
use Rattle.ltl_closure.specs.Closure.{eventualities}
use Rattle.ltl_closure.specs.Run.{request_of, right_of}
use Rattle.enc_layout.specs.Letters.{below}
use Rattle.enc_layout.specs.Clauses.{Plus, Minus, letter_of, eventuality}
use Rattle.enc_layout.specs.Targets.{IsTarget}
use Rattle.claims.specs.Between.{after, first, last, width, greatest, signed, step_list}
use Rattle.claims.specs.Certificate.{HintedLine, Layer, Certificate, line_at, layer_at, claim_at, first_clauses, clauses_of, lines_of, next_claims, both_claims}

-- each line is a hinted step over the clauses, the earlier lines and those of this list before it; each letter is one of those from 1 to the greatest
abbrev pub AreHintedSteps : List (List Signed) → List (List Signed) → ℕ → List HintedLine → Type 0
AreHintedSteps clauses earlier greatest lines =
    (k : ℕ) → k < length lines → IsHintedStep clauses (earlier ++ first_clauses lines k) greatest (line_at lines k).literals (line_at lines k).hints

-- for each claim of the layer a target names a line that has only literals of the claim and these others
abbrev pub AreTargets : List (List Signed) → Layer → List ℕ → List Signed → Type 0
AreTargets lines layer targets others = (q : ℕ) → q < length layer.claims → IsTarget lines targets q (claim_at layer q ++ others)

-- for each claim a target names a line that has only literals of the claim and of the one list, and the next target one that has only literals of the
-- claim and of the other
pub record ArePairedTargets (lines : List (List Signed)) (layer : Layer) (targets : List ℕ) (some others : List Signed) : Type 0 where
  pub one : (q : ℕ) → q < length layer.claims → IsTarget lines targets (2 * q) (claim_at layer q ++ some)
  pub other : (q : ℕ) → q < length layer.claims → IsTarget lines targets (2 * q + 1) (claim_at layer q ++ others)

-- the literals that are true where there is no next state, where the state is no first one, and where it is no last one
abbrev pub not_after : Formula → Signed
not_after f = signed f (Minus after)

abbrev pub not_first : Formula → Signed
not_first f = signed f (Minus first)

abbrev pub not_last : Formula → Signed
not_last f = signed f (Minus last)

-- the literal that is true where eventuality m + 1 is pending at the next state, and the one that is true where it isn't fulfilled there
abbrev pub pending : Formula → ℕ → Signed
pending f m = signed f (Plus (letter_of f 1 (request_of (eventuality f m))))

abbrev pub not_fulfilled : Formula → ℕ → Signed
not_fulfilled f m = signed f (Minus (letter_of f 1 (right_of (eventuality f m))))

-- the targets of the base. For finite traces they say that the claims hold at a last state; for infinite ones that they hold everywhere, or that
-- they hold where the next state meets the eventuality: it isn't pending there, or it is fulfilled. The next state, and not the state itself: else
-- a second layer with the same eventuality would add nothing, as it would be met by the same state again
abbrev pub IsBase : Formula → Kind → List (List Signed) → Layer → Option ℕ → Type 0
IsBase f Kinds.Finite lines layer None = AreTargets lines layer layer.base_targets (not_last f ∷ [])
IsBase f Kinds.Finite lines layer (Some m) = ⊥
IsBase f Kinds.Infinite lines layer None = AreTargets lines layer layer.base_targets (not_after f ∷ [])
IsBase f Kinds.Infinite lines layer (Some m) =
    (m < length (eventualities f)) × ArePairedTargets lines layer layer.base_targets (not_after f ∷ pending f m ∷ []) (not_after f ∷ not_fulfilled f m ∷ [])

-- the layer is lawful, where these clauses and these lines may be named before it
pub record IsLawfulLayer (f : Formula) (kind : Kind) (clauses lines : List (List Signed)) (layer : Layer) : Type 0 where
  pub claims : AreKnown (width f) layer.claims
  pub base_lines : AreHintedSteps clauses lines (greatest f) layer.base_lines
  pub base : IsBase f kind (lines ++ clauses_of layer.base_lines) layer layer.eventuality
  pub step_lines : AreHintedSteps (clauses ++ next_claims (width f) layer) (lines ++ clauses_of layer.base_lines) (greatest f) layer.step_lines
  pub step : AreTargets (lines ++ clauses_of layer.base_lines ++ clauses_of layer.step_lines) layer layer.step_targets (not_after f ∷ [])

-- the clauses that may be named before layer j + 1: the list of a step, and the claims of the layers before it, at both states
abbrev pub clauses_before : Formula → Certificate → ℕ → List (List Signed)
clauses_before f c j = step_list f ++ below j (λ i. both_claims (width f) (layer_at c i))

-- the lines before it
abbrev pub lines_before : Certificate → ℕ → List (List Signed)
lines_before c j = below j (λ i. lines_of (layer_at c i))

-- each layer is lawful
abbrev pub AreLawfulLayers : Formula → Kind → Certificate → Type 0
AreLawfulLayers f kind c = (j : ℕ) → j < length c.layers → IsLawfulLayer f kind (clauses_before f c j) (lines_before c j) (layer_at c j)

-- the certificate is lawful for the formula and the kind: each layer is, and a line says that no state is a first one
pub record IsLawful (f : Formula) (kind : Kind) (c : Certificate) : Type 0 where
  pub same_kind : c.kind ≡ kind
  pub layers : AreLawfulLayers f kind c
  pub lines : AreHintedSteps (clauses_before f c (length c.layers)) (lines_before c (length c.layers)) (greatest f) c.lines
  pub close : IsTarget (lines_before c (length c.layers) ++ clauses_of c.lines) (c.target ∷ []) 0 (not_first f ∷ [])
