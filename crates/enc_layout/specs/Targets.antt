-- Which lines of a log close a tableau.
use Rattle.std.specs.Prelude.{◌≡◌, ℕ, suc, ◌+◌, ◌≤◌, List, [], ◌∷◌, length, slice_index_or, All, Contains, Some}
use Rattle.ltl_syntax.specs.declared.node.Kind.{Kind}
use Rattle.ltl_syntax.specs.Formula.{Formula}
use Rattle.cnf_base.specs.declared.literal.Literal.{Literal as Signed}
use Rattle.cnf_base.specs.Step.{numbered}
use Rattle.enc_layout.specs.Letters.{Meaning, Unpruned, Here, Accepted}
use Rattle.enc_layout.specs.Clauses.{Minus, signed}

-- the literal that is true where the letter is not
abbrev pub negative_of : Formula → Kind → Meaning → Signed
negative_of f kind p = signed f kind (Minus p)

-- the target after the first i ones names a line, from 1, that has only these literals
abbrev pub IsTarget : List (List Signed) → List ℕ → ℕ → List Signed → Type 0
IsTarget lines targets i literals = (line : List Signed) × (numbered lines (slice_index_or targets i 0) ≡ Some line) × All (Contains literals) line

-- the targets of depth k: target i + 1 says that no run is accepted at state i, the last one that each run of k + 1 states is pruned
pub record CloseTableau (f : Formula) (kind : Kind) (k : ℕ) (lines : List (List Signed)) (targets : List ℕ) : Type 0 where
  pub count : length targets ≡ k + 2
  pub accepted : (i : ℕ) → i ≤ k → IsTarget lines targets i (negative_of f kind (Here i) ∷ negative_of f kind (Accepted i) ∷ [])
  pub unpruned : IsTarget lines targets (suc k) (negative_of f kind (Here k) ∷ negative_of f kind Unpruned ∷ [])
