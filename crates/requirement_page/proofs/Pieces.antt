-- A text that grows piece by piece.
use Rattle.std.proofs.Common.{◌≡◌, ℕ, ◌+◌, if◌then◌else◌, List, [], ◌++◌, Result, Ok, Err, OnOk, ap, sym, ◌∙◌, append_assoc, add-one}
use Rattle.std.specs.Result.{is_ok}
use Rattle.trace_view.specs.Text.{below}

below_more : (k : ℕ) (g : ℕ → List ℕ) → below (k + 1) g ≡ below k g ++ g k
below_more k g = ap (λ n. below n g) (add-one k)

-- the next piece of a loop
pub piece_behind : (old text new : List ℕ) (k : ℕ) (g : ℕ → List ℕ) → text ≡ old ++ below k g → new ≡ text ++ g k → new ≡ old ++ below (k + 1) g
piece_behind old text new k g before is =
    is ∙ ap (λ t. t ++ g k) before ∙ append_assoc old (below k g) (g k) ∙ ap (λ t. old ++ t) (sym (below_more k g))

-- a text that grew by a piece
pub record Grew (old new piece : List ℕ) : Type 0 where
  pub is : new ≡ old ++ piece

pub from : {new : List ℕ} (old piece : List ℕ) → new ≡ old ++ piece → Grew old new piece
from old piece e = record { is = e }

pub by : {old new : List ℕ} (piece : List ℕ) → new ≡ old ++ piece → Grew old new piece
by piece e = record { is = e }

-- by a piece, and then by more
pub before : {old text new piece more : List ℕ} → Grew old text piece → Grew text new more → Grew old new (piece ++ more)
before {old} {text} {new} {piece} {more} g h = record { is = h.is ∙ (ap (λ t. t ++ more) g.is ∙ append_assoc old piece more) }

-- a text that was empty is the piece
pub from_nothing : {old new piece : List ℕ} → old ≡ [] → Grew old new piece → new ≡ piece
from_nothing {old} {new} {piece} none g = g.is ∙ ap (λ t. t ++ piece) none

-- what the last call adds, where it succeeds
pub where_ok : {X E : Type 0} (r : Result X E) (old piece new : List ℕ) → new ≡ (if is_ok r then old ++ piece else old) → OnOk r (new ≡ old ++ piece)
where_ok (Ok x) old piece new e = e
where_ok (Err x) old piece new e = tt
