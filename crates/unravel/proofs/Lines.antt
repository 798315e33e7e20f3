-- Lines that have only some literals: from the answer of a question, and as more lines come.
use Rattle.std.proofs.Common.{◌≡◌, ℕ, zero, suc, ◌-◌, ◌≤◌, arith, List, [], ◌∷◌, ◌++◌, length, Some, slice_get, Contains}
use Rattle.std.proofs.lemmas.Option.{slice_get-get_or}
use Rattle.std.proofs.lemmas.List.Elements.{All-weaker}
use Rattle.cnf_base.specs.declared.literal.Literal.{Literal as Signed}
use Rattle.cnf_base.specs.Literal.{opposite}
use Rattle.cnf_base.specs.Step.{numbered, clause_at}
use Rattle.cdcl.specs.Solving.{IsNegated}
use Rattle.unravel.specs.Depths.{HasOnly}

slice_get_longer : {X : Type 0} (xs ys : List X) (n : ℕ) (x : X) → slice_get xs n ≡ Some x → slice_get (xs ++ ys) n ≡ Some x
slice_get_longer [] ys n x h = cc
slice_get_longer (y ∷ xs) ys zero x h = h
slice_get_longer (y ∷ xs) ys (suc n) x h = slice_get_longer xs ys n x h

-- a line keeps its number
numbered_longer : (lines more : List (List Signed)) (n : ℕ) (line : List Signed) → numbered lines n ≡ Some line → numbered (lines ++ more) n ≡ Some line
numbered_longer lines more zero line h = cc
numbered_longer lines more (suc n) line h = slice_get_longer lines more n line h

pub numbered_at : (lines : List (List Signed)) (n : ℕ) → 1 ≤ n → n ≤ length lines → numbered lines n ≡ Some (clause_at lines n)
numbered_at lines zero from upto = absurd (omega arith)
numbered_at lines (suc m) from upto =
    let e : suc m - 1 ≡ m = omega arith in
    rw e (slice_get-get_or lines m [] (omega arith))

pub only_longer : (lines more : List (List Signed)) (n : ℕ) (literals : List Signed) → HasOnly lines n literals → HasOnly (lines ++ more) n literals
only_longer lines more n literals (line, is, all) = (line, numbered_longer lines more n line is, all)

-- the line of a question that was refuted has only opposites of the question's literals
pub only_from : (lines : List (List Signed)) (n : ℕ) (assumptions literals : List Signed)
    → ((l : Signed) → Contains assumptions (opposite l) → Contains literals l)
    → 1 ≤ n → n ≤ length lines → IsNegated assumptions (clause_at lines n) → HasOnly lines n literals
only_from lines n assumptions literals h from upto negated =
    (clause_at lines n, numbered_at lines n from upto, All-weaker (λ l. Contains assumptions (opposite l)) (Contains literals) h (clause_at lines n) negated)
