-- The prune rule over pairs of states, as the clauses have it.
use Rattle.std.specs.Prelude.{◌≡◌, ℕ, ◌<◌, IsTrue, Contains}
use Rattle.ltl_syntax.specs.Formula.{Formula}
use Rattle.ltl_closure.specs.Norm.{Norm}
use Rattle.ltl_closure.specs.Closure.{eventualities}
use Rattle.ltl_closure.specs.Run.{States, carry, is_pending, IsFulfilledIn}

-- an earlier state has the carry of state i
abbrev pub IsRepeated : Formula → States → ℕ → Type 0
IsRepeated f r i = (l : ℕ) × (l < i) × (carry f (r l) ≡ carry f (r i))

-- an earlier state has the carry of state i, and e is fulfilled after it and up to i
abbrev pub IsSeen : Formula → States → ℕ → Norm → Type 0
IsSeen f r i e = (l : ℕ) × (l < i) × (carry f (r l) ≡ carry f (r i)) × IsFulfilledIn r l i e

-- pending at i, fulfilled after j and up to i, and not seen at j
abbrev pub IsNew : Formula → States → ℕ → ℕ → Norm → Type 0
IsNew f r j i e = IsTrue (is_pending (r i) e) × IsFulfilledIn r j i e × (IsSeen f r j e → ⊥)

-- the pair j, i prunes
abbrev pub PairPrunes : Formula → States → ℕ → ℕ → Type 0
PairPrunes f r j i = (carry f (r j) ≡ carry f (r i)) × IsRepeated f r j × ((e : Norm) → Contains (eventualities f) e → IsNew f r j i e → ⊥)
