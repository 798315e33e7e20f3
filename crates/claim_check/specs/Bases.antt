-- What the claims of a layer rest on at its base, claim by claim.
use Rattle.std.specs.Prelude.{◌≡◌, ℕ, suc, ◌+◌, ◌*◌, ◌<◌, List, [], ◌∷◌, ◌++◌, length, slice_index_or, Option, Some, None, ⊤}
use Rattle.ltl_syntax.specs.declared.node.Kind.{Kind}
use Rattle.ltl_syntax.specs.declared.node.Kind.TheVariants as Kinds
use Rattle.ltl_syntax.specs.Formula.{Formula}
use Rattle.cnf_base.specs.declared.literal.Literal.{Literal as Signed}
use Rattle.ltl_closure.specs.Closure.{closure, eventualities}
use Rattle.ltl_closure.specs.Entries.{place_in}
use Rattle.ltl_closure.specs.Run.{request_of, right_of}
use Rattle.ltl_closure.specs.declared.entry.Entry.{Entry}
use Rattle.ltl_closure.specs.declared.entry.Entry.TheVariants as Is
use Rattle.enc_layout.specs.Clauses.{eventuality}
use Rattle.enc_layout.specs.Targets.{IsTarget}
use Rattle.log_checker.specs.Judging.{IsFirstBad}
use Rattle.claims.specs.Certificate.{Layer, claim_at}
use Rattle.claims.specs.Lawful.{not_after, not_last, pending, not_fulfilled}
use Rattle.claim_check.specs.declared.base.Base.{Base}
use Rattle.claim_check.specs.declared.base.Base.TheVariants.{Last, Everywhere, Meeting}

-- the number, from 1, of the first place below the count that is not good
abbrev pub IsFirst : (ℕ → Type 0) → ℕ → ℕ → Type 0
IsFirst Good count n = (k : ℕ) × (n ≡ suc k) × IsFirstBad Good 0 count (Some k)

-- the same; none where all are good
abbrev pub IsFound : (ℕ → Type 0) → ℕ → Option ℕ → Type 0
IsFound Good count None = (k : ℕ) → k < count → Good k
IsFound Good count (Some n) = IsFirst Good count n

-- a target has only literals of the claim and of these others
abbrev pub IsHeld : List (List Signed) → List (List Signed) → List ℕ → List Signed → ℕ → Type 0
IsHeld lines claims targets others q = IsTarget lines targets q (slice_index_or claims q [] ++ others)

-- one target has only literals of the claim and of the one list, and the next only literals of it and of the other
abbrev pub IsHeldTwice : List (List Signed) → List (List Signed) → List ℕ → List Signed → List Signed → ℕ → Type 0
IsHeldTwice lines claims targets some others q =
    IsTarget lines targets (2 * q) (slice_index_or claims q [] ++ some) × IsTarget lines targets (2 * q + 1) (slice_index_or claims q [] ++ others)

-- the number of the right operand of an entry `a U b`, and of its request; of any other entry its own
abbrev pub right_by : ℕ → Entry → ℕ
right_by t (Is.Until a b r) = b
right_by t x = t

abbrev pub request_by : ℕ → Entry → ℕ
request_by t (Is.Until a b r) = r
request_by t x = t

abbrev pub right_number : Formula → ℕ → ℕ
right_number f m = place_in (closure f) (right_of (eventuality f m))

abbrev pub request_number : Formula → ℕ → ℕ
request_number f m = place_in (closure f) (request_of (eventuality f m))

-- a layer's eventuality, where it has one, is one of the formula's; for finite traces none has one
abbrev pub HasBase : Formula → Kind → Option ℕ → Type 0
HasBase f Kinds.Finite None = ⊤
HasBase f Kinds.Finite (Some m) = ⊥
HasBase f Kinds.Infinite None = ⊤
HasBase f Kinds.Infinite (Some m) = m < length (eventualities f)

-- the base of such a layer
abbrev pub IsBaseOf : Formula → Kind → Option ℕ → Base → Type 0
IsBaseOf f Kinds.Finite None b = b ≡ Last
IsBaseOf f Kinds.Finite (Some m) b = ⊥
IsBaseOf f Kinds.Infinite None b = b ≡ Everywhere
IsBaseOf f Kinds.Infinite (Some m) b = (m < length (eventualities f)) × (b ≡ Meeting (pending f m) (not_fulfilled f m))

-- claim q + 1 holds at the base: at a last state, everywhere, or where the next state meets the eventuality
abbrev pub IsBased : Formula → Kind → List (List Signed) → Layer → Option ℕ → ℕ → Type 0
IsBased f Kinds.Finite lines layer None q = IsTarget lines layer.base_targets q (claim_at layer q ++ not_last f ∷ [])
IsBased f Kinds.Finite lines layer (Some m) q = ⊥
IsBased f Kinds.Infinite lines layer None q = IsTarget lines layer.base_targets q (claim_at layer q ++ not_after f ∷ [])
IsBased f Kinds.Infinite lines layer (Some m) q =
    IsTarget lines layer.base_targets (2 * q) (claim_at layer q ++ not_after f ∷ pending f m ∷ [])
    × IsTarget lines layer.base_targets (2 * q + 1) (claim_at layer q ++ not_after f ∷ not_fulfilled f m ∷ [])
