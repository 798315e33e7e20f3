-- The last of a few clauses, where the index is none of those before.
use Rattle.std.proofs.Common.{◌≡◌, ℕ, ◌<◌, arith, refl, ◌≢◌, List, [], ◌∷◌, slice_index_or}
use Rattle.cnf_base.specs.declared.literal.Literal.{Literal as Signed}

abbrev C : Type 0
C = List Signed

pub only : (a : C) (index : ℕ) → index < 1 → a ≡ slice_index_or (a ∷ []) index []
only a index lt = let e : index ≡ 0 = omega arith in rw e refl

pub last_of_two : (a b : C) (index : ℕ) → index < 2 → index ≢ 0 → b ≡ slice_index_or (a ∷ b ∷ []) index []
last_of_two a b index lt n = let e : index ≡ 1 = omega arith in rw e refl

pub last_of_three : (a b c : C) (index : ℕ) → index < 3 → index ≢ 0 → index ≢ 1 → c ≡ slice_index_or (a ∷ b ∷ c ∷ []) index []
last_of_three a b c index lt n m = let e : index ≡ 2 = omega arith in rw e refl

pub last_of_four : (a b c d : C) (index : ℕ) → index < 4 → index ≢ 0 → index ≢ 1 → index ≢ 2 → d ≡ slice_index_or (a ∷ b ∷ c ∷ d ∷ []) index []
last_of_four a b c d index lt n m o = let e : index ≡ 3 = omega arith in rw e refl
