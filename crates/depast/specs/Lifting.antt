-- A trace with the truth values of a formula's new names, and one without them.
use Rattle.std.specs.Prelude.{◌≡◌, ◌≢◌, ℕ, zero, suc, ◌+◌, ◌*◌, ◌<◌, ◌↔◌, false, List, [], ◌∷◌, ◌++◌, length, slice_index_or, Contains}
use Rattle.ltl_syntax.specs.declared.node.UnaryOp.{UnaryOp}
use Rattle.ltl_syntax.specs.declared.node.BinaryOp.{BinaryOp}
use Rattle.ltl_syntax.specs.declared.node.UnaryOp.TheVariants.{Always, AlwaysIn, Eventually, EventuallyIn, Historically, HistoricallyIn, Next, NextTimes, Not}
use Rattle.ltl_syntax.specs.declared.node.UnaryOp.TheVariants.{Once, OnceIn, WeakNext, WeakYesterday, Yesterday, YesterdayTimes}
use Rattle.ltl_syntax.specs.declared.node.BinaryOp.TheVariants.{And, Iff, Implies, Or, Release, Since, StrongRelease, Trigger, Until, WeakUntil}
use Rattle.ltl_syntax.specs.Formula.{Formula, Const, Letter, Unary, Binary}
use Rattle.ltl_word.specs.declared.trace.Trace.{Trace}
use Rattle.ltl_word.specs.declared.trace.Trace.TheVariants.{Infinite, Finite}
use Rattle.ltl_word.specs.Trace.{IsPosition, state_at}
use Rattle.ltl_word.specs.Holds.{Holds}
use Rattle.ltl_word.specs.Depth.{past_depth}
use Rattle.depast.specs.Names.{most_leading, new_name}
use Rattle.depast.specs.Depast.{taken}

-- g 1, g 2 and so on to g n
abbrev pub counted : (ℕ → Formula) → ℕ → List Formula
counted g zero = []
counted g (suc n) = counted g n ++ g (suc n) ∷ []

-- what the names of an operator stand for, in their order
abbrev pub meanings₁ : UnaryOp → Formula → List Formula
meanings₁ Not a = []
meanings₁ Next a = []
meanings₁ WeakNext a = []
meanings₁ Eventually a = []
meanings₁ Always a = []
meanings₁ Yesterday a = Unary Yesterday a ∷ []
meanings₁ WeakYesterday a = Unary WeakYesterday a ∷ []
meanings₁ Once a = Unary Once a ∷ []
meanings₁ Historically a = Unary Historically a ∷ []
meanings₁ (NextTimes n) a = []
meanings₁ (YesterdayTimes n) a = counted (λ m. Unary (YesterdayTimes m) a) n
meanings₁ (EventuallyIn m n) a = []
meanings₁ (AlwaysIn m n) a = []
meanings₁ (OnceIn m n) a = counted (λ k. Unary (YesterdayTimes k) a) n
meanings₁ (HistoricallyIn m n) a = counted (λ k. Unary (HistoricallyIn k k) a) n

abbrev pub meanings₂ : BinaryOp → Formula → Formula → List Formula
meanings₂ And a b = []
meanings₂ Or a b = []
meanings₂ Implies a b = []
meanings₂ Iff a b = []
meanings₂ Until a b = []
meanings₂ Release a b = []
meanings₂ WeakUntil a b = []
meanings₂ StrongRelease a b = []
meanings₂ Since a b = Binary Since a b ∷ []
meanings₂ Trigger a b = Binary Trigger a b ∷ []

-- and those of a formula
abbrev pub meanings : Formula → List Formula
meanings (Const b) = []
meanings (Letter p) = []
meanings (Unary op a) = meanings a ++ meanings₁ op a
meanings (Binary op a b) = meanings a ++ (meanings b ++ meanings₂ op a b)

-- the name is none of the formula's new ones
abbrev pub IsOld : Formula → List ℕ → Type 0
IsOld f name = (k : ℕ) → k < taken f → name ≢ new_name (most_leading f) k

-- a lifted trace has its stem longer by h loops
abbrev pub HasLiftedShape : ℕ → Trace → Trace → Type 0
HasLiftedShape h (Infinite stem loop_part) (Infinite stem' loop_part') =
    (length stem' ≡ length stem + h * length loop_part) × (length loop_part' ≡ length loop_part)
HasLiftedShape h (Finite states) (Finite states') = length states' ≡ length states
HasLiftedShape h (Infinite stem loop_part) (Finite states') = ⊥
HasLiftedShape h (Finite states) (Infinite stem' loop_part') = ⊥

-- at each position the old names are as they were, and a new one is true where its past formula holds
pub record IsLifted (f : Formula) (t u : Trace) : Type 0 where
  pub shape : HasLiftedShape (past_depth f) t u
  pub old_names : (i : ℕ) → IsPosition t i → (name : List ℕ) → IsOld f name → Contains (state_at u i) name ↔ Contains (state_at t i) name
  pub new_names : (i : ℕ) → IsPosition t i → (k : ℕ) → k < taken f
      → Contains (state_at u i) (new_name (most_leading f) k) ↔ Holds t (slice_index_or (meanings f) k (Const false)) i

-- a lowered trace has the same shape, the same old names, and no new one
pub record IsLowered (f : Formula) (u t : Trace) : Type 0 where
  pub shape : HasLiftedShape 0 u t
  pub old_names : (i : ℕ) → IsPosition u i → (name : List ℕ) → IsOld f name → Contains (state_at t i) name ↔ Contains (state_at u i) name
  pub new_names : (i : ℕ) → IsPosition u i → (k : ℕ) → k < taken f → Contains (state_at t i) (new_name (most_leading f) k) → ⊥
