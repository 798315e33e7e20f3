-- A trace extended by the values of the occurrences that a replacement takes out: each fresh letter is true where the formula that it stands for holds.
use Rattle.std.specs.Prelude.{◌≡◌, ℕ, ◌+◌, ◌*◌, ◌^◌, ◌<◌, ◌≤◌, ◌↔◌, List, length, slice_index_or, Contains, ⊤}
use Rattle.ltl_syntax.specs.Formula.{Name, Fresh, Formula, Const, Letter, Unary, Binary, nodes_in}
use Rattle.ltl_syntax.specs.Table.{IsPlain}
use Rattle.ltl_word.specs.declared.trace.Trace.{Trace}
use Rattle.ltl_word.specs.declared.trace.Trace.TheVariants.{Infinite, Finite}
use Rattle.ltl_word.specs.Trace.{IsPosition, state_at}
use Rattle.ltl_word.specs.Holds.{Holds, name_of}
use Rattle.ltl_word.specs.Depth.{past_depth}
use Rattle.ltl_syntax.specs.Replacement.{Places, replaced}

-- a formula as a text can write it: no letter is fresh, and no name begins with an opening brace
abbrev pub IsOriginal : Formula → Type 0
IsOriginal (Const b) = ⊤
IsOriginal (Letter (Name bytes)) = IsPlain bytes
IsOriginal (Letter (Fresh n)) = ⊥
IsOriginal (Unary op a) = IsOriginal a
IsOriginal (Binary op a b) = IsOriginal a × IsOriginal b

-- the formula is one that a text can write. No two fresh letters that replace occurrences of it have one name, since they are few
abbrev pub IsGiven : Formula → Type 0
IsGiven f = IsOriginal f × (nodes_in f ≤ 2 ^ 64)

-- u has as many states as t, or h loops more in its stem
abbrev pub IsLonger : ℕ → Trace → Trace → Type 0
IsLonger h (Infinite stem loop_part) (Infinite stem' loop_part') = (length stem' ≡ length stem + h * length loop_part) × (length loop_part' ≡ length loop_part)
IsLonger h (Finite states) (Finite states') = length states' ≡ length states
IsLonger h (Infinite stem loop_part) (Finite states') = ⊥
IsLonger h (Finite states) (Infinite stem' loop_part') = ⊥

-- at each position the plain names of u are those of t, and the n-th fresh letter is true where the n-th replaced occurrence holds
pub record IsExtension (f : Formula) (P : Places) (t u : Trace) : Type 0 where
  pub longer : IsLonger (past_depth f) t u
  pub named : (i : ℕ) (name : List ℕ) → IsPosition t i → IsPlain name → Contains (state_at u i) name ↔ Contains (state_at t i) name
  pub fresh : (i n : ℕ) → IsPosition t i → n < length (replaced f P)
      → Contains (state_at u i) (name_of (Fresh n)) ↔ Holds t (slice_index_or (replaced f P) n f) i
