-- An occurrence is a place in the tree of a formula. Places are numbered from 0, a parent before its children and left before right, which is
-- the order in which the text of the formula begins them. So the places under a place follow it without a gap.
use Rattle.std.specs.Prelude.{ℕ, zero, suc, ◌+◌, ◌-◌, ◌<◌, ◌≤◌, Bool, false, ◌&&◌, ◌||◌, not, ◌==◌, nat_lt, if◌then◌else◌, List, [], ◌∷◌, ◌++◌, length, IsTrue}
use Rattle.std.specs.Prelude.{IsFalse, ◌≡◌}
use Rattle.ltl_syntax.specs.Formula.{Fresh, Formula, Const, Letter, Unary, Binary, nodes_in}

-- a set of places
abbrev pub Places : Type 0
Places = ℕ → Bool

abbrev pub nowhere : Places
nowhere n = false

-- the sets have the same places
abbrev pub AreSame : Places → Places → Type 0
AreSame P Q = (n : ℕ) → P n ≡ Q n

-- the formula at a place
abbrev pub part_at : Formula → ℕ → Formula
part_at f zero = f
part_at (Const b) (suc n) = Const b
part_at (Letter p) (suc n) = Letter p
part_at (Unary op a) (suc n) = part_at a n
part_at (Binary op a b) (suc n) = if nat_lt n (nodes_in a) then part_at a n else part_at b (n - nodes_in a)

-- how many places the formula at a place takes: this one and those under it
abbrev pub size_at : Formula → ℕ → ℕ
size_at f n = nodes_in (part_at f n)

-- place n is under place m: it stands in the formula at m, and is not m
abbrev pub IsUnder : Formula → ℕ → ℕ → Type 0
IsUnder f n m = (m < n) × (n < m + size_at f m)

abbrev pub is_under : Formula → ℕ → ℕ → Bool
is_under f n m = nat_lt m n && nat_lt n (m + size_at f m)

-- the formulas at the places of P in the order of the text, where f stands at a place of a larger formula. What is under a place of P goes with it
abbrev pub replaced_from : Places → ℕ → Formula → List Formula
replaced_from P at (Const b) = if P at then Const b ∷ [] else []
replaced_from P at (Letter p) = if P at then Letter p ∷ [] else []
replaced_from P at (Unary op a) = if P at then Unary op a ∷ [] else replaced_from P (suc at) a
replaced_from P at (Binary op a b) = if P at then Binary op a b ∷ [] else replaced_from P (suc at) a ++ replaced_from P (suc at + nodes_in a) b

-- f with a fresh letter at each place of P, numbered from a number on in the order of the text
abbrev pub rep_from : Places → ℕ → ℕ → Formula → Formula
rep_from P at next (Const b) = if P at then Letter (Fresh next) else Const b
rep_from P at next (Letter p) = if P at then Letter (Fresh next) else Letter p
rep_from P at next (Unary op a) = if P at then Letter (Fresh next) else Unary op (rep_from P (suc at) next a)
rep_from P at next (Binary op a b) =
    if P at
    then Letter (Fresh next)
    else Binary op (rep_from P (suc at) next a) (rep_from P (suc at + nodes_in a) (next + length (replaced_from P (suc at) a)) b)

-- the occurrences of f that P replaces, in the order of the text
abbrev pub replaced : Formula → Places → List Formula
replaced f P = replaced_from P 0 f

-- f with each place of P replaced by a fresh letter, numbered from 0 in the order of the text
abbrev pub rep : Formula → Places → Formula
rep f P = rep_from P 0 0 f

-- no place of the set is under another, and all are places of f
pub record AreApart (f : Formula) (P : Places) : Type 0 where
  pub there : (n : ℕ) → IsTrue (P n) → n < nodes_in f
  pub apart : (n m : ℕ) → IsTrue (P n) → IsTrue (P m) → IsUnder f n m → ⊥

-- an occurrence is kept where it is neither in P nor under a member of P
pub record IsKept (f : Formula) (P : Places) (n : ℕ) : Type 0 where
  pub there : n < nodes_in f
  pub free : IsFalse (P n)
  pub above : (m : ℕ) → IsTrue (P m) → IsUnder f n m → ⊥

-- P with the place n put in and the members under it taken out
abbrev pub added : Formula → Places → ℕ → Places
added f P n k = k == n || P k && not (is_under f k n)

-- no member before a place reaches it
abbrev pub IsClear : Formula → Places → ℕ → Type 0
IsClear f P at = (m : ℕ) → m < at → IsTrue (P m) → m + size_at f m ≤ at
