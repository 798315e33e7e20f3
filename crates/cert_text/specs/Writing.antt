-- The certificate of given lines and targets, with each line deleted after its last use.
use Rattle.std.specs.Prelude.{◌≡◌, ℕ, zero, suc, ◌-◌, ◌<◌, ◌≤◌, Bool, false, not, nat_lt, nat_le, ◌&&◌, ◌==◌, ◌⊎◌, List, [], ◌∷◌, ◌++◌, length, filter}
use Rattle.std.specs.Prelude.{slice_index_or, Contains, if◌then◌else◌, ⊤}
use Rattle.std.specs.List.{list_any}
use Rattle.ltl_syntax.specs.declared.node.Kind.{Kind}
use Rattle.cnf_base.specs.declared.literal.Literal.{Literal}
use Rattle.cnf_base.specs.declared.literal.Hint.{Hint}
use Rattle.cnf_base.specs.declared.literal.Hint.TheVariants as hints
use Rattle.cert_text.specs.Text.{Part, Line, Delete, Certificate}

-- whether the hint names line m
abbrev pub is_line : ℕ → Hint → Bool
is_line m (hints.Clause n) = false
is_line m (hints.Line n) = n == m

-- whether one of the hints does
abbrev pub uses : ℕ → List Hint → Bool
uses m hs = list_any (is_line m) hs

-- the last of these lines that has line m as a hint, or else the line that is given; n lines stand before them
abbrev pub last_among : ℕ → ℕ → List (List Hint) → ℕ → ℕ
last_among m n [] last = last
last_among m n (hs ∷ hss) last = last_among m (suc n) hss (if uses m hs then suc n else last)

-- the last use of line m: the greatest line that has it as a hint, or m where none has
abbrev pub last_use : List (List Hint) → ℕ → ℕ
last_use hss m = last_among m 0 hss m

-- the numbers from 1 to n
abbrev pub numbers_to : ℕ → List ℕ
numbers_to zero = []
numbers_to (suc n) = numbers_to n ++ suc n ∷ []

-- the lines up to n that are no target and whose last use is line n, ascending
abbrev pub ended_at : List (List Hint) → List ℕ → ℕ → List ℕ
ended_at hss targets n = filter (λ m. not (list_any (λ t. t == m) targets) && (last_use hss m == n)) (numbers_to n)

-- the delete that names these lines, where there are any
abbrev pub delete_of : List ℕ → List Part
delete_of [] = []
delete_of (n ∷ ns) = Delete (n ∷ ns) ∷ []

-- these lines with what is deleted behind each; hss are the hints of all lines, and n lines stand before these
abbrev pub parts_from : List (List Hint) → List ℕ → ℕ → List (List Literal) → List (List Hint) → List Part
parts_from hss targets n [] hs = []
parts_from hss targets n (l ∷ ls) [] = []
parts_from hss targets n (l ∷ ls) (h ∷ hs) = Line l h ∷ (delete_of (ended_at hss targets (suc n)) ++ parts_from hss targets (suc n) ls hs)

-- the certificate of the lines with their hints, and of the targets
abbrev pub written : Kind → ℕ → List (List Literal) → List (List Hint) → List ℕ → Certificate
written kind depth lines hints targets = record { version = 2; kind = kind; depth = depth; parts = parts_from hints targets 0 lines hints; targets = targets }

-- each number is greater than the one before it, and the first than this one
abbrev pub Ascends : ℕ → List ℕ → Type 0
Ascends low [] = ⊤
Ascends low (n ∷ ns) = (low < n) × Ascends n ns

-- line m, from 1 to n, is no target and its last use is line n
pub record EndsAt (hss : List (List Hint)) (targets : List ℕ) (n m : ℕ) : Type 0 where
  pub low : 1 ≤ m
  pub high : m ≤ n
  pub no_target : ¬ Contains targets m
  pub last : last_use hss m ≡ n

-- line n is the last use of line m: the greatest that has it as a hint, or m itself where none has
pub record IsLastUse (hss : List (List Hint)) (m n : ℕ) : Type 0 where
  pub greatest : (j : ℕ) → j < length hss → Contains (slice_index_or hss j []) (hints.Line m) → suc j ≤ n
  pub is : ((j : ℕ) × (j < length hss) × (n ≡ suc j) × Contains (slice_index_or hss j []) (hints.Line m))
      ⊎ ((n ≡ m) × ((j : ℕ) → j < length hss → ¬ Contains (slice_index_or hss j []) (hints.Line m)))

-- each line that the hints name has its last use at this line now, and the others keep theirs
pub record IsNoted (hs : List Hint) (line : ℕ) (old new : List ℕ) : Type 0 where
  pub count : length new ≡ length old
  pub each : (k : ℕ) → k < length old → slice_index_or new k 0 ≡ (if uses (suc k) hs then line else slice_index_or old k 0)

-- the last uses of lines 1 to count, where the hints of these lines are gone through
pub record AreLast (hss : List (List Hint)) (count : ℕ) (last : List ℕ) : Type 0 where
  pub size : length last ≡ count
  pub each : (k : ℕ) → k < count → slice_index_or last k 0 ≡ last_use hss (suc k)

-- the lines that the hints name
abbrev pub named_lines : List Hint → List ℕ
named_lines [] = []
named_lines (hints.Line n ∷ hs) = n ∷ named_lines hs
named_lines (hints.Clause n ∷ hs) = named_lines hs

-- whether the line is no target and its last use is this one, by the list of last uses
abbrev pub is_ended : List ℕ → List ℕ → ℕ → ℕ → Bool
is_ended last targets line m = ((nat_lt 0 m && nat_le m (length last)) && (slice_index_or last (m - 1) 0 == line)) && not (list_any (λ t. t == m) targets)
