-- The live lines as they are stored: what was deleted may stand among them still, marked.
use Rattle.std.specs.Prelude.{◌≡◌, ℕ, suc, ◌+◌, ◌<◌, ◌≤◌, true, false, not, List, [], ◌∷◌, ◌++◌, length, map, filter, slice_index_or, All, ⊤}
use Rattle.cnf_base.specs.declared.literal.Literal.{Literal}
use Rattle.log_checker.specs.Judging.{LiveLine, is_named}
use Rattle.log_checker.specs.declared.kept.Entry.{Entry}

-- how many lines were taken, and those that are live, ascending
pub record KeptValue : Type 0 where
  pub lines : ℕ
  pub live : List LiveLine

-- a line is taken
abbrev pub with_line : KeptValue → List Literal → KeptValue
with_line k literals = record { lines = suc k.lines; live = k.live ++ record { number = suc k.lines; literals = literals } ∷ [] }

-- the lines of these numbers go
abbrev pub without : KeptValue → List ℕ → KeptValue
without k ns = record { lines = k.lines; live = filter (λ l. not (is_named ns l)) k.live }

abbrev pub line_of : Entry → LiveLine
line_of e = record { number = e.number; literals = e.literals }

-- the lines that are not marked
abbrev pub live_of : List Entry → List LiveLine
live_of es = map line_of (filter (λ e. e.live) es)

abbrev pub blank : Entry
blank = record { number = 0; literals = []; live = true }

-- the number of the line at a place
abbrev pub number_at : List Entry → ℕ → ℕ
number_at es i = (slice_index_or es i blank).number

-- each number is greater than the one before it, and the first than this one
abbrev pub Ascends : ℕ → List Entry → Type 0
Ascends low [] = ⊤
Ascends low (e ∷ es) = (low < e.number) × Ascends e.number es

-- no line of this number is live
abbrev pub AreOthers : List Entry → ℕ → Type 0
AreOthers es n = (i : ℕ) → i < length es → number_at es i ≡ n → (slice_index_or es i blank).live ≡ false

-- the live line of this number stands at a place, behind lower ones
pub record IsAt (es : List Entry) (n i : ℕ) : Type 0 where
  pub below : i < length es
  pub number : number_at es i ≡ n
  pub live : (slice_index_or es i blank).live ≡ true
  pub less : (j : ℕ) → j < i → number_at es j < n

pub record IsKept (lines : ℕ) (es : List Entry) (dead : ℕ) : Type 0 where
  pub ascends : Ascends 0 es
  pub known : All (λ e. e.number ≤ lines) es
  pub count : dead + length (live_of es) ≡ length es
