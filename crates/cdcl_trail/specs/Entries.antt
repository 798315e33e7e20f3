-- Literals as numbers, and reasons as numbers: 0 where there is none, and else one more than twice the number of the hint, and one more again where it
-- names a line.
use Rattle.std.specs.Prelude.{ℕ, ◌-◌, ◌/◌, ◌%◌, ◌≤◌, nat_eq, if◌then◌else◌, Option, Some, None, IfSome}
use Rattle.cnf_base.specs.declared.literal.Literal.{Literal}
use Rattle.cnf_base.specs.declared.literal.Hint.{Hint}
use Rattle.cnf_base.specs.declared.literal.Hint.TheVariants.{Clause, Line}
use Rattle.cdcl_trail.specs.declared.assigned.TrailEntry.{TrailEntry}

-- the literal of a number: its letter is half of it, and it is negated where the number is odd
abbrev pub literal_of : ℕ → Literal
literal_of n = record { letter = record { 0 = n / 2 }; negated = nat_eq (n % 2) 1 }

-- the hint of a number
abbrev pub hint_of : ℕ → Hint
hint_of n = if nat_eq (n % 2) 1 then Line (n / 2) else Clause (n / 2)

-- the reason of a number
abbrev pub reason_of : ℕ → Option Hint
reason_of n = if nat_eq n 0 then None else Some (hint_of (n - 1))

-- the number of the clause or the line that a hint names
abbrev pub number_of : Hint → ℕ
number_of (Clause n) = n
number_of (Line n) = n

-- the hint has a number of 32 bits
abbrev pub IsShort : Hint → Type 0
IsShort hint = number_of hint ≤ 2147483646

-- the reason has a number of 32 bits
abbrev pub HasNumber : Option Hint → Type 0
HasNumber reason = IfSome reason IsShort

-- the numbers of the entry's literal and its reason, and its level, fit into 32 bits each
pub record Fits (e : TrailEntry) : Type 0 where
  pub literal : e.literal.letter.0 ≤ 2147483647
  pub level : e.level ≤ 4294967295
  pub reason : HasNumber e.reason
