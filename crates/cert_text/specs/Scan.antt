-- One pass over the bytes of a certificate: what is read so far, and what may come next.
use Rattle.std.specs.Prelude.{ℕ, ◌+◌, ◌-◌, ◌*◌, Bool, true, false, ◌&&◌, ◌==◌, nat_lt, List, [], ◌∷◌, ◌++◌, length, codes, if◌then◌else◌, Option, Some, None}
use Rattle.ltl_syntax.specs.declared.node.Kind.{Kind}
use Rattle.ltl_syntax.specs.declared.node.Kind.TheVariants as Kinds
use Rattle.cnf_base.specs.declared.literal.Literal.{Literal}
use Rattle.cnf_base.specs.declared.literal.Hint.{Hint}
use Rattle.cnf_base.specs.declared.literal.Hint.TheVariants as hints
use Rattle.cert_text.specs.Machine.{run_by}
use Rattle.cert_text.specs.Text.{Part, Line, Delete, Certificate, greatest_u64}

-- what a number that is being read will be; c is what is read so far, its targets are those before this one
pub data Role : Type 0 where
  OfDepth : (version : ℕ) → Kind → Role
  OfLiteral : (c : Certificate) → List Literal → (negated : Bool) → Role
  OfHint : (c : Certificate) → List Literal → List Hint → (negated : Bool) → Role
  OfTarget : (c : Certificate) → Role
  OfDelete : (c : Certificate) → List ℕ → Role

-- where the next byte decides how it goes on
pub data Place : Type 0 where
  -- the version, the kind
  AtVersion : Place
  AtKind : (version : ℕ) → Place
  -- the first digit of a number, a digit behind its first ones or its end
  AtNumber : Role → Place
  InNumber : Role → ℕ → Place
  -- a part or the close, a literal or the 0 behind them, a hint or the 0 behind them
  AtPart : (c : Certificate) → Place
  AtLiteral : (c : Certificate) → List Literal → Place
  AtHint : (c : Certificate) → List Literal → List Hint → Place
  -- behind the close
  AtEnd : (c : Certificate) → Place

-- the bytes that must come, and the place behind them
abbrev pub Scan : Type 0
Scan = List ℕ × Place

-- before the first byte
abbrev pub start : Scan
start = (codes "ltlcert ", AtVersion)

-- the greatest number in a role
abbrev pub greatest : Role → ℕ
greatest (OfDepth version kind) = 1000
greatest (OfLiteral c literals negated) = 16777216
greatest (OfHint c literals hints negated) = greatest_u64
greatest (OfTarget c) = greatest_u64
greatest (OfDelete c lines) = greatest_u64

abbrev pub literal : Bool → ℕ → Literal
literal negated n = record { letter = record { 0 = n }; negated = negated }

abbrev pub hint : Bool → ℕ → Hint
hint negated n = if negated then hints.Line n else hints.Clause n

-- more is read
abbrev pub with_part : Certificate → Part → Certificate
with_part c part = record { version = c.version; kind = c.kind; depth = c.depth; parts = c.parts ++ part ∷ []; targets = c.targets }

abbrev pub with_target : Certificate → ℕ → Certificate
with_target c n = record { version = c.version; kind = c.kind; depth = c.depth; parts = c.parts; targets = c.targets ++ n ∷ [] }

-- a header alone
abbrev pub header : ℕ → Kind → ℕ → Certificate
header version kind depth = record { version = version; kind = kind; depth = depth; parts = []; targets = [] }

-- the byte behind a number of this role and value
abbrev pub end_number : Role → ℕ → ℕ → Option Scan
end_number (OfDepth version kind) n b = if b == 10 then Some ([], AtPart (header version kind n)) else None
end_number (OfLiteral c literals negated) n b = if b == 32 then Some ([], AtLiteral c (literals ++ literal negated n ∷ [])) else None
end_number (OfHint c literals hints negated) n b = if b == 32 then Some ([], AtHint c literals (hints ++ hint negated n ∷ [])) else None
end_number (OfTarget c) n b =
    if length c.targets == c.depth + 1 then (if b == 10 then Some ([], AtEnd (with_target c n)) else None)
    else (if b == 32 then Some ([], AtNumber (OfTarget (with_target c n))) else None)
end_number (OfDelete c lines) n b =
    if b == 32 then Some ([], AtNumber (OfDelete c (lines ++ n ∷ [])))
    else (if b == 10 then Some ([], AtPart (with_part c (Delete (lines ++ n ∷ [])))) else None)

-- a digit from 1 to 9 begins a number
abbrev pub first_digit : Role → ℕ → Option Scan
first_digit role b = if nat_lt 48 b && nat_lt b 58 then Some ([], InNumber role (b - 48)) else None

-- a literal, or the 0 behind the literals
abbrev pub literal_step : Certificate → List Literal → ℕ → Option Scan
literal_step c literals b =
    if b == 48 then Some (codes " ", AtHint c literals [])
    else (if b == 45 then Some ([], AtNumber (OfLiteral c literals true))
    else first_digit (OfLiteral c literals false) b)

-- the depth may be 0
abbrev pub number_step : Role → ℕ → Option Scan
number_step (OfDepth version kind) b = if b == 48 then Some (codes "\n", AtPart (header version kind 0)) else first_digit (OfDepth version kind) b
number_step role b = first_digit role b

abbrev pub place_step : Place → ℕ → Option Scan
place_step AtVersion b = if b == 49 then Some (codes " ", AtKind 1) else (if b == 50 then Some (codes " ", AtKind 2) else None)
place_step (AtKind version) b =
    if b == 105 then Some (codes "nfinite ", AtNumber (OfDepth version Kinds.Infinite))
    else (if b == 102 then Some (codes "inite ", AtNumber (OfDepth version Kinds.Finite)) else None)
place_step (AtNumber role) b = number_step role b
place_step (InNumber role n) b =
    if nat_lt 47 b && nat_lt b 58 then (if nat_lt (greatest role) (10 * n + (b - 48)) then None else Some ([], InNumber role (10 * n + (b - 48))))
    else end_number role n b
place_step (AtPart c) b =
    if b == 99 then Some (codes "lose ", AtNumber (OfTarget c))
    else (if b == 100 then (if c.version == 2 then Some (codes " ", AtNumber (OfDelete c [])) else None)
    else literal_step c [] b)
place_step (AtLiteral c literals) b = literal_step c literals b
place_step (AtHint c literals hints) b =
    if b == 48 then Some (codes "\n", AtPart (with_part c (Line literals hints)))
    else (if b == 45 then Some ([], AtNumber (OfHint c literals hints true))
    else first_digit (OfHint c literals hints false) b)
place_step (AtEnd c) b = None

-- what a byte leads to; nothing where no certificate text goes on with it
abbrev pub step : Scan → ℕ → Option Scan
step (x ∷ xs, place) b = if b == x then Some (xs, place) else None
step ([], place) b = place_step place b

-- what the bytes lead to
abbrev pub run : Scan → List ℕ → Option Scan
run s bytes = run_by step s bytes
