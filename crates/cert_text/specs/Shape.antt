-- The scan without what it has read: counts in place of lists.
use Rattle.std.specs.Prelude.{ℕ, ◌+◌, ◌-◌, ◌*◌, ◌≤◌, ◌&&◌, ◌==◌, nat_lt, List, [], ◌∷◌, length, codes, if◌then◌else◌, Option, Some, None, ⊤}
use Rattle.ltl_syntax.specs.declared.node.Kind.{Kind}
use Rattle.ltl_syntax.specs.declared.node.Kind.TheVariants as Kinds
use Rattle.cert_text.specs.Text.{Certificate, greatest_u64}
use Rattle.cert_text.specs.Live.{lines_of}
use Rattle.cert_text.specs.Scan.{OfDepth, OfLiteral, OfHint, OfTarget, OfDelete, AtVersion, AtKind, AtNumber, InNumber, AtPart, AtLiteral, AtHint, AtEnd}
use Rattle.cert_text.specs.Scan as scan
use Rattle.cert_text.specs.declared.scanning.Head.{Head}
use Rattle.cert_text.specs.declared.scanning.Role.{Role}
use Rattle.cert_text.specs.declared.scanning.Role.TheVariants as roles
use Rattle.cert_text.specs.declared.scanning.Place.{Place}
use Rattle.cert_text.specs.declared.scanning.Place.TheVariants as places
use Rattle.cert_text.specs.declared.glance.Form.{Form}

-- what is kept of a certificate that is read so far
abbrev pub head_of : Certificate → Head
head_of c = record { version = c.version; kind = c.kind; depth = c.depth; lines = length (lines_of c.parts); targets = length c.targets }

abbrev pub role_of : scan.Role → Role
role_of (OfDepth version kind) = roles.Depth version kind
role_of (OfLiteral c literals negated) = roles.Literal (head_of c)
role_of (OfHint c literals hints negated) = roles.Hint (head_of c)
role_of (OfTarget c) = roles.Target (head_of c)
role_of (OfDelete c lines) = roles.Delete (head_of c)

abbrev pub place_of : scan.Place → Place
place_of AtVersion = places.Version
place_of (AtKind version) = places.Kind version
place_of (AtNumber role) = places.First (role_of role)
place_of (InNumber role n) = places.More (role_of role) n
place_of (AtPart c) = places.Part (head_of c)
place_of (AtLiteral c literals) = places.Literal (head_of c)
place_of (AtHint c literals hints) = places.Hint (head_of c)
place_of (AtEnd c) = places.End (head_of c)

abbrev pub greatest_in : Role → ℕ
greatest_in (roles.Depth version kind) = 1000
greatest_in (roles.Literal h) = 16777216
greatest_in (roles.Hint h) = greatest_u64
greatest_in (roles.Target h) = greatest_u64
greatest_in (roles.Delete h) = greatest_u64

-- the bytes that must come, and the place behind them
abbrev pub Next : Type 0
Next = Option (List ℕ × Place)

abbrev pub with_line : Head → Head
with_line h = record { version = h.version; kind = h.kind; depth = h.depth; lines = h.lines + 1; targets = h.targets }

abbrev pub with_target : Head → Head
with_target h = record { version = h.version; kind = h.kind; depth = h.depth; lines = h.lines; targets = h.targets + 1 }

abbrev pub header : ℕ → Kind → ℕ → Head
header version kind depth = record { version = version; kind = kind; depth = depth; lines = 0; targets = 0 }

abbrev pub end_in : Role → ℕ → ℕ → Next
end_in (roles.Depth version kind) n b = if b == 10 then Some ([], places.Part (header version kind n)) else None
end_in (roles.Literal h) n b = if b == 32 then Some ([], places.Literal h) else None
end_in (roles.Hint h) n b = if b == 32 then Some ([], places.Hint h) else None
end_in (roles.Target h) n b =
    if h.targets == h.depth + 1 then (if b == 10 then Some ([], places.End (with_target h)) else None)
    else (if b == 32 then Some ([], places.First (roles.Target (with_target h))) else None)
end_in (roles.Delete h) n b =
    if b == 32 then Some ([], places.First (roles.Delete h))
    else (if b == 10 then Some ([], places.Part h) else None)

abbrev pub first_in : Role → ℕ → Next
first_in role b = if nat_lt 48 b && nat_lt b 58 then Some ([], places.More role (b - 48)) else None

abbrev pub literal_in : Head → ℕ → Next
literal_in h b =
    if b == 48 then Some (codes " ", places.Hint h)
    else (if b == 45 then Some ([], places.First (roles.Literal h))
    else first_in (roles.Literal h) b)

abbrev pub number_in : Role → ℕ → Next
number_in (roles.Depth version kind) b = if b == 48 then Some (codes "\n", places.Part (header version kind 0)) else first_in (roles.Depth version kind) b
number_in (roles.Literal h) b = first_in (roles.Literal h) b
number_in (roles.Hint h) b = first_in (roles.Hint h) b
number_in (roles.Target h) b = first_in (roles.Target h) b
number_in (roles.Delete h) b = first_in (roles.Delete h) b

-- what a byte leads to
abbrev pub small_step : Place → ℕ → Next
small_step places.Version b = if b == 49 then Some (codes " ", places.Kind 1) else (if b == 50 then Some (codes " ", places.Kind 2) else None)
small_step (places.Kind version) b =
    if b == 105 then Some (codes "nfinite ", places.First (roles.Depth version Kinds.Infinite))
    else (if b == 102 then Some (codes "inite ", places.First (roles.Depth version Kinds.Finite)) else None)
small_step (places.First role) b = number_in role b
small_step (places.More role n) b =
    if nat_lt 47 b && nat_lt b 58 then (if nat_lt (greatest_in role) (10 * n + (b - 48)) then None else Some ([], places.More role (10 * n + (b - 48))))
    else end_in role n b
small_step (places.Part h) b =
    if b == 99 then Some (codes "lose ", places.First (roles.Target h))
    else (if b == 100 then (if h.version == 2 then Some (codes " ", places.First (roles.Delete h)) else None)
    else literal_in h b)
small_step (places.Literal h) b = literal_in h b
small_step (places.Hint h) b =
    if b == 48 then Some (codes "\n", places.Part (with_line h))
    else (if b == 45 then Some ([], places.First (roles.Hint h))
    else first_in (roles.Hint h) b)
small_step (places.End h) b = None

-- what a byte leads to behind some bytes that must come
abbrev pub small_advance : List ℕ → Place → ℕ → Next
small_advance (x ∷ xs) place b = if b == x then Some (xs, place) else None
small_advance [] place b = small_step place b

-- how many lines stand before the place
abbrev pub lines_in : Role → ℕ
lines_in (roles.Depth version kind) = 0
lines_in (roles.Literal h) = h.lines
lines_in (roles.Hint h) = h.lines
lines_in (roles.Target h) = h.lines
lines_in (roles.Delete h) = h.lines

abbrev pub lines_at : Place → ℕ
lines_at places.Version = 0
lines_at (places.Kind version) = 0
lines_at (places.First role) = lines_in role
lines_at (places.More role n) = lines_in role
lines_at (places.Part h) = h.lines
lines_at (places.Literal h) = h.lines
lines_at (places.Hint h) = h.lines
lines_at (places.End h) = h.lines

-- there are few targets
abbrev pub IsFew : Role → Type 0
IsFew (roles.Depth version kind) = ⊤
IsFew (roles.Literal h) = ⊤
IsFew (roles.Hint h) = ⊤
IsFew (roles.Target h) = (h.depth ≤ 1000) × (h.targets ≤ 1001)
IsFew (roles.Delete h) = ⊤

-- the numbers at a place are in range
abbrev pub IsInRange : Place → Type 0
IsInRange places.Version = ⊤
IsInRange (places.Kind version) = ⊤
IsInRange (places.First role) = ⊤
IsInRange (places.More role n) = (n ≤ greatest_in role) × IsFew role
IsInRange (places.Part h) = ⊤
IsInRange (places.Literal h) = ⊤
IsInRange (places.Hint h) = ⊤
IsInRange (places.End h) = ⊤

-- what is said of a certificate at a glance
abbrev pub form_of : Certificate → Form
form_of c = record { version = c.version; kind = c.kind; depth = c.depth; lines = length (lines_of c.parts) }
