-- Numbers that a pass goes over at once, without their values.
use Rattle.std.specs.Prelude.{◌≡◌, ℕ, ◌+◌, ◌-◌, ◌^◌, ◌<◌, ◌≤◌, ◌==◌, ◌&&◌, ◌||◌, nat_lt, nat_le, Bool, true, List, take, drop, get_or, All}
use Rattle.std.specs.List.{flat_map}
use Rattle.cnf_base.specs.declared.literal.Hint.{Hint}
use Rattle.cert_text.specs.Text.{number_of, sign_text, hint_text}
use Rattle.cert_text.specs.declared.scanning.Place.{Place}
use Rattle.cert_text.specs.declared.scanning.Place.TheVariants as places

-- the bytes from one place up to another
abbrev pub between : List ℕ → ℕ → ℕ → List ℕ
between bytes from to = take (to - from) (drop from bytes)

abbrev pub IsDigit : ℕ → Type 0
IsDigit b = (48 ≤ b) × (b < 58)

-- a minus sign or nothing
abbrev pub IsSign : List ℕ → Type 0
IsSign bytes = (negated : Bool) × (bytes ≡ sign_text negated)

-- a number from 1 on that has at most this number of digits
abbrev pub IsShort : ℕ → Hint → Type 0
IsShort most h = (1 ≤ number_of h) × (number_of h < 10 ^ most)

-- such numbers, each with a minus sign or nothing before it and a space behind it
abbrev pub AreShort : ℕ → List ℕ → Type 0
AreShort most bytes = (hs : List Hint) × All (IsShort most) hs × (bytes ≡ flat_map hint_text hs)

-- the number of digits that fit, whatever they are, where a hint or a literal may begin
abbrev pub digits_at : Place → ℕ
digits_at places.Version = 0
digits_at (places.Kind version) = 0
digits_at (places.First role) = 0
digits_at (places.More role n) = 0
digits_at (places.Part h) = 0
digits_at (places.Literal h) = 7
digits_at (places.Hint h) = 19
digits_at (places.End h) = 0

-- within numbers with signs and spaces, whether byte b may stand behind a byte that is a digit or not, and a space or not: a digit from 1
-- on may everywhere, a 0 and a space behind a digit, and a minus sign behind a space
abbrev pub may_stand : Bool → Bool → ℕ → Bool
may_stand digit space b = (nat_lt 48 b && nat_lt b 58) || ((digit && ((b == 48) || (b == 32))) || ((b == 45) && space))

abbrev pub may_follow : ℕ → ℕ → Bool
may_follow a b = may_stand (nat_le 48 a) (a == 32) b

-- each byte from one place up to another may stand behind the one before it
abbrev pub AreInOrder : List ℕ → ℕ → ℕ → Type 0
AreInOrder bytes from to = (k : ℕ) → from ≤ k → k < to → may_follow (get_or bytes (k - 1) 0) (get_or bytes k 0) ≡ true

-- a space stands from one place up to another
abbrev pub HasSpace : List ℕ → ℕ → ℕ → Type 0
HasSpace bytes from to = (m : ℕ) × (from ≤ m) × (m < to) × (get_or bytes m 0 ≡ 32)

-- from any place on, so that 8 bytes are left, a space is among the first 16
abbrev pub AreSpaced : List ℕ → ℕ → ℕ → Type 0
AreSpaced bytes from to = (k : ℕ) → from ≤ k → k + 8 ≤ to → (m : ℕ) × (k ≤ m) × (m < k + 16) × (m < to) × (get_or bytes m 0 ≡ 32)

-- no 0 from one place up to another stands behind a space
abbrev pub HasNoNought : List ℕ → ℕ → ℕ → Type 0
HasNoNought bytes from to = (k : ℕ) → from ≤ k → k < to → get_or bytes k 0 ≡ 48 → get_or bytes (k - 1) 0 ≡ 32 → ⊥
