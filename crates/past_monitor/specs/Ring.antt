-- What a contract sees of a ring of values, and what it counts.
use Rattle.std.specs.Prelude.{◌≡◌, ℕ, ◌≤◌, Bool, true, false, not, cond, List, ◌∷◌, length, take, drop, slice_index_or, nat_lt, refl}
use Rattle.std.specs.List.{count_by}
use Rattle.std.specs.Coded.{Coded, code_by, coded×, coded_list, coded_bool, coded_ℕ}

-- two truth values are one
abbrev pub same : Bool → Bool → Bool
same true b = b
same false b = not b

-- for how many values it has memory, from which place on it counts, which value it counts, and the values, the last first
pub record RingValue : Type 0 where
  pub room : ℕ
  pub first : ℕ
  pub sought : Bool
  pub values : List Bool

abbrev pub coded_ring : Coded RingValue
coded_ring =
    code_by (ℕ × (ℕ × (Bool × List Bool))) (coded× coded_ℕ (coded× coded_ℕ (coded× coded_bool (coded_list coded_bool))))
    (λ r. (r.room, (r.first, (r.sought, r.values)))) (λ p. record { room = p.0; first = p.1.0; sought = p.1.1.0; values = p.1.1.1 }) (λ _. refl)

-- how many values from a place on are the one that is sought
abbrev pub found_in : Bool → ℕ → List Bool → ℕ
found_in sought first values = count_by (same sought) (drop first values)

-- what holds of a ring's fields
pub record IsRing (room first : ℕ) (sought : Bool) (found : ℕ) (values : List Bool) (capacity : ℕ) : Type 0 where
  pub few : room ≤ 255
  pub early : first ≤ room
  pub within : length values ≤ room
  pub reserved : capacity ≡ room
  pub counted : found ≡ found_in sought first values

-- the value this number of positions back, where 0 is the position of the present value; one that is not there is not the one sought
abbrev pub value_back : RingValue → ℕ → Bool → Bool
value_back r age present = slice_index_or (present ∷ r.values) age (not r.sought)

-- whether the value that is sought is among the present one and those that are kept, from the first place on
abbrev pub shows : RingValue → Bool → Bool
shows r present = nat_lt 0 (found_in r.sought r.first (present ∷ r.values))

-- 1 where that value is the one that is sought, else 0
abbrev pub counted_at : RingValue → ℕ → Bool → ℕ
counted_at r age present = cond (same r.sought (value_back r age present)) 1 0

-- the ring after one value more
abbrev pub taken : RingValue → Bool → RingValue
taken r present = record r { values = take r.room (present ∷ r.values) }
