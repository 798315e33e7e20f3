-- Clauses in one buffer of numbers: each is its length, its name and the codes of its literals. The codes
-- behind the first two stand from the last down.
use Rattle.std.specs.Prelude.{◌≡◌, ℕ, zero, suc, ◌+◌, ◌-◌, ◌<◌, ◌≤◌, ◌^◌, ◌⊎◌, All, Contains, nat_eq, if◌then◌else◌, List, [], ◌∷◌, length, map, take, drop}
use Rattle.std.specs.Prelude.{slice_index_or}
use Rattle.cnf_base.specs.declared.literal.Literal.{Literal}
use Rattle.cnf_base.specs.RowPieces.{Place, row_pieces}
use Rattle.cdcl_watches.specs.Watching.{literal_of}
use Rattle.cdcl_watches.specs.Turned.{turned}

-- where the clause of a head stands: its length and its name, and behind them as many codes as the length says
abbrev pub place_at : List ℕ → ℕ → Place
place_at items head = record { from = head; to = head + 2 + slice_index_or items head 0 }

-- the literals of a clause
abbrev pub decoded : List ℕ → List Literal
decoded row = turned (map literal_of (drop 2 row))

-- the heads among items of which the first stands at place, and belongs to a clause that skip items are still to come of
abbrev pub heads_from : ℕ → ℕ → List ℕ → List ℕ
heads_from skip place [] = []
heads_from zero place (n ∷ items) = place ∷ heads_from (suc n) (suc place) items
heads_from (suc skip) place (item ∷ items) = heads_from skip (suc place) items

-- the heads of the clauses: the first is 0, and behind each clause is the next
abbrev pub heads_of : List ℕ → List ℕ
heads_of items = heads_from 0 0 items

-- how many items are still to come of the last clause
abbrev pub left_from : ℕ → List ℕ → ℕ
left_from skip [] = skip
left_from zero (n ∷ items) = left_from (suc n) items
left_from (suc skip) (item ∷ items) = left_from skip items

-- the clauses of these heads
abbrev pub clauses_at : List ℕ → List ℕ → List (List Literal)
clauses_at items heads = map decoded (row_pieces items (map (place_at items) heads))

-- the names of the clauses of these heads
abbrev pub names_at : List ℕ → List ℕ → List ℕ
names_at items heads = map (λ h. slice_index_or items (h + 1) 0) heads

-- the number of the clause that has this head
abbrev pub number_of : List ℕ → ℕ → ℕ
number_of [] head = 0
number_of (h ∷ heads) head = if nat_eq h head then 0 else suc (number_of heads head)

-- the heads are those of the items, the clauses stand one behind the other in the order of their numbers, and the last of them is whole
pub record AreHeads (items heads : List ℕ) : Type 0 where
  pub found : heads_of items ≡ heads
  pub whole : left_from 0 items ≡ 0
  pub inside : (c : ℕ) → c < length heads → slice_index_or heads c 0 + 2 + slice_index_or items (slice_index_or heads c 0) 0 ≤ length items
  pub ordered : (c d : ℕ) → c < d → d < length heads
      → slice_index_or heads c 0 + 2 + slice_index_or items (slice_index_or heads c 0) 0 ≤ slice_index_or heads d 0
  pub first : slice_index_or heads 0 0 ≡ 0
  pub none : length heads ≡ 0 → length items ≡ 0
  pub few : length items < 2 ^ 32

-- each noted place is no head, or one of the heads
abbrev pub AreNoted : List ℕ → List ℕ → Type 0
AreNoted heads reasons = All (λ h. (h ≡ 4294967295) ⊎ Contains heads h) reasons

-- clauses, their heads and their names
pub record ArenaValue : Type 0 where
  pub clauses : List (List Literal)
  pub heads : List ℕ
  pub names : List ℕ

-- the clauses, their heads and their names without the last
abbrev pub without_last : ArenaValue → ArenaValue
without_last a = record {
  clauses = take (length a.clauses - 1) a.clauses;
  heads = take (length a.clauses - 1) a.heads;
  names = take (length a.clauses - 1) a.names;
}
