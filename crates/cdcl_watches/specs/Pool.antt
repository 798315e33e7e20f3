-- Lists of watchers in one pool. Each stands in a block of its own, and blocks that no list has are spare.
use Rattle.std.specs.Prelude.{◌≢◌, ℕ, ◌+◌, ◌-◌, ◌*◌, ◌/◌, ◌%◌, ◌<◌, ◌≤◌, ◌^◌, ◌⊎◌, nat_eq, if◌then◌else◌, List, [], map, take, drop, length, slice_index_or}
use Rattle.cdcl_watches.specs.declared.watcher.Watcher.{Watcher}
use Rattle.cdcl_watches.specs.declared.span.Span.{Span}

-- a list that has no block
abbrev pub nowhere : Span
nowhere = record { from = 0; len = 0; class = 0 }

-- the span with another count of watchers
abbrev pub counted : Span → ℕ → Span
counted s len = record { from = s.from; len = len; class = s.class }

-- the number of watchers that have room in a block of this class: 0, 2, 3, 4, 6, 8, 12, 16, 24 and so on
abbrev pub room_of : ℕ → ℕ
room_of class = if nat_eq class 0 then 0 else (2 + (class - 1) % 2) * 2 ^ ((class - 1) / 2)

-- the watchers of a list
abbrev pub content : List Watcher → Span → List Watcher
content pool s = take s.len (drop s.from pool)

-- the watchers of each list
abbrev pub contents : List Watcher → List Span → List (List Watcher)
contents pool spans = map (content pool) spans

-- the span of a list, by its number
abbrev pub span_at : List Span → ℕ → Span
span_at spans k = slice_index_or spans k nowhere

-- where the spare blocks of a class begin
abbrev pub row_at : List (List ℕ) → ℕ → List ℕ
row_at spare c = slice_index_or spare c []

-- where one of them begins
abbrev pub spare_at : List (List ℕ) → ℕ → ℕ → ℕ
spare_at spare c i = slice_index_or (slice_index_or spare c []) i 0

-- the block of m places from a on and that of n places from b on have no place in common
abbrev pub AreClear : ℕ → ℕ → ℕ → ℕ → Type 0
AreClear a m b n = (a + m ≤ b) ⊎ (b + n ≤ a)

-- the block of a span lies in a pool of this size, and has room for the span's watchers
pub record IsSpan (size : ℕ) (s : Span) : Type 0 where
  pub inside : s.from + room_of s.class ≤ size
  pub fits : s.len ≤ room_of s.class
  pub classed : s.class < 63

-- the block lies in the pool, and neither a list nor a spare block has a place of it
pub record IsFree (size : ℕ) (spans : List Span) (spare : List (List ℕ)) (from room : ℕ) : Type 0 where
  pub inside : from + room ≤ size
  pub lists : (k : ℕ) → k < length spans → AreClear (span_at spans k).from (room_of (span_at spans k).class) from room
  pub spares : (c i : ℕ) → i < length (row_at spare c) → AreClear (spare_at spare c i) (room_of c) from room

-- each list and each spare block has its own places of the pool
pub record AreBlocks (size : ℕ) (spans : List Span) (spare : List (List ℕ)) : Type 0 where
  pub each : (k : ℕ) → k < length spans → IsSpan size (span_at spans k)
  pub apart : (j k : ℕ) → j < length spans → k < length spans
      → j ≢ k → AreClear (span_at spans j).from (room_of (span_at spans j).class) (span_at spans k).from (room_of (span_at spans k).class)
  pub inside : (c i : ℕ) → i < length (row_at spare c) → spare_at spare c i + room_of c ≤ size
  pub between : (k c i : ℕ) → k < length spans → i < length (row_at spare c)
      → AreClear (span_at spans k).from (room_of (span_at spans k).class) (spare_at spare c i) (room_of c)
  pub spares : (c i d j : ℕ) → i < length (row_at spare c) → j < length (row_at spare d) → ((c ≢ d) ⊎ (i ≢ j))
      → AreClear (spare_at spare c i) (room_of c) (spare_at spare d j) (room_of d)

-- a pool in which the places and the lists have numbers of 32 bits
pub record IsPool (pool : List Watcher) (spans : List Span) (spare : List (List ℕ)) : Type 0 where
  pub blocks : AreBlocks (length pool) spans spare
  pub few : length pool < 2 ^ 32
  pub few_lists : length spans ≤ 2 ^ 32
