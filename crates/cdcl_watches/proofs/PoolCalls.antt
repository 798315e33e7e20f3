-- What the calls on lists in a pool make of them, and that the pool stays one.
use Rattle.std.proofs.Common.{◌≡◌, ℕ, ◌+◌, ◌-◌, ◌<◌, ◌≤◌, ◌^◌, List, [], ◌∷◌, ◌++◌, take, set, length, get_or, refl, sym, ap, ◌∙◌, subst, arith, length-set}
use Rattle.std.proofs.Common.{length-take-le}
use Rattle.std.specs.List.{remove_range, CopiedTo, SameBelow, SameFrom}
use Rattle.std.proofs.lemmas.List.{get_or_default, get_or-set_same, length-map, length_push}
use Rattle.cdcl_watches.specs.declared.watcher.Watcher.{Watcher}
use Rattle.cdcl_watches.specs.declared.span.Span.{Span}
use Rattle.cdcl_watches.specs.Pool.{nowhere, counted, room_of, content, contents, span_at, IsFree, AreBlocks, IsPool}
use Rattle.cdcl_watches.proofs.Rooms.{room_more}
use Rattle.cdcl_watches.proofs.PoolBlocks.{counted_blocks, moved_blocks, moved_free, grown_blocks, shrunk_blocks}
use Rattle.cdcl_watches.proofs.PoolContents.{length_list, list_set, list_push, list_take, list_close, contents_longer, contents_moved}

module _ (pool : List Watcher) (spans : List Span) (spare : List (List ℕ)) (is : IsPool pool spans spare) (k : ℕ) (low : k < length (contents pool spans))
    (p : Span) (p_is : p ≡ get_or spans k p) where
  row : List Watcher
  row = get_or (contents pool spans) k []

  known : k < length spans
  known = omega (arith, low, length-map spans (content pool))

  here : span_at spans k ≡ p
  here = get_or_default spans k nowhere p known ∙ sym p_is

  length_row : length (get_or (contents pool spans) k []) ≡ p.len
  length_row = length_list pool spans spare is.blocks k known ∙ ap (λ (s : Span). s.len) here

  fits : p.len ≤ room_of p.class
  fits = subst (λ (s : Span). s.len ≤ room_of s.class) here (is.blocks.each k known).fits

  -- the pool has other watchers, and the list another count of them
  counted_pool : (new : List Watcher) (len : ℕ) → length new ≡ length pool → len ≤ room_of p.class → IsPool new (set spans k (counted p len)) spare
  counted_pool new len count within = record {
    blocks = subst (λ n. AreBlocks n (set spans k (counted p len)) spare) (sym count)
        (subst (λ (s : Span). AreBlocks (length pool) (set spans k (counted s len)) spare) here
        (counted_blocks (length pool) spans spare is.blocks k known len (subst (λ (s : Span). len ≤ room_of s.class) (sym here) within)));
    few = omega (arith, count, is.few);
    few_lists = omega (arith, length-set spans k (counted p len), is.few_lists);
  }

  pub set_call : (i : ℕ) (w : Watcher) → i < length (get_or (contents pool spans) k [])
      → contents (set pool (p.from + i) w) spans ≡ set (contents pool spans) k (set (get_or (contents pool spans) k []) i w)
  set_call i w within =
      subst (λ (s : Span). contents (set pool (s.from + i) w) spans ≡ set (contents pool spans) k (set (get_or (contents pool spans) k []) i w)) here
      (list_set pool spans spare is.blocks k known i w within)

  pub pop_pool : IsPool pool (set spans k (counted p (p.len - 1))) spare
  pop_pool = counted_pool pool (p.len - 1) refl (omega (arith, fits))

  pub pop_call : contents pool (set spans k (counted p (p.len - 1))) ≡ set (contents pool spans) k
      (take (length (get_or (contents pool spans) k []) - 1) (get_or (contents pool spans) k []))
  pop_call =
      let n = length (get_or (contents pool spans) k []) - 1 in
      let after = set (contents pool spans) k (take n (get_or (contents pool spans) k [])) in
      subst (λ m. contents pool (set spans k (counted p (m - 1))) ≡ after) length_row
      (subst (λ (s : Span). contents pool (set spans k (counted s n)) ≡ after) here (list_take pool spans spare is.blocks k known n (omega arith)))

  -- the watchers from b on were copied down to a
  module _ (new : List Watcher) (a b : ℕ) (order : a ≤ b) (within : b ≤ length (get_or (contents pool spans) k [])) (count : length new ≡ length pool) where
    pub close_pool : IsPool new (set spans k (counted p (a + (p.len - b)))) spare
    close_pool = counted_pool new (a + (p.len - b)) count (omega (arith, fits, order, within, length_row))

    pub close_call : CopiedTo pool new (p.from + b) (p.from + a) (p.from + p.len - (p.from + b)) → SameBelow pool new (p.from + a)
        → SameFrom pool new (p.from + a + (p.from + p.len - (p.from + b)))
        → contents new (set spans k (counted p (a + (p.len - b)))) ≡ set (contents pool spans) k (remove_range (get_or (contents pool spans) k []) a b)
    close_call copied below from =
        let n : p.from + p.len - (p.from + b) ≡ p.len - b = omega arith in
        subst
        (λ (s : Span). CopiedTo pool new (s.from + b) (s.from + a) (s.len - b) → SameBelow pool new (s.from + a) → SameFrom pool new (s.from + a + (s.len - b))
        → contents new (set spans k (counted s (a + (s.len - b)))) ≡ set (contents pool spans) k (remove_range (get_or (contents pool spans) k []) a b)) here
        (list_close pool spans spare is.blocks k known new a b order within count)
        (subst (CopiedTo pool new (p.from + b) (p.from + a)) n copied) below (subst (λ m. SameFrom pool new (p.from + a + m)) n from)

-- one list more
pub grown_pool : (pool : List Watcher) (spans : List Span) (spare : List (List ℕ)) → IsPool pool spans spare → length spans < 2 ^ 32
    → IsPool pool (spans ++ nowhere ∷ []) spare
grown_pool pool spans spare is low =
    record { blocks = grown_blocks (length pool) spans spare is.blocks; few = is.few; few_lists = omega (arith, low, length_push spans nowhere) }

-- the first lists alone
pub shrunk_pool : (pool : List Watcher) (spans : List Span) (spare : List (List ℕ)) → IsPool pool spans spare → (n : ℕ) → n ≤ length spans
    → IsPool pool (take n spans) spare
shrunk_pool pool spans spare is n within = record {
  blocks = shrunk_blocks (length pool) spans spare n within is.blocks;
  few = is.few;
  few_lists = omega (arith, within, length-take-le n spans within, is.few_lists);
}

-- the number of a list is that of a span
pub known_list : (pool : List Watcher) (spans : List Span) (k : ℕ) → k < length (contents pool spans) → k < length spans
known_list pool spans k low = omega (arith, low, length-map spans (content pool))

-- a list by its span
pub room_at : (spans : List Span) (k : ℕ) (p : Span) → k < length spans → p ≡ get_or spans k p → p.len < room_of p.class
    → (span_at spans k).len < room_of (span_at spans k).class
room_at spans k p known p_is room = subst (λ (s : Span). s.len < room_of s.class) (p_is ∙ get_or_default spans k p nowhere known) room

-- a watcher is put behind a list that has room for it
module _ (pool : List Watcher) (spans : List Span) (spare : List (List ℕ)) (is : IsPool pool spans spare) (k : ℕ) (known : k < length spans)
    (room : (span_at spans k).len < room_of (span_at spans k).class) where
  pub put_pool : (w : Watcher)
      → IsPool (set pool ((span_at spans k).from + (span_at spans k).len) w) (set spans k (counted (span_at spans k) ((span_at spans k).len + 1))) spare
  put_pool w =
      let s = span_at spans k in
      let count = length-set pool (s.from + s.len) w in
      record {
        blocks = subst (λ n. AreBlocks n (set spans k (counted s (s.len + 1))) spare) (sym count)
            (counted_blocks (length pool) spans spare is.blocks k known (s.len + 1) (omega (arith, room)));
        few = omega (arith, count, is.few);
        few_lists = omega (arith, length-set spans k (counted s (s.len + 1)), is.few_lists);
      }

  pub put_call : (w : Watcher)
      → contents (set pool ((span_at spans k).from + (span_at spans k).len) w) (set spans k (counted (span_at spans k) ((span_at spans k).len + 1)))
      ≡ set (contents pool spans) k (get_or (contents pool spans) k [] ++ w ∷ [])
  put_call w = list_push pool spans spare is.blocks k known w room

-- a list moves to a block of the next class, which is free in a pool that is longer maybe
module _ (pool longer : List Watcher) (spans : List Span) (spare left : List (List ℕ)) (is : IsPool pool spans spare) (k : ℕ) (known : k < length spans)
    (p : Span) (p_is : p ≡ get_or spans k p) (from : ℕ)
    (blocks : AreBlocks (length longer) spans left) (free : IsFree (length longer) spans left from (room_of (p.class + 1))) where
  old_is : span_at spans k ≡ p
  old_is = get_or_default spans k nowhere p known ∙ sym p_is

  wider : p.len < room_of (p.class + 1)
  wider = omega (arith, subst (λ (s : Span). s.len ≤ room_of s.class) old_is (is.blocks.each k known).fits, room_more p.class)

  pub moved_inside : from + (p.from + p.len - p.from) ≤ length longer
  moved_inside = omega (arith, free.inside, wider)

  pub moved_room : (span_at (set spans k (record { from = from; len = p.len; class = p.class + 1 })) k).len
      < room_of (span_at (set spans k (record { from = from; len = p.len; class = p.class + 1 })) k).class
  moved_room = subst (λ (s : Span). s.len < room_of s.class)
      (sym (get_or-set_same spans k (record { from = from; len = p.len; class = p.class + 1 }) nowhere known)) wider

  -- its watchers were copied there
  module _ (up : length pool ≤ length longer) (same : SameBelow pool longer (length pool)) (new : List Watcher) (count : length new ≡ length longer) where
    pub moved_call : CopiedTo longer new p.from from (p.from + p.len - p.from) → SameBelow longer new from
        → SameFrom longer new (from + (p.from + p.len - p.from))
        → contents new (set spans k (record { from = from; len = p.len; class = p.class + 1 })) ≡ contents pool spans
    moved_call copied below behind =
        let n : p.from + p.len - p.from ≡ p.len = omega arith in
        subst (λ (s : Span). s.len ≤ room_of (p.class + 1) → CopiedTo longer new s.from from s.len → SameFrom longer new (from + s.len)
        → contents new (set spans k (record { from = from; len = s.len; class = p.class + 1 })) ≡ contents longer spans) old_is
        (λ within copied_s behind_s. contents_moved longer new spans left blocks k known from (p.class + 1) free within count copied_s below behind_s)
        (omega (arith, wider)) (subst (CopiedTo longer new p.from from) n copied) (subst (λ m. SameFrom longer new (from + m)) n behind)
        ∙ contents_longer pool longer spans spare is.blocks up same

    -- and its own block was left
    pub moved_pool : length longer < 2 ^ 32 → p.class + 1 < 63 → (after : List (List ℕ))
        → ((size : ℕ) (ss : List Span) → AreBlocks size ss left → IsFree size ss left p.from (room_of p.class) → AreBlocks size ss after)
        → IsPool new (set spans k (record { from = from; len = p.len; class = p.class + 1 })) after
    moved_pool few small after left_is =
        let size = length longer in
        let moved : Span = record { from = from; len = p.len; class = p.class + 1 } in
        let fits : p.len ≤ room_of (p.class + 1) = omega (arith, wider) in
        record {
          blocks = subst (λ n. AreBlocks n (set spans k moved) after) (sym count)
              (left_is size (set spans k moved) (moved_blocks size spans left blocks k known moved free fits small)
              (subst (λ (s : Span). IsFree size (set spans k moved) left s.from (room_of s.class)) old_is
              (moved_free size spans left blocks k known moved free fits small)));
          few = omega (arith, count, few);
          few_lists = omega (arith, length-set spans k moved, is.few_lists);
        }
