-- What lists in a pool hold: it is read, written, moved and cut within their blocks, and the other lists stay.
use Rattle.std.proofs.Common.{◌≡◌, ◌≢◌, ℕ, ◌+◌, ◌-◌, ◌<◌, ◌≤◌, ◌⊎◌, inl, inr, List, [], ◌∷◌, ◌++◌, take, drop, set, length, get_or, refl, sym, ap, ◌∙◌, arith}
use Rattle.std.proofs.Common.{length-set, length-append, length-drop, length-take-le, get_or-set_same, get_or-set_other}
use Rattle.std.specs.List.{remove_range, CopiedTo, SameBelow, SameFrom}
use Rattle.std.proofs.lemmas.Bool.{cases_lt, cases_eq}
use Rattle.std.proofs.lemmas.List.{same_lists, get_or-take, get_or-drop, get_or-map, get_or_append_left, get_or-append_right, get_or_at, length-map}
use Rattle.std.proofs.lemmas.List.{length_push, set-get_or}
use Rattle.cdcl_watches.specs.declared.watcher.Watcher.{Watcher}
use Rattle.cdcl_watches.specs.declared.span.Span.{Span}
use Rattle.cdcl_watches.specs.Pool.{nowhere, counted, room_of, content, contents, span_at, IsFree, AreBlocks}

-- the watchers of a span
module _ (pool : List Watcher) (s : Span) (inside : s.from + s.len ≤ length pool) where
  pub length_content : length (content pool s) ≡ s.len
  length_content = length-take-le s.len (drop s.from pool) (omega (arith, length-drop s.from pool, inside))

  pub content_at : (i : ℕ) (d : Watcher) → i < s.len → get_or (content pool s) i d ≡ get_or pool (s.from + i) d
  content_at i d low = get_or-take s.len (drop s.from pool) i d low ∙ get_or-drop s.from pool i d

-- another pool has a list of these watchers there
pub content_is : (pool : List Watcher) (s : Span) (ws : List Watcher) → s.from + s.len ≤ length pool
    → length ws ≡ s.len → ((i : ℕ) (d : Watcher) → i < s.len → get_or pool (s.from + i) d ≡ get_or ws i d) → content pool s ≡ ws
content_is pool s ws inside count same =
    same_lists (content pool s) ws (length_content pool s inside ∙ sym count)
    (λ i d low. let below : i < s.len = omega (arith, low, length_content pool s inside) in content_at pool s inside i d below ∙ same i d below)

-- two pools have the same watchers in a block, the other a longer one maybe
pub content_same : (pool new : List Watcher) (s : Span) (size room : ℕ) → size ≡ length pool → s.from + room ≤ size → s.len ≤ room → size ≤ length new
    → ((i : ℕ) (d : Watcher) → s.from ≤ i → i < s.from + room → get_or new i d ≡ get_or pool i d)
    → content new s ≡ content pool s
content_same pool new s size room is inside fits longer same =
    let old_in : s.from + s.len ≤ length pool = omega (arith, is, inside, fits) in
    content_is new s (content pool s) (omega (arith, is, inside, fits, longer)) (length_content pool s old_in)
    (λ i d low. same (s.from + i) d (omega arith) (omega (arith, low, fits)) ∙ sym (content_at pool s old_in i d low))

-- one list has another span and other watchers, and the others stay
pub contents_edit : (pool new : List Watcher) (spans : List Span) (k : ℕ) (s : Span) (ws : List Watcher) → k < length spans → content new s ≡ ws
    → ((j : ℕ) → j < length spans → j ≢ k → content new (span_at spans j) ≡ content pool (span_at spans j))
    → contents new (set spans k s) ≡ set (contents pool spans) k ws
contents_edit pool new spans k s ws known is others =
    same_lists (contents new (set spans k s)) (set (contents pool spans) k ws)
    (length-map (set spans k s) (content new) ∙ length-set spans k s ∙ sym (length-map spans (content pool)) ∙ sym (length-set (contents pool spans) k ws))
    (λ j d low.
    let below : j < length (set spans k s) = omega (arith, low, length-map (set spans k s) (content new)) in
    let was : j < length spans = omega (arith, below, length-set spans k s) in
    get_or-map (content new) (set spans k s) j nowhere d below ∙ elim (cases_eq j k) [
      | inl at ↦
          ap (λ i. content new (span_at (set spans k s) i)) at ∙ ap (content new) (get_or-set_same spans k s nowhere known) ∙ is
          ∙ sym (ap (λ i. get_or (set (contents pool spans) k ws) i d) at ∙ get_or-set_same (contents pool spans) k ws d
          (omega (arith, known, length-map spans (content pool))))
      | inr off ↦
          ap (content new) (get_or-set_other spans k j s nowhere off) ∙ others j was off
          ∙ sym (get_or-set_other (contents pool spans) k j ws d off ∙ get_or-map (content pool) spans j nowhere d was)
    ])

module _ (pool : List Watcher) (spans : List Span) (spare : List (List ℕ)) (are : AreBlocks (length pool) spans spare) (k : ℕ) (known : k < length spans) where
  -- the watchers of a list by its number
  pub list_is : get_or (contents pool spans) k [] ≡ content pool (span_at spans k)
  list_is = get_or-map (content pool) spans k nowhere [] known

  pub span_inside : (span_at spans k).from + (span_at spans k).len ≤ length pool
  span_inside = let is = are.each k known in omega (arith, is.inside, is.fits)

  pub length_list : length (get_or (contents pool spans) k []) ≡ (span_at spans k).len
  length_list = ap length list_is ∙ length_content pool (span_at spans k) span_inside

  pub list_at : (i : ℕ) (d : Watcher) → i < length (get_or (contents pool spans) k [])
      → get_or (get_or (contents pool spans) k []) i d ≡ get_or pool ((span_at spans k).from + i) d
  list_at i d low = ap (λ ws. get_or ws i d) list_is ∙ content_at pool (span_at spans k) span_inside i d (omega (arith, low, length_list))

  -- a write in the list's block leaves the others
  pub others_stay : (new : List Watcher) → length new ≡ length pool
      → ((i : ℕ) (d : Watcher) → ((i < (span_at spans k).from) ⊎ ((span_at spans k).from + room_of (span_at spans k).class ≤ i))
      → get_or new i d ≡ get_or pool i d)
      → (j : ℕ) → j < length spans → j ≢ k → content new (span_at spans j) ≡ content pool (span_at spans j)
  others_stay new count outside j low off =
      let is = are.each j low in
      let s = span_at spans j in
      content_same pool new s (length pool) (room_of s.class) refl is.inside is.fits (omega (arith, count))
      (λ i d from to. outside i d (elim (are.apart j k low known off) [ inl h ↦ inl (omega (arith, h, to)) | inr h ↦ inr (omega (arith, h, from)) ]))

  -- the list's watchers and their count are others
  pub list_edit : (new : List Watcher) (len : ℕ) (ws : List Watcher) → length new ≡ length pool → len ≤ room_of (span_at spans k).class
      → ((i : ℕ) (d : Watcher) → ((i < (span_at spans k).from) ⊎ ((span_at spans k).from + room_of (span_at spans k).class ≤ i))
      → get_or new i d ≡ get_or pool i d)
      → length ws ≡ len → ((i : ℕ) (d : Watcher) → i < len → get_or new ((span_at spans k).from + i) d ≡ get_or ws i d)
      → contents new (set spans k (counted (span_at spans k) len)) ≡ set (contents pool spans) k ws
  list_edit new len ws count fits outside ws_count same =
      let old = span_at spans k in
      let s = counted old len in
      contents_edit pool new spans k s ws known
      (content_is new s ws (omega (arith, count, fits, (are.each k known).inside)) ws_count same)
      (others_stay new count outside)

  -- a watcher is put at a place of the list
  pub list_set : (i : ℕ) (w : Watcher) → i < length (get_or (contents pool spans) k [])
      → contents (set pool ((span_at spans k).from + i) w) spans ≡ set (contents pool spans) k (set (get_or (contents pool spans) k []) i w)
  list_set i w low =
      let old = span_at spans k in
      let row = get_or (contents pool spans) k [] in
      let at = old.from + i in
      let is = are.each k known in
      ap (contents (set pool at w)) (sym (set-get_or spans k nowhere))
      ∙ list_edit (set pool at w) old.len (set row i w) (length-set pool at w) is.fits
      (λ j d out. get_or-set_other pool at j w d (λ e. elim out [ inl h ↦ omega (arith, h, e) | inr h ↦ omega (arith, h, e, low, length_list, is.fits) ]))
      (length-set row i w ∙ length_list)
      (λ j d below. elim (cases_eq j i) [
        | inl e ↦
            ap (λ m. get_or (set pool at w) (old.from + m) d) e ∙ get_or-set_same pool at w d (omega (arith, low, length_list, span_inside))
            ∙ sym (ap (λ m. get_or (set row i w) m d) e ∙ get_or-set_same row i w d low)
        | inr off ↦
            get_or-set_other pool at (old.from + j) w d (λ e. off (omega (arith, e)))
            ∙ sym (get_or-set_other row i j w d off ∙ list_at j d (omega (arith, below, length_list)))
      ])

  -- a watcher is put behind the list, which has room for it
  pub list_push : (w : Watcher) → (span_at spans k).len < room_of (span_at spans k).class
      → contents (set pool ((span_at spans k).from + (span_at spans k).len) w) (set spans k (counted (span_at spans k) ((span_at spans k).len + 1)))
      ≡ set (contents pool spans) k (get_or (contents pool spans) k [] ++ w ∷ [])
  list_push w room =
      let old = span_at spans k in
      let row = get_or (contents pool spans) k [] in
      let at = old.from + old.len in
      let is = are.each k known in
      list_edit (set pool at w) (old.len + 1) (row ++ w ∷ []) (length-set pool at w) (omega (arith, room))
      (λ j d out. get_or-set_other pool at j w d (λ e. elim out [ inl h ↦ omega (arith, h, e) | inr h ↦ omega (arith, h, e, room) ]))
      (length_push row w ∙ ap (λ n. n + 1) length_list)
      (λ j d below. elim (cases_eq j old.len) [
        | inl e ↦
            ap (λ m. get_or (set pool at w) (old.from + m) d) e ∙ get_or-set_same pool at w d (omega (arith, room, is.inside))
            ∙ sym (get_or_at row w [] d j (length_list ∙ sym e))
        | inr off ↦
            let before : j < length row = omega (arith, below, off, length_list) in
            get_or-set_other pool at (old.from + j) w d (λ e. off (omega (arith, e)))
            ∙ sym (get_or_append_left row (w ∷ []) d j before ∙ list_at j d before)
      ])

  -- the first watchers alone
  pub list_take : (n : ℕ) → n ≤ length (get_or (contents pool spans) k []) → contents pool (set spans k (counted (span_at spans k) n))
      ≡ set (contents pool spans) k (take n (get_or (contents pool spans) k []))
  list_take n within =
      let row = get_or (contents pool spans) k [] in
      let is = are.each k known in
      list_edit pool n (take n row) refl (omega (arith, within, length_list, is.fits)) (λ j d out. refl)
      (length-take-le n row within)
      (λ j d below. sym (get_or-take n row j d below ∙ list_at j d (omega (arith, below, within))))

  -- the watchers from b on were copied down to a, and as many are left as there are then
  pub list_close : (new : List Watcher) (a b : ℕ) → a ≤ b → b ≤ length (get_or (contents pool spans) k []) → length new ≡ length pool
      → CopiedTo pool new ((span_at spans k).from + b) ((span_at spans k).from + a) ((span_at spans k).len - b)
      → SameBelow pool new ((span_at spans k).from + a) → SameFrom pool new ((span_at spans k).from + a + ((span_at spans k).len - b))
      → contents new (set spans k (counted (span_at spans k) (a + ((span_at spans k).len - b))))
      ≡ set (contents pool spans) k (remove_range (get_or (contents pool spans) k []) a b)
  list_close new a b order within count copied below from =
      let old = span_at spans k in
      let row = get_or (contents pool spans) k [] in
      let is = are.each k known in
      let n = a + (old.len - b) in
      let front : length (take a row) ≡ a = length-take-le a row (omega (arith, order, within)) in
      list_edit new n (remove_range row a b) count (omega (arith, order, within, length_list, is.fits))
      (λ j d out. elim out [ inl h ↦ below j d (omega (arith, h)) | inr h ↦ from j d (omega (arith, h, order, within, length_list, is.fits)) ])
      (length-append (take a row) (drop b row) ∙ omega (arith, front, length-drop b row, length_list))
      (λ j d low. elim (cases_lt j a) [
        | inl before ↦
            below (old.from + j) d (omega (arith, before))
            ∙ sym (get_or_append_left (take a row) (drop b row) d j (omega (arith, before, front)) ∙ get_or-take a row j d before
            ∙ list_at j d (omega (arith, before, order, within)))
        | inr behind ↦
            let place : old.from + b + (old.from + j - (old.from + a)) ≡ old.from + (b + (j - a)) = omega (arith, behind) in
            copied (old.from + j) d (omega (arith, behind)) (omega (arith, low)) ∙ ap (λ m. get_or pool m d) place
            ∙ sym (get_or-append_right (take a row) (drop b row) a j d front behind ∙ get_or-drop b row (j - a) d
            ∙ list_at (b + (j - a)) d (omega (arith, low, behind, length_list, within)))
      ])

-- the pool is a longer one, and the lists stay
pub contents_longer : (pool new : List Watcher) (spans : List Span) (spare : List (List ℕ)) → AreBlocks (length pool) spans spare → length pool ≤ length new
    → SameBelow pool new (length pool) → contents new spans ≡ contents pool spans
contents_longer pool new spans spare are longer same =
    same_lists (contents new spans) (contents pool spans) (length-map spans (content new) ∙ sym (length-map spans (content pool)))
    (λ k d low.
    let known : k < length spans = omega (arith, low, length-map spans (content new)) in
    let is = are.each k known in
    get_or-map (content new) spans k nowhere d known
    ∙ content_same pool new (span_at spans k) (length pool) (room_of (span_at spans k).class) refl is.inside is.fits longer
    (λ i e from to. same i e (omega (arith, to, is.inside)))
    ∙ sym (get_or-map (content pool) spans k nowhere d known))

-- a list's watchers were copied to a free block, and the list moves there
pub contents_moved : (pool new : List Watcher) (spans : List Span) (spare : List (List ℕ)) → AreBlocks (length pool) spans spare → (k : ℕ) → k < length spans
    → (from class : ℕ)
    → IsFree (length pool) spans spare from (room_of class) → (span_at spans k).len ≤ room_of class → length new ≡ length pool
    → CopiedTo pool new (span_at spans k).from from (span_at spans k).len → SameBelow pool new from → SameFrom pool new (from + (span_at spans k).len)
    → contents new (set spans k (record { from = from; len = (span_at spans k).len; class = class })) ≡ contents pool spans
contents_moved pool new spans spare are k known from class free fits count copied below behind =
    let old = span_at spans k in
    let inside = span_inside pool spans spare are k known in
    let s : Span = record { from = from; len = old.len; class = class } in
    contents_edit pool new spans k s (content pool old) known
    (content_is new s (content pool old) (omega (arith, count, free.inside, fits)) (length_content pool old inside)
    (λ i d low.
    let place : old.from + (from + i - from) ≡ old.from + i = omega arith in
    copied (from + i) d (omega arith) (omega (arith, low)) ∙ ap (λ m. get_or pool m d) place ∙ sym (content_at pool old inside i d low)))
    (λ j low off.
    let is = are.each j low in
    let other = span_at spans j in
    content_same pool new other (length pool) (room_of other.class) refl is.inside is.fits (omega (arith, count))
    (λ i d start end. elim (free.lists j low) [ inl h ↦ below i d (omega (arith, h, end)) | inr h ↦ behind i d (omega (arith, h, start, fits)) ]))
    ∙ ap (set (contents pool spans) k) (sym (list_is pool spans spare are k known)) ∙ set-get_or (contents pool spans) k []
