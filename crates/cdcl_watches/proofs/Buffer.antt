-- Clauses in one buffer: one is read with its name, the next is found, one is put behind the others, taken off, and two literals of one change places.
use Rattle.std.proofs.Common.{◌≡◌, ◌≢◌, ℕ, suc, ◌+◌, ◌-◌, ◌<◌, ◌≤◌, ◌^◌, ◌⊎◌, inl, inr, List, [], ◌∷◌, ◌++◌, map, take, drop, set, length, get_or, slice_range}
use Rattle.std.proofs.Common.{All, Contains, refl, sym, ap, ap₂, ◌∙◌, subst, arith, length-set, length-append, length-drop, length-take-le, get_or-set_other}
use Rattle.std.specs.List.{swap}
use Rattle.std.proofs.lemmas.Bool.{cases_lt}
use Rattle.std.proofs.lemmas.List.{same_lists, get_or-take, get_or-drop, get_or-map, get_or_default, get_or_append_left, get_or-append_right, get_or_at}
use Rattle.std.proofs.lemmas.List.{get_or_past, length-map, length_push, map-append, map-set, take-map, drop-take, drop-drop}
use Rattle.std.proofs.lemmas.List.Edits.{swap_is}
use Rattle.cnf_base.specs.declared.literal.Literal.{Literal}
use Rattle.cnf_base.specs.RowPieces.{Place, row_pieces, IsPlace, AreFlat}
use Rattle.cnf_base.proofs.RowLemmas.{pieces-push, pieces-take, spans_before}
use Rattle.cdcl_watches.specs.Watching.{code, literal_of, clause_of, AreApart}
use Rattle.cdcl_watches.specs.Turned.{turned, turned_place}
use Rattle.cdcl_watches.specs.Heads.{place_at, decoded, clauses_at, names_at, heads_of, left_from, number_of, AreHeads, ArenaValue}
use Rattle.cdcl_watches.proofs.Codes.{literals_code}
use Rattle.cdcl_watches.proofs.Turned.{length_turned, turned_turned, place_low, turned-swap}
use Rattle.cdcl_watches.proofs.HeadWalk.{heads_more, whole_more, heads_fewer, heads_next, heads_two}
use Rattle.cdcl_watches.proofs.HeadNumbers.{number_low}
use Rattle.cdcl_watches.proofs.Pieces.{set_set_row, length_range}

-- the places of heads that hold the same lengths
places_same : (new items heads : List ℕ) → ((c : ℕ) → c < length heads → get_or new (get_or heads c 0) 0 ≡ get_or items (get_or heads c 0) 0)
    → map (place_at new) heads ≡ map (place_at items) heads
places_same new items heads same =
    same_lists (map (place_at new) heads) (map (place_at items) heads) (length-map heads (place_at new) ∙ sym (length-map heads (place_at items)))
    (λ k d low.
    let k_low : k < length heads = omega (arith, low, length-map heads (place_at new)) in
    get_or-map (place_at new) heads k 0 d k_low
    ∙ ap (λ n. let p : Place = record { from = get_or heads k 0; to = get_or heads k 0 + 2 + n } in p) (same k k_low)
    ∙ sym (get_or-map (place_at items) heads k 0 d k_low))

-- the names of heads where the same names stand
names_same : (new items heads : List ℕ) → ((c : ℕ) → c < length heads → get_or new (get_or heads c 0 + 1) 0 ≡ get_or items (get_or heads c 0 + 1) 0)
    → names_at new heads ≡ names_at items heads
names_same new items heads same =
    same_lists (names_at new heads) (names_at items heads) (length-map heads (λ h. get_or new (h + 1) 0) ∙ sym (length-map heads (λ h. get_or items (h + 1) 0)))
    (λ k d low.
    let k_low : k < length heads = omega (arith, low, length-map heads (λ h. get_or new (h + 1) 0)) in
    get_or-map (λ h. get_or new (h + 1) 0) heads k 0 d k_low ∙ same k k_low ∙ sym (get_or-map (λ h. get_or items (h + 1) 0) heads k 0 d k_low))

module _ (items heads : List ℕ) (are : AreHeads items heads) where
  pub heads_flat : AreFlat (length items) (map (place_at items) heads)
  heads_flat = record {
    each = λ k d low.
        let k_low : k < length heads = omega (arith, low, length-map heads (place_at items)) in
        subst (IsPlace (length items)) (sym (get_or-map (place_at items) heads k 0 d k_low)) (record { forward = omega arith; inside = are.inside k k_low });
    ordered = λ i j d earlier low.
        let j_low : j < length heads = omega (arith, low, length-map heads (place_at items)) in
        let at_i = get_or-map (place_at items) heads i 0 d (omega arith) in
        let at_j = get_or-map (place_at items) heads j 0 d j_low in
        subst (λ (p : Place). p.to ≤ (get_or (map (place_at items) heads) j d).from) (sym at_i)
        (subst (λ (p : Place). get_or heads i 0 + 2 + get_or items (get_or heads i 0) 0 ≤ p.from) (sym at_j) (are.ordered i j earlier j_low));
  }

  pub length_clauses : length (clauses_at items heads) ≡ length heads
  length_clauses = length-map (row_pieces items (map (place_at items) heads)) decoded
      ∙ length-map (map (place_at items) heads) (λ s. slice_range items s.from s.to) ∙ length-map heads (place_at items)

  pub heads_apart : AreApart heads
  heads_apart j k d earlier low same =
      omega (arith, are.ordered j k earlier low, get_or_default heads j d 0 (omega arith), get_or_default heads k d 0 low, same)

  -- a clause of the buffer, by its head
  module _ (c : ℕ) (known : c < length heads) where
    pub row_at : get_or (row_pieces items (map (place_at items) heads)) c [] ≡ slice_range items (get_or heads c 0)
        (get_or heads c 0 + 2 + get_or items (get_or heads c 0) 0)
    row_at =
        let p = place_at items (get_or heads c 0) in
        get_or-map (λ (s : Place). slice_range items s.from s.to) (map (place_at items) heads) c p [] (omega (arith, length-map heads (place_at items)))
        ∙ ap (λ (s : Place). slice_range items s.from s.to) (get_or-map (place_at items) heads c 0 p known)

    pub row_length : length (get_or (row_pieces items (map (place_at items) heads)) c []) ≡ 2 + get_or items (get_or heads c 0) 0
    row_length =
        let h = get_or heads c 0 in
        ap length row_at ∙ length_range items h (h + 2 + get_or items h 0) (omega arith) (are.inside c known) ∙ omega (arith)

    pub clause_row : clause_of (clauses_at items heads) c ≡ decoded (get_or (row_pieces items (map (place_at items) heads)) c [])
    clause_row = get_or-map decoded (row_pieces items (map (place_at items) heads)) c [] [] (omega (arith, known, length_rows))
      where
        length_rows : length (row_pieces items (map (place_at items) heads)) ≡ length heads
        length_rows = length-map (map (place_at items) heads) (λ s. slice_range items s.from s.to) ∙ length-map heads (place_at items)

    pub clause_length : length (clause_of (clauses_at items heads) c) ≡ get_or items (get_or heads c 0) 0
    clause_length =
        let row = get_or (row_pieces items (map (place_at items) heads)) c [] in
        ap length clause_row ∙ length_turned (map literal_of (drop 2 row)) ∙ length-map (drop 2 row) literal_of ∙ length-drop 2 row ∙ omega (arith, row_length)

    pub clause_range : turned (map literal_of (slice_range items (get_or heads c 0 + 2) (get_or heads c 0 + 2 + get_or items (get_or heads c 0) 0)))
        ≡ clause_of (clauses_at items heads) c
    clause_range =
        let h = get_or heads c 0 in
        let n = get_or items h 0 in
        let whole : (h + 2 + n) - h ≡ 2 + n = omega arith in
        let rest : (h + 2 + n) - (h + 2) ≡ n = omega arith in
        ap (λ m. turned (map literal_of (take m (drop (h + 2) items)))) rest
        ∙ ap (λ xs. turned (map literal_of (take n xs))) (sym (drop-drop 2 h items))
        ∙ ap (λ xs. turned (map literal_of xs)) (sym (drop-take 2 n (drop h items)))
        ∙ ap (λ m. turned (map literal_of (drop 2 (take m (drop h items))))) (sym whole)
        ∙ ap decoded (sym row_at) ∙ sym clause_row

length_codes : (row : List Literal) → length (map code (turned row)) ≡ length row
length_codes row = length-map (turned row) code ∙ length_turned row

-- a clause is put behind the others
module _ (items heads : List ℕ) (are : AreHeads items heads) (name : ℕ) (row : List Literal) where
  abbrev more : List ℕ
  more = items ++ length row ∷ name ∷ map code (turned row)

  item_kept : (p : ℕ) → p < length items → get_or more p 0 ≡ get_or items p 0
  item_kept p low = get_or_append_left items (length row ∷ name ∷ map code (turned row)) 0 p low

  head_kept : (c : ℕ) → c < length heads → get_or (heads ++ length items ∷ []) c 0 ≡ get_or heads c 0
  head_kept c low = get_or_append_left heads (length items ∷ []) 0 c low

  head_new : get_or (heads ++ length items ∷ []) (length heads) 0 ≡ length items
  head_new = get_or_at heads (length items) [] 0 (length heads) refl

  length_new : get_or more (length items) 0 ≡ length row
  length_new = get_or_at items (length row) (name ∷ map code (turned row)) 0 (length items) refl

  name_new : get_or more (length items + 1) 0 ≡ name
  name_new =
      let one : length items + 1 - length items ≡ 1 = omega arith in
      get_or-append_right items (length row ∷ name ∷ map code (turned row)) (length items) (length items + 1) 0 refl (omega arith)
      ∙ ap (λ n. get_or (length row ∷ name ∷ map code (turned row)) n 0) one

  pub length_more : length more ≡ length items + 2 + length row
  length_more = length-append items (length row ∷ name ∷ map code (turned row)) ∙ omega (arith, length_codes row)

  places_more : map (place_at more) (heads ++ length items ∷ []) ≡ map (place_at items) heads
      ++ (let p : Place = record { from = length items; to = length items + (2 + length row) } in p) ∷ []
  places_more =
      map-append (place_at more) heads (length items ∷ [])
      ∙ ap₂ (λ (ps : List Place) (n : ℕ). ps ++ (let p : Place = record { from = length items; to = n } in p) ∷ [])
      (places_same more items heads (λ c low. item_kept (get_or heads c 0) (omega (arith, are.inside c low))))
      (omega (arith, length_new))

  pub clauses_more : clauses_at more (heads ++ length items ∷ []) ≡ clauses_at items heads ++ row ∷ []
  clauses_more =
      let tail = length row ∷ name ∷ map code (turned row) in
      let span : Place = record { from = length items; to = length items + (2 + length row) } in
      let rows = row_pieces items (map (place_at items) heads) in
      ap (λ ps. map decoded (row_pieces more ps)) places_more
      ∙ ap (map decoded) (pieces-push items tail (map (place_at items) heads) span (heads_flat items heads are) refl (omega (arith, length_codes row)))
      ∙ map-append decoded rows (tail ∷ [])
      ∙ ap (λ r. map decoded rows ++ r ∷ []) (ap turned (literals_code (turned row)) ∙ turned_turned row)

  pub names_more : names_at more (heads ++ length items ∷ []) ≡ names_at items heads ++ name ∷ []
  names_more =
      map-append (λ h. get_or more (h + 1) 0) heads (length items ∷ [])
      ∙ ap₂ (λ ns n. ns ++ n ∷ []) (names_same more items heads (λ c low. item_kept (get_or heads c 0 + 1) (omega (arith, are.inside c low)))) name_new

  found_more : heads_of more ≡ heads ++ length items ∷ []
  found_more = heads_more items (map code (turned row)) (length row) name are.whole (length_codes row) ∙ ap (λ hs. hs ++ length items ∷ []) are.found

  pub are_more : length more < 2 ^ 32 → AreHeads more (heads ++ length items ∷ [])
  are_more short =
      let heads' = heads ++ length items ∷ [] in
      let longer = length_push heads (length items) in
      let which : (c : ℕ) → c < length heads' → (c < length heads) ⊎ (c ≡ length heads) =
      λ c low. elim (cases_lt c (length heads)) [ inl lt ↦ inl lt | inr ge ↦ inr (omega arith) ] in
      let end_old : (c : ℕ) → c < length heads → get_or heads' c 0 + 2 + get_or more (get_or heads' c 0) 0 ≤ length items = λ c low.
      omega
      (arith, head_kept c low, ap (λ h. get_or more h 0) (head_kept c low), item_kept (get_or heads c 0) (omega (arith, are.inside c low)), are.inside c low) in
      record {
        found = found_more;
        whole = whole_more items (map code (turned row)) (length row) name are.whole (length_codes row);
        inside = λ c low. elim (which c low) [
          | inl lt ↦ omega (arith, end_old c lt, length_more)
          | inr e ↦ omega (
            arith,
            ap (λ n. get_or heads' n 0) e,
            head_new,
            ap (λ n. get_or more (get_or heads' n 0) 0) e,
            ap (λ h. get_or more h 0) head_new,
            length_new,
            length_more,
          )
        ];
        ordered = λ c d earlier low. elim (which d low) [
          | inl lt ↦
              let c_low : c < length heads = omega (arith, earlier, lt) in
              omega (
                arith,
                head_kept c c_low,
                ap (λ h. get_or more h 0) (head_kept c c_low),
                item_kept (get_or heads c 0) (omega (
                  arith,
                  are.inside c c_low,
                )),
                head_kept d lt,
                are.ordered c d earlier lt,
              )
          | inr e ↦ omega (arith, end_old c (omega (arith, earlier, e)), ap (λ n. get_or heads' n 0) e, head_new)
        ];
        first = elim (cases_lt 0 (length heads)) [
          | inl some ↦ head_kept 0 some ∙ are.first
          | inr empty ↦
              let is : 0 ≡ length heads = omega arith in
              ap (λ n. get_or heads' n 0) is ∙ head_new ∙ are.none (sym is)
        ];
        none = λ e. omega (arith, e, longer);
        few = short;
      }

-- the last clause is taken off
module _ (items heads : List ℕ) (are : AreHeads items heads) (some : 0 < length heads) where
  abbrev last : ℕ
  last = length heads - 1

  abbrev end : ℕ
  end = get_or heads last 0

  before_end : (c : ℕ) → c < last → get_or heads c 0 + 2 + get_or items (get_or heads c 0) 0 ≤ end
  before_end c low = are.ordered c last low (omega arith)

  places_fewer : map (place_at (take end items)) (take last heads) ≡ take last (map (place_at items) heads)
  places_fewer =
      places_same (take end items) items (take last heads)
      (λ c low.
      let c_low : c < last = omega (arith, low, length-take-le last heads (omega arith)) in
      let head : get_or (take last heads) c 0 ≡ get_or heads c 0 = get_or-take last heads c 0 c_low in
      get_or-take end items (get_or (take last heads) c 0) 0 (omega (arith, before_end c c_low, head)))
      ∙ sym (take-map (place_at items) last heads)

  pub clauses_fewer : clauses_at (take end items) (take last heads) ≡ take last (clauses_at items heads)
  clauses_fewer =
      let ps = map (place_at items) heads in
      let low : last < length ps = omega (arith, length-map heads (place_at items)) in
      let d = place_at items 0 in
      let from : (get_or ps last d).from ≡ end = ap (λ (p : Place). p.from) (get_or-map (place_at items) heads last 0 d (omega arith)) in
      ap (λ qs. map decoded (row_pieces (take end items) qs)) places_fewer
      ∙ ap (map decoded) (pieces-take items ps last end (heads_flat items heads are)
      (subst (λ e. All (λ (s : Place). s.to ≤ e) (take last ps)) from (spans_before items ps last d (heads_flat items heads are) low)))
      ∙ sym (take-map decoded last (row_pieces items ps))

  pub names_fewer : names_at (take end items) (take last heads) ≡ take last (names_at items heads)
  names_fewer =
      names_same (take end items) items (take last heads)
      (λ c low.
      let c_low : c < last = omega (arith, low, length-take-le last heads (omega arith)) in
      let head : get_or (take last heads) c 0 ≡ get_or heads c 0 = get_or-take last heads c 0 c_low in
      get_or-take end items (get_or (take last heads) c 0 + 1) 0 (omega (arith, before_end c c_low, head)))
      ∙ sym (take-map (λ h. get_or items (h + 1) 0) last heads)

  cut_here : (heads_of (take end items) ≡ take last (heads_of items)) × (left_from 0 (take end items) ≡ 0)
  cut_here = heads_fewer items last end (omega (arith, ap length are.found)) (ap (λ hs. get_or hs last 0) (sym are.found))

  pub are_fewer : AreHeads (take end items) (take last heads)
  are_fewer =
      let shorter : length (take last heads) ≡ last = length-take-le last heads (omega arith) in
      let cut : length (take end items) ≡ end = length-take-le end items (omega (arith, are.inside last (omega arith))) in
      let head : (c : ℕ) → c < last → get_or (take last heads) c 0 ≡ get_or heads c 0 = λ c low. get_or-take last heads c 0 low in
      let item : (p : ℕ) → p < end → get_or (take end items) p 0 ≡ get_or items p 0 = λ p low. get_or-take end items p 0 low in
      let len : (c : ℕ) → c < last → get_or (take last heads) c 0 + 2 + get_or (take end items) (get_or (take last heads) c 0) 0
      ≡ get_or heads c 0 + 2 + get_or items (get_or heads c 0) 0 = λ c low.
      omega (arith, head c low, ap (λ h. get_or (take end items) h 0) (head c low), item (get_or heads c 0) (omega (arith, before_end c low))) in
      record {
        found = cut_here.0 ∙ ap (take last) are.found;
        whole = cut_here.1;
        inside = λ c low. let c_low : c < last = omega (arith, low, shorter) in omega (arith, len c c_low, before_end c c_low, cut);
        ordered = λ c d earlier low.
            let d_low : d < last = omega (arith, low, shorter) in
            omega (arith, len c (omega arith), head d d_low, are.ordered c d earlier (omega arith));
        first = elim (cases_lt 0 last) [
          | inl some_left ↦ head 0 some_left ∙ are.first
          | inr empty ↦ get_or_past (take last heads) 0 0 (omega (arith, shorter))
        ];
        none = λ e. omega (arith, cut, are.first, ap (λ n. get_or heads n 0) (last_is e shorter));
        few = omega (arith, cut, are.inside last (omega arith), are.few);
      }
    where
      last_is : length (take last heads) ≡ 0 → length (take last heads) ≡ last → last ≡ 0
      last_is e is = omega (arith, e, is)

-- the literals as they stand in the buffer
abbrev literals : List ℕ → List Literal
literals row = map literal_of (drop 2 row)

-- an item of the literals is changed
set_literals : (row : List ℕ) (i x : ℕ) → literals (set row (suc (suc i)) x) ≡ set (literals row) i (literal_of x)
set_literals [] i x = refl
set_literals (a ∷ []) i x = refl
set_literals (a ∷ b ∷ row) i x = map-set literal_of row i x

-- two literals change places
swap_literals : (row : List ℕ) (i j : ℕ) → i + 2 < length row → j + 2 < length row → literals (swap row (suc (suc i)) (suc (suc j))) ≡ swap (literals row) i j
swap_literals row i j i_low j_low =
    let len : length (literals row) ≡ length row - 2 = length-map (drop 2 row) literal_of ∙ length-drop 2 row in
    let at : (k : ℕ) → k + 2 < length row → literal_of (get_or row (suc (suc k)) 0) ≡ get_or (literals row) k (literal_of 0) = λ k low.
    let two : 2 + k ≡ suc (suc k) = omega arith in
    ap literal_of (ap (λ n. get_or row n 0) (sym two) ∙ sym (get_or-drop 2 row k 0))
    ∙ sym (get_or-map literal_of (drop 2 row) k 0 (literal_of 0) (omega (arith, length-drop 2 row))) in
    ap literals (sym (swap_is row (suc (suc i)) (suc (suc j)) 0 (omega arith) (omega arith)))
    ∙ set_literals (set row (suc (suc i)) (get_or row (suc (suc j)) 0)) j (get_or row (suc (suc i)) 0)
    ∙ ap (λ ls. set ls j (literal_of (get_or row (suc (suc i)) 0))) (set_literals row i (get_or row (suc (suc j)) 0))
    ∙ ap₂ (λ x y. set (set (literals row) i x) j y) (at j j_low) (at i i_low)
    ∙ swap_is (literals row) i j (literal_of 0) (omega (arith, len)) (omega (arith, len))

-- two literals change places in the clause
swap_decoded : (row : List ℕ) (n k l : ℕ)
    → length row ≡ 2 + n → k < n → l < n → decoded (swap row (suc (suc (turned_place n k))) (suc (suc (turned_place n l)))) ≡ swap (decoded row) k l
swap_decoded row n k l row_len k_low l_low =
    let len : length (literals row) ≡ n = length-map (drop 2 row) literal_of ∙ length-drop 2 row ∙ omega (arith, row_len) in
    ap turned
    (swap_literals row (turned_place n k) (turned_place n l) (omega (arith, row_len, place_low n k k_low)) (omega (arith, row_len, place_low n l l_low)))
    ∙ ap (λ m. turned (swap (literals row) (turned_place m k) (turned_place m l))) (sym len)
    ∙ turned-swap (literals row) k l (literal_of 0) (omega (arith, len, k_low)) (omega (arith, len, l_low))

module _ (items heads : List ℕ) (are : AreHeads items heads) (c : ℕ) (known : c < length heads) (i j a b : ℕ)
    (i_low : i < get_or items (get_or heads c 0) 0) (j_low : j < get_or items (get_or heads c 0) 0)
    (a_is : a ≡ get_or items (get_or heads c 0 + 2 + i) a) (b_is : b ≡ get_or items (get_or heads c 0 + 2 + j) b) where
  abbrev head : ℕ
  head = get_or heads c 0

  abbrev new : List ℕ
  new = set (set items (head + 2 + i) b) (head + 2 + j) a

  elsewhere : (p : ℕ) → p ≢ head + 2 + i → p ≢ head + 2 + j → get_or new p 0 ≡ get_or items p 0
  elsewhere p not_i not_j = get_or-set_other (set items (head + 2 + i) b) (head + 2 + j) p a 0 not_j ∙ get_or-set_other items (head + 2 + i) p b 0 not_i

  -- no head has one of the two
  heads_other : (d q k : ℕ) → d < length heads → q < 2 → k < get_or items head 0 → get_or heads d 0 + q ≢ head + 2 + k
  heads_other d q k d_low q_low k_low same = elim (cases_lt d c) [
    | inl lt ↦ omega (arith, are.ordered d c lt known, same, q_low)
    | inr ge ↦ elim (cases_lt c d) [
      | inl gt ↦ omega (arith, are.ordered c d gt d_low, same, k_low)
      | inr le ↦ omega (arith, ap (λ n. get_or heads n 0) (both d c ge le), same, q_low)
    ]
  ]
    where
      both : (m n : ℕ) → n ≤ m → m ≤ n → m ≡ n
      both m n low high = omega arith

  head_item : (d q : ℕ) → d < length heads → q < 2 → get_or new (get_or heads d 0 + q) 0 ≡ get_or items (get_or heads d 0 + q) 0
  head_item d q d_low q_low = elsewhere (get_or heads d 0 + q) (heads_other d q i d_low q_low i_low) (heads_other d q j d_low q_low j_low)

  length_item : (d : ℕ) → d < length heads → get_or new (get_or heads d 0) 0 ≡ get_or items (get_or heads d 0) 0
  length_item d d_low =
      let plain : get_or heads d 0 + 0 ≡ get_or heads d 0 = omega arith in
      subst (λ p. get_or new p 0 ≡ get_or items p 0) plain (head_item d 0 d_low (omega arith))

  length_same : length new ≡ length items
  length_same = length-set (set items (head + 2 + i) b) (head + 2 + j) a ∙ length-set items (head + 2 + i) b

  -- nor do the heads or the names change
  walk_same : (heads_of new ≡ heads_of items) × (left_from 0 new ≡ left_from 0 items)
  walk_same =
      heads_two items (head + 2 + i) (head + 2 + j) b a
      (subst (λ hs. (d : ℕ) → d < length hs → get_or hs d 0 ≢ head + 2 + i) (sym are.found)
      (λ d low same. heads_other d 0 i low (omega arith) i_low (omega (arith, same))))
      (subst (λ hs. (d : ℕ) → d < length hs → get_or hs d 0 ≢ head + 2 + j) (sym are.found)
      (λ d low same. heads_other d 0 j low (omega arith) j_low (omega (arith, same))))

  pub names_swapped : names_at new heads ≡ names_at items heads
  names_swapped = names_same new items heads (λ d low. head_item d 1 low (omega arith))

  pub are_swapped : AreHeads new heads
  are_swapped = record {
    found = walk_same.0 ∙ are.found;
    whole = walk_same.1 ∙ are.whole;
    inside = λ d low. omega (arith, length_item d low, are.inside d low, length_same);
    ordered = λ d e earlier low. omega (arith, length_item d (omega arith), are.ordered d e earlier low);
    first = are.first;
    none = λ e. length_same ∙ are.none e;
    few = omega (arith, length_same, are.few);
  }

  pub clauses_swapped : (k l : ℕ) → k < get_or items head 0 → l < get_or items head 0 → i ≡ turned_place (get_or items head 0) k
      → j ≡ turned_place (get_or items head 0) l
      → clauses_at new heads ≡ set (clauses_at items heads) c (swap (clause_of (clauses_at items heads) c) k l)
  clauses_swapped k l k_low l_low i_is j_is =
      let ps = map (place_at items) heads in
      let rows = row_pieces items ps in
      let row = get_or rows c [] in
      let p = place_at items head in
      let i_at : head + 2 + i ≡ head + suc (suc i) = omega arith in
      let j_at : head + 2 + j ≡ head + suc (suc j) = omega arith in
      let len = row_length items heads are c known in
      ap (λ qs. map decoded (row_pieces new qs)) (places_same new items heads length_item)
      ∙ ap₂ (λ m n. map decoded (row_pieces (set (set items m b) n a) ps)) i_at j_at
      ∙ ap (map decoded)
      (set_set_row items ps (heads_flat items heads are) p c (suc (suc i)) (suc (suc j)) a b (omega (arith, length-map heads (place_at items)))
      (sym (get_or-map (place_at items) heads c 0 p known)) (omega (arith, len, i_low)) (omega (arith, len, j_low)) (a_is ∙ ap (λ n. get_or items n a) i_at)
      (b_is ∙ ap (λ n. get_or items n b) j_at))
      ∙ map-set decoded rows c (swap row (suc (suc i)) (suc (suc j)))
      ∙ ap (set (map decoded rows) c)
      (ap₂ (λ u v. decoded (swap row (suc (suc u)) (suc (suc v)))) i_is j_is ∙ swap_decoded row (get_or items head 0) k l len k_low l_low
      ∙ ap (λ ls. swap ls k l) (sym (clause_row items heads are c known)))

-- the clause that is read at a head
pub clause_at_head : (items heads : List ℕ) → AreHeads items heads → (head n : ℕ) → n ≡ get_or items head n → Contains heads head
    → turned (map literal_of (slice_range items (head + 2) (head + 2 + n))) ≡ clause_of (clauses_at items heads) (number_of heads head)
clause_at_head items heads are head n n_is there =
    let r = number_low heads head there in
    let c = number_of heads head in
    let low : head < length items = omega (arith, are.inside c r.0, r.1) in
    let len : n ≡ get_or items head 0 = n_is ∙ get_or_default items head n 0 low in
    ap (λ m. turned (map literal_of (slice_range items (head + 2) (head + 2 + m)))) len
    ∙ ap (λ h. turned (map literal_of (slice_range items (h + 2) (h + 2 + get_or items h 0)))) (sym r.1)
    ∙ clause_range items heads are c r.0

-- the name that is read at a head
pub name_at_head : (items heads : List ℕ) → AreHeads items heads → (head n : ℕ) → n ≡ get_or items (head + 1) n → Contains heads head
    → n ≡ get_or (names_at items heads) (number_of heads head) 0
name_at_head items heads are head n n_is there =
    let r = number_low heads head there in
    let c = number_of heads head in
    let low : head + 1 < length items = omega (arith, are.inside c r.0, r.1) in
    n_is ∙ get_or_default items (head + 1) n 0 low ∙ ap (λ h. get_or items (h + 1) 0) (sym r.1) ∙ sym (get_or-map (λ h. get_or items (h + 1) 0) heads c 0 0 r.0)

-- no clause stands behind the one of a head
pub none_after : (items heads : List ℕ) → AreHeads items heads → (head n : ℕ) → n ≡ get_or items head n → Contains heads head
    → length items ≤ head + 2 + n → suc (number_of heads head) ≡ length heads
none_after items heads are head n n_is there past =
    let r = number_low heads head there in
    let c = number_of heads head in
    let len : n ≡ get_or items (get_or heads c 0) 0 =
    n_is ∙ get_or_default items head n 0 (omega (arith, are.inside c r.0, r.1)) ∙ ap (λ h. get_or items h 0) (sym r.1) in
    elim (cases_lt (suc c) (length heads)) [
      | inl more ↦ absurd (omega (arith, are.ordered c (suc c) (omega arith) more, are.inside (suc c) more, len, r.1, past))
      | inr ge ↦ omega (arith, ge, r.0)
    ]

-- the head of the clause behind the one of a head
pub head_after : (items : List ℕ) → AreHeads items (heads_of items) → (head n : ℕ) → n ≡ get_or items head n → Contains (heads_of items) head
    → head + 2 + n < length items
    → (suc (number_of (heads_of items) head) < length (heads_of items)) × (head + 2 + n ≡ get_or (heads_of items) (suc (number_of (heads_of items) head)) 0)
head_after items are head n n_is there low =
    let r = number_low (heads_of items) head there in
    let len : n ≡ get_or items head 0 = n_is ∙ get_or_default items head n 0 (omega (arith, low)) in
    let next = heads_next items (number_of (heads_of items) head) head r.0 (sym r.1) (omega (arith, low, len)) in
    (next.0, omega (arith, next.1, len))

-- a clause of n literals stands at a head
module _ (items heads : List ℕ) (are : AreHeads items heads) (h : ℕ) (there : Contains heads h) (n : ℕ) (n_is : n ≡ get_or items h n) where
  abbrev clause : List Literal
  clause = clause_of (clauses_at items heads) (number_of heads h)

  known_head : number_of heads h < length heads
  known_head = (number_low heads h there).0

  at_head : get_or heads (number_of heads h) 0 ≡ h
  at_head = (number_low heads h there).1

  length_here : n ≡ get_or items (get_or heads (number_of heads h) 0) 0
  length_here = n_is ∙ get_or_default items h n 0 (omega (arith, are.inside (number_of heads h) known_head, at_head)) ∙ ap (λ m. get_or items m 0) (sym at_head)

  pub length_at_head : n ≡ length clause
  length_at_head = length_here ∙ sym (clause_length items heads are (number_of heads h) known_head)

  low_here : (k : ℕ) → k < length clause → k < get_or items (get_or heads (number_of heads h) 0) 0
  low_here k low = omega (arith, low, clause_length items heads are (number_of heads h) known_head)

  place_here : (k p : ℕ) → k < length clause → p ≡ turned_place n k → p < get_or items (get_or heads (number_of heads h) 0) 0
  place_here k p low is = omega (arith, is, length_here, place_low n k (omega (arith, length_at_head, low)))

  -- a literal stands in the buffer
  pub literal_inside : (k p : ℕ) → k < length clause → p ≡ turned_place n k → h + 2 + p < length items
  literal_inside k p low is = omega (arith, are.inside (number_of heads h) known_head, at_head, place_here k p low is)

  -- two literals change places
  module _ (i j p q a b : ℕ) (i_low : i < length clause) (j_low : j < length clause) (p_is : p ≡ turned_place n i) (q_is : q ≡ turned_place n j)
      (a_is : a ≡ get_or items (h + 2 + p) a) (b_is : b ≡ get_or items (h + 2 + q) b) where
    pub swapped_heads : AreHeads (set (set items (h + 2 + p) b) (h + 2 + q) a) heads
    swapped_heads = subst (λ m. AreHeads (set (set items (m + 2 + p) b) (m + 2 + q) a) heads) at_head
        (are_swapped items heads are (number_of heads h) known_head p q a b (place_here i p i_low p_is) (place_here j q j_low q_is)
        (a_is ∙ ap (λ m. get_or items (m + 2 + p) a) (sym at_head)) (b_is ∙ ap (λ m. get_or items (m + 2 + q) b) (sym at_head)))

    pub swapped_names : names_at (set (set items (h + 2 + p) b) (h + 2 + q) a) heads ≡ names_at items heads
    swapped_names =
        ap (λ m. names_at (set (set items (m + 2 + p) b) (m + 2 + q) a) heads) (sym at_head)
        ∙ names_swapped items heads are (number_of heads h) known_head p q a b (place_here i p i_low p_is) (place_here j q j_low q_is)
        (a_is ∙ ap (λ m. get_or items (m + 2 + p) a) (sym at_head)) (b_is ∙ ap (λ m. get_or items (m + 2 + q) b) (sym at_head))

    pub swapped_clauses : clauses_at (set (set items (h + 2 + p) b) (h + 2 + q) a) heads ≡ set (clauses_at items heads) (number_of heads h) (swap clause i j)
    swapped_clauses =
        ap (λ m. clauses_at (set (set items (m + 2 + p) b) (m + 2 + q) a) heads) (sym at_head)
        ∙ clauses_swapped items heads are (number_of heads h) known_head p q a b (place_here i p i_low p_is) (place_here j q j_low q_is)
        (a_is ∙ ap (λ m. get_or items (m + 2 + p) a) (sym at_head)) (b_is ∙ ap (λ m. get_or items (m + 2 + q) b) (sym at_head))
        i j (low_here i i_low) (low_here j j_low) (p_is ∙ ap (λ m. turned_place m i) length_here) (q_is ∙ ap (λ m. turned_place m j) length_here)

-- what the items are seen as
abbrev pub value_of : List ℕ → ArenaValue
value_of items = record { clauses = clauses_at items (heads_of items); heads = heads_of items; names = names_at items (heads_of items) }

-- heads that are those of the items, and what is seen by them
pub own_heads : (items heads : List ℕ) → AreHeads items heads → AreHeads items (heads_of items)
own_heads items heads are = subst (AreHeads items) (sym are.found) are

pub own_value : (items heads : List ℕ) → AreHeads items heads
    → value_of items ≡ record { clauses = clauses_at items heads; heads = heads; names = names_at items heads }
own_value items heads are = ap (λ hs. let v : ArenaValue = record { clauses = clauses_at items hs; heads = hs; names = names_at items hs } in v) are.found

module _ (items : List ℕ) (are : AreHeads items (heads_of items)) where
  -- a clause is put behind the others by a name
  module _ (name : ℕ) (row : List Literal) (new : List ℕ) (new_is : new ≡ items ++ length row ∷ name ∷ map code (turned row))
      (short : length items + 2 + length row < 2 ^ 32) where
    are_pushed : AreHeads (items ++ length row ∷ name ∷ map code (turned row)) (heads_of items ++ length items ∷ [])
    are_pushed = are_more items (heads_of items) are name row (omega (arith, length_more items (heads_of items) are name row, short))

    pub pushed_heads : AreHeads new (heads_of new)
    pushed_heads = subst (λ xs. AreHeads xs (heads_of xs)) (sym new_is)
        (own_heads (items ++ length row ∷ name ∷ map code (turned row)) (heads_of items ++ length items ∷ []) are_pushed)

    pub pushed_value : (h : ℕ) → h ≡ length items
        → value_of new ≡ record {
          clauses = clauses_at items (heads_of items) ++ row ∷ [];
          heads = heads_of items ++ h ∷ [];
          names = names_at items (heads_of items) ++ name ∷ [];
        }
    pushed_value h h_is =
        ap value_of new_is ∙ own_value (items ++ length row ∷ name ∷ map code (turned row)) (heads_of items ++ length items ∷ []) are_pushed
        ∙ ap₂ (λ cs ns. let v : ArenaValue = record { clauses = cs; heads = heads_of items ++ length items ∷ []; names = ns } in v)
        (clauses_more items (heads_of items) are name row) (names_more items (heads_of items) are name row)
        ∙ ap (λ k. let v : ArenaValue = record {
          clauses = clauses_at items (heads_of items) ++ row ∷ [];
          heads = heads_of items ++ k ∷ [];
          names = names_at items (heads_of items) ++ name ∷ [];
        } in v) (sym h_is)

  -- the last clause is taken off by its head
  module _ (head : ℕ) (there : Contains (heads_of items) head)
      (is_last : suc (number_of (heads_of items) head) ≡ length (clauses_at items (heads_of items))) where
    some_heads : 0 < length (heads_of items)
    some_heads = omega (arith, (number_low (heads_of items) head there).0)

    last_number : number_of (heads_of items) head ≡ length (heads_of items) - 1
    last_number = omega (arith, is_last, length_clauses items (heads_of items) are)

    end_is : get_or (heads_of items) (length (heads_of items) - 1) 0 ≡ head
    end_is = ap (λ n. get_or (heads_of items) n 0) (sym last_number) ∙ (number_low (heads_of items) head there).1

    are_popped : AreHeads (take head items) (take (length (heads_of items) - 1) (heads_of items))
    are_popped =
        subst (λ e. AreHeads (take e items) (take (length (heads_of items) - 1) (heads_of items))) end_is (are_fewer items (heads_of items) are some_heads)

    pub popped_heads : AreHeads (take head items) (heads_of (take head items))
    popped_heads = own_heads (take head items) (take (length (heads_of items) - 1) (heads_of items)) are_popped

    pub popped_value : value_of (take head items) ≡ record {
      clauses = take (length (clauses_at items (heads_of items)) - 1) (clauses_at items (heads_of items));
      heads = take (length (clauses_at items (heads_of items)) - 1) (heads_of items);
      names = take (length (clauses_at items (heads_of items)) - 1) (names_at items (heads_of items));
    }
    popped_value =
        let last = length (heads_of items) - 1 in
        own_value (take head items) (take last (heads_of items)) are_popped
        ∙ ap₂ (λ cs ns. let v : ArenaValue = record { clauses = cs; heads = take last (heads_of items); names = ns } in v)
        (ap (λ e. clauses_at (take e items) (take last (heads_of items))) (sym end_is) ∙ clauses_fewer items (heads_of items) are some_heads)
        (ap (λ e. names_at (take e items) (take last (heads_of items))) (sym end_is) ∙ names_fewer items (heads_of items) are some_heads)
        ∙ ap (λ n. let v : ArenaValue = record {
          clauses = take (n - 1) (clauses_at items (heads_of items));
          heads = take (n - 1) (heads_of items);
          names = take (n - 1) (names_at items (heads_of items));
        } in v)
        (sym (length_clauses items (heads_of items) are))
