-- Blocks of a pool stay apart: one is made, taken, given back, or a list moves to it.
use Rattle.std.proofs.Common.{◌≡◌, ◌≢◌, ℕ, ◌+◌, ◌-◌, ◌<◌, ◌≤◌, ◌⊎◌, inl, inr, List, [], ◌∷◌, ◌++◌, take, set, length, get_or, sym, ap, ◌∙◌, subst, arith}
use Rattle.std.proofs.Common.{length-set, length-take-le, get_or-set_same, get_or-set_other}
use Rattle.std.proofs.lemmas.Bool.{cases_eq}
use Rattle.std.proofs.lemmas.List.{get_or-take, get_or_append_left, get_or_at, length_push}
use Rattle.cdcl_watches.specs.declared.span.Span.{Span}
use Rattle.cdcl_watches.specs.Pool.{nowhere, counted, room_of, span_at, row_at, spare_at, AreClear, IsSpan, IsFree, AreBlocks}

clear_swap : (a m b n : ℕ) → AreClear a m b n → AreClear b n a m
clear_swap a m b n (inl h) = inr h
clear_swap a m b n (inr h) = inl h

-- the pool was lengthened
pub longer : (size more : ℕ) (spans : List Span) (spare : List (List ℕ)) → size ≤ more → AreBlocks size spans spare → AreBlocks more spans spare
longer size more spans spare up are = record {
  each = λ k low. let is = are.each k low in record { inside = omega (arith, is.inside, up); fits = is.fits; classed = is.classed };
  apart = are.apart;
  inside = λ c i low. omega (arith, are.inside c i low, up);
  between = are.between;
  spares = are.spares;
}

-- what it was lengthened by is free
pub longer_free : (size more room : ℕ) (spans : List Span) (spare : List (List ℕ)) → size + room ≤ more → AreBlocks size spans spare
    → IsFree more spans spare size room
longer_free size more room spans spare up are = record {
  inside = up;
  lists = λ k low. inl (are.each k low).inside;
  spares = λ c i low. inl (are.inside c i low);
}

-- some rows are shorter than they were
module _ (size : ℕ) (spans : List Span) (spare left : List (List ℕ)) (are : AreBlocks size spans spare)
    (fewer : (c i : ℕ) → i < length (row_at left c) → (i < length (row_at spare c)) × (spare_at left c i ≡ spare_at spare c i)) where
  pub fewer_spare : AreBlocks size spans left
  fewer_spare = record {
    each = are.each;
    apart = are.apart;
    inside = λ c i low. let (was, same) = fewer c i low in subst (λ a. a + room_of c ≤ size) (sym same) (are.inside c i was);
    between = λ k c i k_low low.
        let (was, same) = fewer c i low in
        subst (λ a. AreClear (span_at spans k).from (room_of (span_at spans k).class) a (room_of c)) (sym same) (are.between k c i k_low was);
    spares = λ c i d j low low_j off.
        let (was, same) = fewer c i low in
        let (was_j, same_j) = fewer d j low_j in
        subst (λ a. AreClear a (room_of c) (spare_at left d j) (room_of d)) (sym same)
        (subst (λ b. AreClear (spare_at spare c i) (room_of c) b (room_of d)) (sym same_j) (are.spares c i d j was was_j off));
  }

-- the last block of a row is taken
module _ (spare left : List (List ℕ)) (class : ℕ) (others : (d : ℕ) → d ≢ class → row_at left d ≡ row_at spare d)
    (row : row_at left class ≡ take (length (row_at spare class) - 1) (row_at spare class)) where
  pub taken_fewer : (c i : ℕ) → i < length (row_at left c) → (i < length (row_at spare c)) × (spare_at left c i ≡ spare_at spare c i)
  taken_fewer c i low = elim (cases_eq c class) [
    | inl at ↦
        let n = length (row_at spare class) in
        let row_c : row_at left c ≡ take (n - 1) (row_at spare class) = ap (row_at left) at ∙ row in
        let count : length (row_at left c) ≡ n - 1 = ap length row_c ∙ length-take-le (n - 1) (row_at spare class) (omega arith) in
        let same_row : row_at spare c ≡ row_at spare class = ap (row_at spare) at in (
          omega (arith, low, count, ap length same_row),
          ap (λ xs. get_or xs i 0) row_c ∙ get_or-take (n - 1) (row_at spare class) i 0 (omega (arith, low, count)) ∙ ap (λ xs. get_or xs i 0) (sym same_row),
        )
    | inr off ↦ let same = others c off in (omega (arith, low, ap length same), ap (λ xs. get_or xs i 0) same)
  ]

  module _ (size : ℕ) (spans : List Span) (are : AreBlocks size spans spare) where
    pub taken_blocks : AreBlocks size spans left
    taken_blocks = fewer_spare size spans spare left are taken_fewer

    pub taken_free : (from : ℕ) → 0 < length (row_at spare class) → from ≡ spare_at spare class (length (row_at spare class) - 1)
        → IsFree size spans left from (room_of class)
    taken_free from some is =
        let n = length (row_at spare class) in
        let last : n - 1 < n = omega (arith, some) in
        record {
          inside = subst (λ a. a + room_of class ≤ size) (sym is) (are.inside class (n - 1) last);
          lists = λ k low. subst (λ a. AreClear (span_at spans k).from (room_of (span_at spans k).class) a (room_of class)) (sym is)
              (are.between k class (n - 1) low last);
          spares = λ c i low.
              let (was, same) = taken_fewer c i low in
              let off : (c ≢ class) ⊎ (i ≢ n - 1) = elim (cases_eq c class) [
                | inl at ↦
                    let row_c : row_at left c ≡ take (n - 1) (row_at spare class) = ap (row_at left) at ∙ row in
                    let count : length (row_at left c) ≡ n - 1 = ap length row_c ∙ length-take-le (n - 1) (row_at spare class) (omega arith) in
                    inr (λ e. omega (arith, low, count, e))
                | inr away ↦ inl away
              ] in
              subst (λ a. AreClear a (room_of c) from (room_of class)) (sym same)
              (subst (λ b. AreClear (spare_at spare c i) (room_of c) b (room_of class)) (sym is) (are.spares c i class (n - 1) was last off));
        }

-- a block is given back, behind the others of its row
module _ (spare more : List (List ℕ)) (class from : ℕ) (others : (d : ℕ) → d ≢ class → row_at more d ≡ row_at spare d)
    (row : row_at more class ≡ row_at spare class ++ from ∷ []) where
  given_is : (c i : ℕ) → i < length (row_at more c) → ((i < length (row_at spare c)) × (spare_at more c i ≡ spare_at spare c i))
      ⊎ ((c ≡ class) × (i ≡ length (row_at spare class)) × (spare_at more c i ≡ from))
  given_is c i low = elim (cases_eq c class) [
    | inl at ↦
        let n = length (row_at spare class) in
        let row_c : row_at more c ≡ row_at spare class ++ from ∷ [] = ap (row_at more) at ∙ row in
        let count : length (row_at more c) ≡ n + 1 = ap length row_c ∙ length_push (row_at spare class) from in
        let same_row : row_at spare c ≡ row_at spare class = ap (row_at spare) at in
        elim (cases_eq i n) [
          | inl end ↦ inr (at, end, ap (λ xs. get_or xs i 0) row_c ∙ get_or_at (row_at spare class) from [] 0 i (sym end))
          | inr before ↦
              let below : i < n = omega (arith, low, count, before) in
              inl (
                omega (arith, below, ap length same_row),
                ap (λ xs. get_or xs i 0) row_c ∙ get_or_append_left (row_at spare class) (from ∷ []) 0 i below ∙ ap (λ xs. get_or xs i 0) (sym same_row),
              )
        ]
    | inr off ↦ let same = others c off in inl (omega (arith, low, ap length same), ap (λ xs. get_or xs i 0) same)
  ]

  module _ (size : ℕ) (spans : List Span) (are : AreBlocks size spans spare) (free : IsFree size spans spare from (room_of class)) where
    pub given_blocks : AreBlocks size spans more
    given_blocks = record {
      each = are.each;
      apart = are.apart;
      inside = λ c i low. elim (given_is c i low) [
        | inl (was, same) ↦ subst (λ a. a + room_of c ≤ size) (sym same) (are.inside c i was)
        | inr (at, end, is) ↦ subst (λ a. a + room_of c ≤ size) (sym is) (subst (λ d. from + room_of d ≤ size) (sym at) free.inside)
      ];
      between = λ k c i k_low low. elim (given_is c i low) [
        | inl (was, same) ↦
            subst (λ a. AreClear (span_at spans k).from (room_of (span_at spans k).class) a (room_of c)) (sym same) (are.between k c i k_low was)
        | inr (at, end, is) ↦
            subst (λ a. AreClear (span_at spans k).from (room_of (span_at spans k).class) a (room_of c)) (sym is)
            (subst (λ d. AreClear (span_at spans k).from (room_of (span_at spans k).class) from (room_of d)) (sym at) (free.lists k k_low))
      ];
      spares = λ c i d j low low_j off. elim (given_is c i low) [
        | inl (was, same) ↦
            subst (λ a. AreClear a (room_of c) (spare_at more d j) (room_of d)) (sym same) (elim (given_is d j low_j) [
              | inl (was_j, same_j) ↦ subst (λ b. AreClear (spare_at spare c i) (room_of c) b (room_of d)) (sym same_j) (are.spares c i d j was was_j off)
              | inr (at_j, end_j, is_j) ↦
                  subst (λ b. AreClear (spare_at spare c i) (room_of c) b (room_of d)) (sym is_j)
                  (subst (λ e. AreClear (spare_at spare c i) (room_of c) from (room_of e)) (sym at_j) (free.spares c i was))
            ])
        | inr (at, end, is) ↦
            subst (λ a. AreClear a (room_of c) (spare_at more d j) (room_of d)) (sym is) (elim (given_is d j low_j) [
              | inl (was_j, same_j) ↦
                  subst (λ b. AreClear from (room_of c) b (room_of d)) (sym same_j)
                  (subst (λ e. AreClear from (room_of e) (spare_at spare d j) (room_of d)) (sym at)
                  (clear_swap (spare_at spare d j) (room_of d) from (room_of class) (free.spares d j was_j)))
              | inr (at_j, end_j, is_j) ↦ absurd (elim off [ inl apart ↦ apart (at ∙ sym at_j) | inr away ↦ away (end ∙ sym end_j) ])
            ])
      ];
    }

-- a list has another span, whose block neither another list nor a spare block has
module _ (size : ℕ) (spans : List Span) (spare : List (List ℕ)) (are : AreBlocks size spans spare) (k : ℕ) (known : k < length spans) (s : Span)
    (is : IsSpan size s)
    (lists : (j : ℕ) → j < length spans → j ≢ k → AreClear (span_at spans j).from (room_of (span_at spans j).class) s.from (room_of s.class))
    (spares : (c i : ℕ) → i < length (row_at spare c) → AreClear (spare_at spare c i) (room_of c) s.from (room_of s.class)) where
  here : (j : ℕ) → j ≡ k → span_at (set spans k s) j ≡ s
  here j at = ap (span_at (set spans k s)) at ∙ get_or-set_same spans k s nowhere known

  there : (j : ℕ) → j ≢ k → span_at (set spans k s) j ≡ span_at spans j
  there j off = get_or-set_other spans k j s nowhere off

  pub put_blocks : AreBlocks size (set spans k s) spare
  put_blocks = record {
    each = λ j low. elim (cases_eq j k) [
      | inl at ↦ subst (IsSpan size) (sym (here j at)) is
      | inr off ↦ subst (IsSpan size) (sym (there j off)) (are.each j (omega (arith, low, length-set spans k s)))
    ];
    apart = λ i j low low_j off.
        let was : i < length spans = omega (arith, low, length-set spans k s) in
        let was_j : j < length spans = omega (arith, low_j, length-set spans k s) in
        elim (cases_eq i k) [
          | inl at ↦
              let away : j ≢ k = λ e. off (at ∙ sym e) in
              subst
              (λ (p : Span). AreClear p.from (room_of p.class) (span_at (set spans k s) j).from (room_of (span_at (set spans k s) j).class)) (sym (here i at))
              (subst (λ (q : Span). AreClear s.from (room_of s.class) q.from (room_of q.class)) (sym (there j away))
              (clear_swap (span_at spans j).from (room_of (span_at spans j).class) s.from (room_of s.class) (lists j was_j away)))
          | inr out ↦
              subst (λ (p : Span). AreClear p.from (room_of p.class) (span_at (set spans k s) j).from (room_of (span_at (set spans k s) j).class))
              (sym (there i out)) (elim (cases_eq j k) [
                | inl at_j ↦ subst (λ (q : Span). AreClear (span_at spans i).from (room_of (span_at spans i).class) q.from (room_of q.class))
                    (sym (here j at_j)) (lists i was out)
                | inr away ↦ subst (λ (q : Span). AreClear (span_at spans i).from (room_of (span_at spans i).class) q.from (room_of q.class))
                    (sym (there j away)) (are.apart i j was was_j off)
              ])
        ];
    inside = are.inside;
    between = λ j c i low low_i. elim (cases_eq j k) [
      | inl at ↦ subst (λ (p : Span). AreClear p.from (room_of p.class) (spare_at spare c i) (room_of c)) (sym (here j at))
          (clear_swap (spare_at spare c i) (room_of c) s.from (room_of s.class) (spares c i low_i))
      | inr off ↦ subst (λ (p : Span). AreClear p.from (room_of p.class) (spare_at spare c i) (room_of c)) (sym (there j off))
          (are.between j c i (omega (arith, low, length-set spans k s)) low_i)
    ];
    spares = are.spares;
  }

module _ (size : ℕ) (spans : List Span) (spare : List (List ℕ)) (are : AreBlocks size spans spare) (k : ℕ) (known : k < length spans) where
  -- another count of watchers in the same block
  pub counted_blocks : (len : ℕ) → len ≤ room_of (span_at spans k).class → AreBlocks size (set spans k (counted (span_at spans k) len)) spare
  counted_blocks len fits =
      let is = are.each k known in
      put_blocks size spans spare are k known (counted (span_at spans k) len)
      (record { inside = is.inside; fits = fits; classed = is.classed })
      (λ j low off. are.apart j k low known off)
      (λ c i low. clear_swap (span_at spans k).from (room_of (span_at spans k).class) (spare_at spare c i) (room_of c) (are.between k c i known low))

  -- the list moves to a free block, and its own is free then
  module _ (s : Span) (free : IsFree size spans spare s.from (room_of s.class)) (fits : s.len ≤ room_of s.class) (classed : s.class < 63) where
    pub moved_blocks : AreBlocks size (set spans k s) spare
    moved_blocks =
        put_blocks size spans spare are k known s (record { inside = free.inside; fits = fits; classed = classed }) (λ j low _. free.lists j low) free.spares

    pub moved_free : IsFree size (set spans k s) spare (span_at spans k).from (room_of (span_at spans k).class)
    moved_free =
        let old = span_at spans k in
        record {
          inside = (are.each k known).inside;
          lists = λ j low. elim (cases_eq j k) [
            | inl at ↦
                subst (λ (p : Span). AreClear p.from (room_of p.class) old.from (room_of old.class))
                (sym (ap (span_at (set spans k s)) at ∙ get_or-set_same spans k s nowhere known))
                (clear_swap old.from (room_of old.class) s.from (room_of s.class) (free.lists k known))
            | inr off ↦
                subst (λ (p : Span). AreClear p.from (room_of p.class) old.from (room_of old.class)) (sym (get_or-set_other spans k j s nowhere off))
                (are.apart j k (omega (arith, low, length-set spans k s)) known off)
          ];
          spares = λ c i low. clear_swap old.from (room_of old.class) (spare_at spare c i) (room_of c) (are.between k c i known low);
        }

-- one list more, without a block
pub grown_blocks : (size : ℕ) (spans : List Span) (spare : List (List ℕ)) → AreBlocks size spans spare → AreBlocks size (spans ++ nowhere ∷ []) spare
grown_blocks size spans spare are =
    let n = length spans in
    let more = spans ++ nowhere ∷ [] in
    let before : (k : ℕ) → k < n → span_at more k ≡ span_at spans k = λ k low. get_or_append_left spans (nowhere ∷ []) nowhere k low in
    let behind : (k : ℕ) → k ≡ n → span_at more k ≡ nowhere = λ k end. get_or_at spans nowhere [] nowhere k (sym end) in
    let inner : (k : ℕ) → k < length more → k ≢ n → k < n = λ k low off. omega (arith, low, length_push spans nowhere, off) in
    record {
      each = λ k low. elim (cases_eq k n) [
        | inl end ↦ subst (IsSpan size) (sym (behind k end)) (record { inside = omega arith; fits = omega arith; classed = omega arith })
        | inr off ↦ subst (IsSpan size) (sym (before k (inner k low off))) (are.each k (inner k low off))
      ];
      apart = λ j k low low_k off. elim (cases_eq j n) [
        | inl end ↦ subst (λ (p : Span). AreClear p.from (room_of p.class) (span_at more k).from (room_of (span_at more k).class)) (sym (behind j end))
            (inl (omega arith))
        | inr out ↦
            subst (λ (p : Span). AreClear p.from (room_of p.class) (span_at more k).from (room_of (span_at more k).class)) (sym (before j (inner j low out)))
            (elim (cases_eq k n) [
              | inl end ↦ subst (λ (q : Span). AreClear (span_at spans j).from (room_of (span_at spans j).class) q.from (room_of q.class)) (sym (behind k end))
                  (inr (omega arith))
              | inr away ↦
                  subst (λ (q : Span). AreClear (span_at spans j).from (room_of (span_at spans j).class) q.from (room_of q.class))
                  (sym (before k (inner k low_k away)))
                  (are.apart j k (inner j low out) (inner k low_k away) off)
            ])
      ];
      inside = are.inside;
      between = λ k c i low low_i. elim (cases_eq k n) [
        | inl end ↦ subst (λ (p : Span). AreClear p.from (room_of p.class) (spare_at spare c i) (room_of c)) (sym (behind k end)) (inl (omega arith))
        | inr off ↦ subst (λ (p : Span). AreClear p.from (room_of p.class) (spare_at spare c i) (room_of c)) (sym (before k (inner k low off)))
            (are.between k c i (inner k low off) low_i)
      ];
      spares = are.spares;
    }

-- the first lists alone
pub shrunk_blocks : (size : ℕ) (spans : List Span) (spare : List (List ℕ)) (n : ℕ) → n ≤ length spans → AreBlocks size spans spare
    → AreBlocks size (take n spans) spare
shrunk_blocks size spans spare n within are =
    let count = length-take-le n spans within in
    let at : (k : ℕ) → k < length (take n spans) → span_at (take n spans) k ≡ span_at spans k =
    λ k low. get_or-take n spans k nowhere (omega (arith, low, count)) in
    let was : (k : ℕ) → k < length (take n spans) → k < length spans = λ k low. omega (arith, low, count, within) in
    record {
      each = λ k low. subst (IsSpan size) (sym (at k low)) (are.each k (was k low));
      apart = λ j k low low_k off.
          subst (λ (p : Span). AreClear p.from (room_of p.class) (span_at (take n spans) k).from (room_of (span_at (take n spans) k).class)) (sym (at j low))
          (subst (λ (q : Span). AreClear (span_at spans j).from (room_of (span_at spans j).class) q.from (room_of q.class)) (sym (at k low_k))
          (are.apart j k (was j low) (was k low_k) off));
      inside = are.inside;
      between = λ k c i low low_i. subst (λ (p : Span). AreClear p.from (room_of p.class) (spare_at spare c i) (room_of c)) (sym (at k low))
          (are.between k c i (was k low) low_i);
      spares = are.spares;
    }
