-- Two literals of a clause change places, and another literal is watched.
use Rattle.std.proofs.Common.{◌≡◌, ◌≢◌, ℕ, ◌<◌, ◌≤◌, ◌+◌, ◌*◌, ◌⊎◌, inl, inr, List, [], ◌∷◌, ◌++◌, Bool, true, false, set, All, Contains, length, get_or, refl}
use Rattle.std.proofs.Common.{sym, ap, ap₂, ◌∙◌, subst, arith, length-set, get_or-set_same, get_or-set_other, if◌then◌else◌}
use Rattle.std.specs.List.{remove, swap}
use Rattle.std.proofs.lemmas.Bool.{cases_lt, cases_eq}
use Rattle.std.proofs.lemmas.List.{get_or_default, get_or_append_left, get_or_at, length_push}
use Rattle.std.proofs.lemmas.List.Edits.{swapped_from_swap, length-swap}
use Rattle.std.proofs.lemmas.List.Elements.{Contains-get_or, Contains-push, Contains-push_cases, Contains-append_left}
use Rattle.cnf_base.specs.declared.literal.Literal.{Literal}
use Rattle.cdcl_watches.specs.Watching.{code, list_of, clause_of, AreFirst, IsWatch, AreApart, IsWatching}
use Rattle.cdcl_watches.proofs.Removed.{removed_from, apart_removed, removed_gone, others_stay}

-- what a read past the end would give
abbrev pub blank : Literal
blank = record { letter = record { 0 = 0 }; negated = false }

-- different literals have different numbers
pub code_same : (a b : Literal) → code a ≡ code b → a ≡ b
code_same a b same = go a.negated refl b.negated refl
  where
    make : (n : Bool) → a.negated ≡ n → b.negated ≡ n → a.letter.0 ≡ b.letter.0 → a ≡ b
    make n is_a is_b e = ap₂ (λ x k. let m : Literal = record { letter = record { 0 = x }; negated = k } in m) e (is_a ∙ sym is_b)

    both : (m n : Bool) → a.negated ≡ m → b.negated ≡ n → 2 * a.letter.0 + (if m then 1 else 0) ≡ 2 * b.letter.0 + (if n then 1 else 0)
    both m n is_a is_b = ap (λ k. 2 * a.letter.0 + (if k then 1 else 0)) (sym is_a) ∙ same ∙ ap (λ k. 2 * b.letter.0 + (if k then 1 else 0)) is_b

    go : (m : Bool) → a.negated ≡ m → (n : Bool) → b.negated ≡ n → a ≡ b
    go true is_a true is_b = let e = both true true is_a is_b in make true is_a is_b (omega (arith, e))
    go false is_a false is_b = let e = both false false is_a is_b in make false is_a is_b (omega (arith, e))
    go true is_a false is_b = let e = both true false is_a is_b in absurd (omega (arith, e))
    go false is_a true is_b = let e = both false true is_a is_b in absurd (omega (arith, e))

-- where a literal of a changed clause stood
pub place_swapped : {X : Type 0} (xs : List X) (a b k : ℕ) → a < length xs → b < length xs → k < length xs
    → (m : ℕ) × (m < length xs) × ((d : X) → get_or (swap xs a b) k d ≡ get_or xs m d) × (((k ≡ a) × (m ≡ b))
    ⊎ (((k ≡ b) × (m ≡ a)) ⊎ ((k ≢ a) × (k ≢ b) × (m ≡ k))))
place_swapped {X} xs a b k a_low b_low k_low =
    let S = λ (d : X). swapped_from_swap xs (swap xs a b) a b d a_low b_low refl in
    elim (cases_eq k a) [
      | inl at ↦ (b, b_low, (λ d. ap (λ n. get_or (swap xs a b) n d) at ∙ (S d).0), inl (at, refl))
      | inr off ↦ elim (cases_eq k b) [
        | inl at ↦ (a, a_low, (λ d. ap (λ n. get_or (swap xs a b) n d) at ∙ (S d).1), inr (inl (at, refl)))
        | inr other ↦ (k, k_low, (λ d. (S d).2 k off other), inr (inr (off, other, refl)))
      ]
    ]

pub apart_swapped : {X : Type 0} (xs : List X) (a b : ℕ) → a < length xs → b < length xs → AreApart xs → AreApart (swap xs a b)
apart_swapped xs a b a_low b_low apart j k d earlier low =
    let long = length-swap xs a b in
    let p = place_swapped xs a b j a_low b_low (omega arith) in
    let q = place_swapped xs a b k a_low b_low (omega arith) in
    let differ : p.0 ≢ q.0 = λ eq. elim p.3 [
      | inl u ↦ elim q.3 [
        | inl v ↦ omega (arith, u.0, v.0)
        | inr r ↦ elim r [
          | inl v ↦ omega (arith, u.0, u.1, v.0, v.1, eq, earlier)
          | inr v ↦ v.1 (omega (arith, u.1, v.2, eq))
        ]
      ]
      | inr t ↦ elim t [
        | inl u ↦ elim q.3 [
          | inl v ↦ omega (arith, u.0, u.1, v.0, v.1, eq, earlier)
          | inr r ↦ elim r [
            | inl v ↦ omega (arith, u.0, v.0)
            | inr v ↦ v.0 (omega (arith, u.1, v.2, eq))
          ]
        ]
        | inr u ↦ elim q.3 [
          | inl v ↦ u.1 (omega (arith, u.2, v.1, eq))
          | inr r ↦ elim r [
            | inl v ↦ u.0 (omega (arith, u.2, v.1, eq))
            | inr v ↦ omega (arith, u.2, v.2, eq, earlier)
          ]
        ]
      ]
    ] in
    λ same.
    let at : get_or xs p.0 d ≡ get_or xs q.0 d = sym (p.2 d) ∙ same ∙ q.2 d in
    elim (cases_lt p.0 q.0) [
      | inl lt ↦ apart p.0 q.0 d lt q.1 at
      | inr ge ↦ apart q.0 p.0 d (omega (arith, differ)) p.1 (sym at)
    ]

pub all_swapped : {X : Type 0} (P : X → Type 0) (xs : List X) (a b : ℕ) → a < length xs → b < length xs → All P xs → All P (swap xs a b)
all_swapped P xs a b a_low b_low all k d below =
    let p = place_swapped xs a b k a_low b_low (omega (arith, below, length-swap xs a b)) in
    subst P (sym (p.2 d)) (all p.0 d p.1)

pub contains_swapped : {X : Type 0} (xs : List X) (a b : ℕ) (y : X) → a < length xs → b < length xs → Contains xs y → Contains (swap xs a b) y
contains_swapped {X} xs a b y a_low b_low (k, low, is) =
    let S = λ (d : X). swapped_from_swap xs (swap xs a b) a b d a_low b_low refl in
    let long = length-swap xs a b in
    elim (cases_eq k a) [
      | inl at ↦ (b, omega arith, (S y).1 ∙ ap (λ n. get_or xs n y) (sym at) ∙ is)
      | inr off ↦ elim (cases_eq k b) [
        | inl at ↦ (a, omega arith, (S y).0 ∙ ap (λ n. get_or xs n y) (sym at) ∙ is)
        | inr other ↦ (k, omega arith, (S y).2 k off other ∙ is)
      ]
    ]

pub contains_unswapped : {X : Type 0} (xs : List X) (a b : ℕ) (y : X) → a < length xs → b < length xs → Contains (swap xs a b) y → Contains xs y
contains_unswapped xs a b y a_low b_low (k, low, is) =
    let p = place_swapped xs a b k a_low b_low (omega (arith, low, length-swap xs a b)) in
    (p.0, p.1, sym (p.2 y) ∙ is)

-- the first two, with one default
pub first_two : (r : List Literal) (a b d : Literal) → AreFirst r a b → ((a ≡ get_or r 0 d) × (b ≡ get_or r 1 d)) ⊎ ((a ≡ get_or r 1 d) × (b ≡ get_or r 0 d))
first_two r a b d first = elim first.are [
  | inl h ↦ inl (sym h.0 ∙ get_or_default r 0 a d (omega (arith, first.long)), sym h.1 ∙ get_or_default r 1 b d (omega (arith, first.long)))
  | inr h ↦ inr (sym h.0 ∙ get_or_default r 1 a d (omega (arith, first.long)), sym h.1 ∙ get_or_default r 0 b d (omega (arith, first.long)))
]

pub are_first : (r : List Literal) (a b d : Literal) → 2 ≤ length r
    → ((a ≡ get_or r 0 d) × (b ≡ get_or r 1 d)) ⊎ ((a ≡ get_or r 1 d) × (b ≡ get_or r 0 d)) → AreFirst r a b
are_first r a b d long h = record {
  long = long;
  are = elim h [
    | inl e ↦ inl (get_or_default r 0 a d (omega arith) ∙ sym e.0, get_or_default r 1 b d (omega arith) ∙ sym e.1)
    | inr e ↦ inr (get_or_default r 1 a d (omega arith) ∙ sym e.0, get_or_default r 0 b d (omega arith) ∙ sym e.1)
  ];
}

-- the lists after one is replaced
pub list_same : (lists : List (List ℕ)) (l : Literal) (xs : List ℕ) → code l < length lists → list_of (set lists (code l) xs) l ≡ xs
list_same lists l xs below = get_or-set_same lists (code l) xs [] below

pub list_other : (lists : List (List ℕ)) (l m : Literal) (xs : List ℕ) → m ≢ l → list_of (set lists (code l) xs) m ≡ list_of lists m
list_other lists l m xs differ = get_or-set_other lists (code l) (code m) xs [] (λ e. differ (code_same m l e))

pub same_or_not : (a b : Literal) → (a ≡ b) ⊎ (a ≢ b)
same_or_not a b = elim (cases_eq (code a) (code b)) [ inl e ↦ inl (code_same a b e) | inr f ↦ inr (λ e. f (ap code e)) ]

module _ (clauses : List (List Literal)) (lists : List (List ℕ)) (c : ℕ) (watching : IsWatching clauses lists) (known : c < length clauses) where
  -- the first two change places
  pub turn_watching : (d : Literal) → 2 ≤ length (clause_of clauses c) → IsWatching (set clauses c (swap (clause_of clauses c) 0 1)) lists
  turn_watching d long =
      let r = clause_of clauses c in
      let s = swap r 0 1 in
      let more = set clauses c s in
      let len = length-set clauses c s in
      let slen = length-swap r 0 1 in
      let S = λ (e : Literal). swapped_from_swap r s 0 1 e (omega arith) (omega arith) refl in
      let here : clause_of more c ≡ s = get_or-set_same clauses c s [] known in
      let back : (l : Literal) → IsWatch s l → IsWatch r l = λ l h.
      let e = first_two s l h.0 d h.1 in
      (h.0, are_first r l h.0 d long (elim e [ inl p ↦ inr (p.0 ∙ (S d).0, p.1 ∙ (S d).1) | inr p ↦ inl (p.0 ∙ (S d).1, p.1 ∙ (S d).0) ])) in
      let on : (l : Literal) → IsWatch r l → IsWatch s l = λ l h.
      let e = first_two r l h.0 d h.1 in (
        h.0,
        are_first s l h.0 d (omega arith) (elim e [
          | inl p ↦ inr (
            p.0 ∙ sym (S d).1,
            p.1 ∙ sym (S d).0,
          )
          | inr p ↦ inl (p.0 ∙ sym (S d).0, p.1 ∙ sym (S d).1)
        ]),
      ) in
      record {
        apart = λ k low. elim (cases_eq k c) [
          | inl same ↦ subst (λ n. AreApart (clause_of more n)) (sym same)
              (subst AreApart (sym here) (apart_swapped r 0 1 (omega arith) (omega arith) (watching.apart c known)))
          | inr other ↦ subst AreApart (sym (get_or-set_other clauses c k s [] other)) (watching.apart k (omega arith))
        ];
        fits = λ k low. elim (cases_eq k c) [
          | inl same ↦ subst (λ n. All (λ l. code l < length lists) (clause_of more n)) (sym same) (subst (All (λ l. code l < length lists)) (sym here)
              (all_swapped (λ l. code l < length lists) r 0 1 (omega arith) (omega arith) (watching.fits c known)))
          | inr other ↦ subst (All (λ l. code l < length lists)) (sym (get_or-set_other clauses c k s [] other)) (watching.fits k (omega arith))
        ];
        watched = λ k l low watch. elim (cases_eq k c) [
          | inl same ↦
              let w = back l (subst (λ x. IsWatch x l) here (subst (λ n. IsWatch (clause_of more n) l) same watch)) in
              subst (Contains (list_of lists l)) (sym same) (watching.watched c l known w)
          | inr other ↦ watching.watched k l (omega arith) (subst (λ x. IsWatch x l) (get_or-set_other clauses c k s [] other) watch)
        ];
        only = λ k l there.
            let old = watching.only k l there in (
              omega (arith, old.0),
              elim (cases_eq k c) [
                | inl same ↦ subst (λ n. IsWatch (clause_of more n) l) (sym same)
                    (subst (λ x. IsWatch x l) (sym here) (on l (subst (λ n. IsWatch (clause_of clauses n) l) same old.1)))
                | inr other ↦ subst (λ x. IsWatch x l) (sym (get_or-set_other clauses c k s [] other)) old.1
              ],
            );
        once = watching.once;
      }

  -- the second literal w gives way to the one at j
  pub rewatch_watching : (d w m : Literal) (i j : ℕ) → 2 ≤ j → j < length (clause_of clauses c) → w ≡ get_or (clause_of clauses c) 1 d
      → m ≡ get_or (clause_of clauses c) j d
      → i < length (list_of lists w) → get_or (list_of lists w) i 0 ≡ c
      → IsWatching (set clauses c (swap (clause_of clauses c) 1 j)) (set (set lists (code m) (list_of lists m ++ c ∷ [])) (code w) (remove (list_of lists w) i))
  rewatch_watching d w m i j high j_low w_is m_is i_low at =
      let r = clause_of clauses c in
      let s = swap r 1 j in
      let more = set clauses c s in
      let len = length-set clauses c s in
      let slen = length-swap r 1 j in
      let grown = list_of lists m ++ c ∷ [] in
      let cut = remove (list_of lists w) i in
      let half = set lists (code m) grown in
      let new = set half (code w) cut in
      let half_len = length-set lists (code m) grown in
      let new_len = length-set half (code w) cut in
      let S = λ (e : Literal). swapped_from_swap r s 1 j e (omega arith) (omega arith) refl in
      let here : clause_of more c ≡ s = get_or-set_same clauses c s [] known in
      let a = get_or r 0 d in
      let s0 : get_or s 0 d ≡ a = (S d).2 0 (λ e. omega (arith, e)) (λ e. omega (arith, e)) in
      let s1 : get_or s 1 d ≡ m = (S d).0 ∙ sym m_is in
      let apart_r = watching.apart c known in
      let m_not_w : m ≢ w = λ e. apart_r 1 j d (omega arith) (omega arith) (sym w_is ∙ sym e ∙ m_is) in
      let m_not_a : m ≢ a = λ e. apart_r 0 j d (omega arith) (omega arith) (sym e ∙ m_is) in
      let w_not_a : w ≢ a = λ e. apart_r 0 1 d (omega arith) (omega arith) (sym e ∙ w_is) in
      let code_m : code m < length lists = subst (λ l. code l < length lists) (sym m_is) (watching.fits c known j d j_low) in
      let code_w : code w < length lists = subst (λ l. code l < length lists) (sym w_is) (watching.fits c known 1 d (omega arith)) in
      let of_w : list_of new w ≡ cut = list_same half w cut (omega arith) in
      let of_m : list_of new m ≡ grown = list_other half w m cut m_not_w ∙ list_same lists m grown code_m in
      let of_other : (l : Literal) → l ≢ w → l ≢ m → list_of new l ≡ list_of lists l =
      λ l not_w not_m. list_other half w l cut not_w ∙ list_other lists m l grown not_m in
      let r_watch : (l : Literal) → IsWatch r l → (l ≡ a) ⊎ (l ≡ w) =
      λ l h. elim (first_two r l h.0 d h.1) [ inl p ↦ inl p.0 | inr p ↦ inr (p.0 ∙ sym w_is) ] in
      let s_watch : (l : Literal) → IsWatch s l → (l ≡ a) ⊎ (l ≡ m) =
      λ l h. elim (first_two s l h.0 d h.1) [ inl p ↦ inl (p.0 ∙ s0) | inr p ↦ inr (p.0 ∙ s1) ] in
      let c_not_in_m : ¬ Contains (list_of lists m) c = λ there. elim (r_watch m (watching.only c m there).1) [ inl e ↦ m_not_a e | inr e ↦ m_not_w e ] in
      let at_c : get_or (list_of lists w) i c ≡ c = get_or_default (list_of lists w) i c 0 i_low ∙ at in
      record {
        apart = λ k low. elim (cases_eq k c) [
          | inl same ↦ subst (λ n. AreApart (clause_of more n)) (sym same) (subst AreApart (sym here) (apart_swapped r 1 j (omega arith) (omega arith) apart_r))
          | inr other ↦ subst AreApart (sym (get_or-set_other clauses c k s [] other)) (watching.apart k (omega arith))
        ];
        fits = λ k low. subst (λ n. All (λ l. code l < n) (clause_of more k)) (sym (new_len ∙ half_len)) (elim (cases_eq k c) [
          | inl same ↦ subst (λ n. All (λ l. code l < length lists) (clause_of more n)) (sym same) (subst (All (λ l. code l < length lists)) (sym here)
              (all_swapped (λ l. code l < length lists) r 1 j (omega arith) (omega arith) (watching.fits c known)))
          | inr other ↦ subst (All (λ l. code l < length lists)) (sym (get_or-set_other clauses c k s [] other)) (watching.fits k (omega arith))
        ]);
        watched = λ k l low watch. elim (cases_eq k c) [
          | inl same ↦ subst (Contains (list_of new l)) (sym same)
              (elim (s_watch l (subst (λ x. IsWatch x l) here (subst (λ n. IsWatch (clause_of more n) l) same watch))) [
                | inl is_a ↦
                    let old = watching.watched c a known (w, are_first r a w d (omega arith) (inl (refl, w_is))) in
                    subst (λ x. Contains (list_of new x) c) (sym is_a)
                    (subst (λ ls. Contains ls c) (sym (of_other a (λ e. w_not_a (sym e)) (λ e. m_not_a (sym e)))) old)
                | inr is_m ↦ subst (λ x. Contains (list_of new x) c) (sym is_m) (subst (λ ls. Contains ls c) (sym of_m) (Contains-push (list_of lists m) c))
              ])
          | inr other ↦
              let old = watching.watched k l (omega arith) (subst (λ x. IsWatch x l) (get_or-set_other clauses c k s [] other) watch) in
              elim (same_or_not l w) [
                | inl is_w ↦
                    let in_w = subst (λ x. Contains (list_of lists x) k) is_w old in
                    subst (λ x. Contains (list_of new x) k) (sym is_w) (subst (λ ls. Contains ls k) (sym of_w)
                    (others_stay (list_of lists w) i i_low k (λ e. other (e ∙ get_or_default (list_of lists w) i k 0 i_low ∙ at)) in_w))
                | inr not_w ↦ elim (same_or_not l m) [
                  | inl is_m ↦ subst (λ x. Contains (list_of new x) k) (sym is_m) (subst (λ ls. Contains ls k) (sym of_m)
                      (Contains-append_left (list_of lists m) (c ∷ []) k (subst (λ x. Contains (list_of lists x) k) is_m old)))
                  | inr not_m ↦ subst (λ ls. Contains ls k) (sym (of_other l not_w not_m)) old
                ]
              ]
        ];
        only = λ k l there.
            let of_old : Contains (list_of lists l) k → k ≢ c → (k < length more) × IsWatch (clause_of more k) l = λ h other.
            let old = watching.only k l h in
            (omega (arith, old.0), subst (λ x. IsWatch x l) (sym (get_or-set_other clauses c k s [] other)) old.1) in
            let of_c : k ≡ c → (l ≡ a) ⊎ (l ≡ m) → (k < length more) × IsWatch (clause_of more k) l = λ same cases. (
              omega (arith, same, known),
              subst (λ n. IsWatch (clause_of more n) l) (sym same) (subst (λ x. IsWatch x l) (sym here) (elim cases [
                | inl is_a ↦ (m, are_first s l m d (omega arith) (inl (is_a ∙ sym s0, sym s1)))
                | inr is_m ↦ (a, are_first s l a d (omega arith) (inr (is_m ∙ sym s1, sym s0)))
              ])),
            ) in
            elim (same_or_not l w) [
              | inl is_w ↦
                  let in_cut = subst (λ ls. Contains ls k) of_w (subst (λ x. Contains (list_of new x) k) is_w there) in
                  let in_w = removed_from (list_of lists w) i i_low k in_cut in
                  of_old (subst (λ x. Contains (list_of lists x) k) (sym is_w) in_w)
                  (λ e. removed_gone (list_of lists w) i i_low (watching.once w) c at_c (subst (Contains cut) e in_cut))
              | inr not_w ↦ elim (same_or_not l m) [
                | inl is_m ↦
                    let in_grown = subst (λ ls. Contains ls k) of_m (subst (λ x. Contains (list_of new x) k) is_m there) in
                    elim (Contains-push_cases (list_of lists m) c k in_grown) [
                      | inl old ↦ of_old (subst (λ x. Contains (list_of lists x) k) (sym is_m) old) (λ e. c_not_in_m (subst (Contains (list_of lists m)) e old))
                      | inr e ↦ of_c (sym e) (inr is_m)
                    ]
                | inr not_m ↦
                    let old = subst (λ ls. Contains ls k) (of_other l not_w not_m) there in
                    elim (cases_eq k c) [
                      | inl same ↦ elim (r_watch l (subst (λ n. IsWatch (clause_of clauses n) l) same (watching.only k l old).1))
                          [ inl e ↦ of_c same (inl e) | inr e ↦ absurd (not_w e) ]
                      | inr other ↦ of_old old other
                    ]
              ]
            ];
        once = λ l. elim (same_or_not l w) [
          | inl is_w ↦ subst (λ x. AreApart (list_of new x)) (sym is_w) (subst AreApart (sym of_w) (apart_removed (list_of lists w) i i_low (watching.once w)))
          | inr not_w ↦ elim (same_or_not l m) [
            | inl is_m ↦
                subst (λ x. AreApart (list_of new x)) (sym is_m) (subst AreApart (sym of_m) (apart_pushed (list_of lists m) c c_not_in_m (watching.once m)))
            | inr not_m ↦ subst AreApart (sym (of_other l not_w not_m)) (watching.once l)
          ]
        ];
      }
    where
      apart_pushed : (xs : List ℕ) (y : ℕ) → ¬ Contains xs y → AreApart xs → AreApart (xs ++ y ∷ [])
      apart_pushed xs y absent apart p q e earlier low = elim (cases_lt q (length xs)) [
        | inl old ↦ rw (get_or_append_left xs (y ∷ []) e p (omega arith), get_or_append_left xs (y ∷ []) e q old) (apart p q e earlier old)
        | inr end ↦
            let last : length xs ≡ q = omega (arith, length_push xs y) in
            rw (get_or_append_left xs (y ∷ []) e p (omega arith), get_or_at xs y [] e q last)
            (λ same. absent (subst (Contains xs) same (Contains-get_or xs p e (omega arith))))
      ]
