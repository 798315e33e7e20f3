-- A clause is put behind the others.
use Rattle.std.proofs.Common.{◌≡◌, ◌≢◌, ℕ, ◌<◌, ◌≤◌, ◌+◌, ◌⊎◌, inl, inr, List, [], ◌∷◌, ◌++◌, set, All, Contains, length, get_or, refl, sym, ap, ◌∙◌, subst}
use Rattle.std.proofs.Common.{arith, length-set}
use Rattle.std.proofs.lemmas.Bool.{cases_lt}
use Rattle.std.proofs.lemmas.List.{get_or_append_left, get_or_at, length_push}
use Rattle.std.proofs.lemmas.List.Elements.{Contains-get_or, Contains-push, Contains-push_cases, Contains-append_left}
use Rattle.cnf_base.specs.declared.literal.Literal.{Literal}
use Rattle.cdcl_watches.specs.Watching.{code, list_of, clause_of, IsWatch, AreApart, IsWatching}
use Rattle.cdcl_watches.proofs.Moves.{first_two, are_first, list_same, list_other, same_or_not}
use Rattle.cdcl_watches.specs.Watching.{blank}

-- the list has the new clause where it watches the literal, and else is as before
abbrev pub IsGrownList : List (List ℕ) → List (List ℕ) → List Literal → ℕ → Literal → Type 0
IsGrownList lists new r n x = ((list_of new x ≡ list_of lists x) × (¬ IsWatch r x)) ⊎ ((list_of new x ≡ list_of lists x ++ n ∷ []) × IsWatch r x)

pub add_watching : (clauses : List (List Literal)) (lists new : List (List ℕ)) (r : List Literal) → IsWatching clauses lists → AreApart r
    → All (λ l. code l < length lists) r → length new ≡ length lists
    → ((x : Literal) → IsGrownList lists new r (length clauses) x) → IsWatching (clauses ++ r ∷ []) new
add_watching clauses lists new r watching apart fits len grown =
    let n = length clauses in
    let more = clauses ++ r ∷ [] in
    let longer : length more ≡ n + 1 = length_push clauses r in
    let last : clause_of more n ≡ r = get_or_at clauses r [] [] n refl in
    let old_at : (c : ℕ) → c < n → clause_of more c ≡ clause_of clauses c = λ c low. get_or_append_left clauses (r ∷ []) [] c low in
    let is_last : (c : ℕ) → c < length more → (c < n) ⊎ (c ≡ n) = λ c low. elim (cases_lt c n) [ inl lt ↦ inl lt | inr ge ↦ inr (omega arith) ] in
    record {
      apart = λ c low. elim (is_last c low) [
        | inl lt ↦ subst AreApart (sym (old_at c lt)) (watching.apart c lt)
        | inr e ↦ subst (λ m. AreApart (clause_of more m)) (sym e) (subst AreApart (sym last) apart)
      ];
      fits = λ c low. subst (λ m. All (λ l. code l < m) (clause_of more c)) (sym len) (elim (is_last c low) [
        | inl lt ↦ subst (All (λ l. code l < length lists)) (sym (old_at c lt)) (watching.fits c lt)
        | inr e ↦ subst (λ m. All (λ l. code l < length lists) (clause_of more m)) (sym e) (subst (All (λ l. code l < length lists)) (sym last) fits)
      ]);
      watched = λ c x low watch. elim (is_last c low) [
        | inl lt ↦
            let old = watching.watched c x lt (subst (λ s. IsWatch s x) (old_at c lt) watch) in
            elim (grown x) [
              | inl same ↦ subst (λ ls. Contains ls c) (sym same.0) old
              | inr big ↦ subst (λ ls. Contains ls c) (sym big.0) (Contains-append_left (list_of lists x) (n ∷ []) c old)
            ]
        | inr e ↦
            let of_r = subst (λ s. IsWatch s x) last (subst (λ m. IsWatch (clause_of more m) x) e watch) in
            elim (grown x) [
              | inl same ↦ absurd (same.1 of_r)
              | inr big ↦ subst (Contains (list_of new x)) (sym e) (subst (λ ls. Contains ls n) (sym big.0) (Contains-push (list_of lists x) n))
            ]
      ];
      only = λ c x there.
          let of_old : Contains (list_of lists x) c → (c < length more) × IsWatch (clause_of more c) x = λ h.
          let o = watching.only c x h in
          (omega (arith, o.0), subst (λ s. IsWatch s x) (sym (old_at c o.0)) o.1) in
          elim (grown x) [
            | inl same ↦ of_old (subst (λ ls. Contains ls c) same.0 there)
            | inr big ↦ elim (Contains-push_cases (list_of lists x) n c (subst (λ ls. Contains ls c) big.0 there)) [
              | inl h ↦ of_old h
              | inr e ↦ (omega (arith, e), subst (λ m. IsWatch (clause_of more m) x) e (subst (λ s. IsWatch s x) (sym last) big.1))
            ]
          ];
      once = λ x. elim (grown x) [
        | inl same ↦ subst AreApart (sym same.0) (watching.once x)
        | inr big ↦ subst AreApart (sym big.0) (apart_pushed (list_of lists x) n (λ h. let o = watching.only n x h in omega (arith, o.0)) (watching.once x))
      ];
    }
  where
    apart_pushed : (xs : List ℕ) (y : ℕ) → ¬ Contains xs y → AreApart xs → AreApart (xs ++ y ∷ [])
    apart_pushed xs y absent apart p q e earlier low = elim (cases_lt q (length xs)) [
      | inl old ↦ rw (get_or_append_left xs (y ∷ []) e p (omega arith), get_or_append_left xs (y ∷ []) e q old) (apart p q e earlier old)
      | inr end ↦
          let last : length xs ≡ q = omega (arith, length_push xs y) in
          rw (get_or_append_left xs (y ∷ []) e p (omega arith), get_or_at xs y [] e q last)
          (λ same. absent (subst (Contains xs) same (Contains-get_or xs p e (omega arith))))
    ]

pub grown_long : (lists : List (List ℕ)) (r : List Literal) (n : ℕ) (a b : Literal) → 2 ≤ length r → AreApart r → a ≡ get_or r 0 blank → b ≡ get_or r 1 blank
    → All (λ l. code l < length lists) r
    → (x : Literal) → IsGrownList lists (set (set lists (code a) (list_of lists a ++ n ∷ [])) (code b) (list_of lists b ++ n ∷ [])) r n x
grown_long lists r n a b long apart a_is b_is fits x =
    let half = set lists (code a) (list_of lists a ++ n ∷ []) in
    let new = set half (code b) (list_of lists b ++ n ∷ []) in
    let half_len = length-set lists (code a) (list_of lists a ++ n ∷ []) in
    let code_a : code a < length lists = subst (λ l. code l < length lists) (sym a_is) (fits 0 blank (omega arith)) in
    let code_b : code b < length lists = subst (λ l. code l < length lists) (sym b_is) (fits 1 blank (omega arith)) in
    let differ : a ≢ b = λ e. apart 0 1 blank (omega arith) (omega arith) (sym a_is ∙ e ∙ b_is) in
    elim (same_or_not x b) [
      | inl is_b ↦ inr (
        ap (list_of new) is_b ∙ list_same half b (list_of lists b ++ n ∷ []) (omega arith) ∙ ap (λ y. list_of lists y ++ n ∷ []) (sym is_b),
        (
          a,
          are_first r x a blank long (inr (is_b ∙ b_is, a_is)),
        ),
      )
      | inr not_b ↦ elim (same_or_not x a) [
        | inl is_a ↦ inr (
          list_other half b x (list_of lists b ++ n ∷ []) not_b ∙ ap (list_of half) is_a ∙ list_same lists a (list_of lists a ++ n ∷ []) code_a
              ∙ ap (λ y. list_of lists y ++ n ∷ []) (sym is_a),
          (b, are_first r x b blank long (inl (is_a ∙ a_is, b_is))),
        )
        | inr not_a ↦ inl (
          list_other half b x (list_of lists b ++ n ∷ []) not_b ∙ list_other lists a x (list_of lists a ++ n ∷ []) not_a,
          (λ w. elim (first_two r x w.0 blank w.1) [ inl e ↦ not_a (e.0 ∙ sym a_is) | inr e ↦ not_b (e.0 ∙ sym b_is) ]),
        )
      ]
    ]
