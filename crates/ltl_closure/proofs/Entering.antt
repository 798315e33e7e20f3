-- From the clauses of an insertion to what entering a key means.
use Rattle.std.proofs.Common.{◌≡◌, ℕ, suc, ◌+◌, ◌<◌, inl, inr, get_or, Bool, true, false, not, refl, sym, ◌∙◌, ap, subst, arith, List, [], ◌∷◌, ◌++◌, length}
use Rattle.std.proofs.Common.{slice_get, Some, None, Contains, if◌then◌else◌, true≢false}
use Rattle.std.proofs.lemmas.List.Sums.{position_or_len_is}
use Rattle.std.proofs.lemmas.Bool.{or_parts}
use Rattle.std.proofs.lemmas.List.Elements.{Contains-get_or}
use Rattle.std.specs.List.{list_any, position_or_len}
use Rattle.indexmap.proofs.CallerLemmas.{Contains-list_any}
use Rattle.ltl_closure.specs.Keys.{entry_of, asking_entry, request_of, Enters}
use Rattle.ltl_closure.specs.declared.entry.Entry.{Entry}
use Rattle.ltl_closure.specs.declared.key.Request.{Request}
use Rattle.ltl_closure.specs.declared.key.Key.{Key}
use Rattle.ltl_closure.specs.declared.key.Key.TheVariants as keys
use Rattle.ltl_closure.proofs.Lists.{Contains-nil, Contains-cons_cases}
use Rattle.ltl_closure.proofs.SameKey.{key_eq, same_key, self_key}
use Rattle.ltl_closure.proofs.Sharing.{known, fresh_one, fresh_two, request_fresh, key_request}

abbrev grown : List Key → Key → List Key
grown ks k = if list_any (key_eq k) ks then ks else ks ++ k ∷ []

not_there : (ks : List Key) (k : Key) → list_any (key_eq k) ks ≡ false → Contains ks k → ⊥
not_there [] k e h = Contains-nil k h
not_there (x ∷ ks) k e h =
    let w = or_parts (key_eq k x) (list_any (key_eq k) ks) e in
    elim (Contains-cons_cases x ks k h) [
      | inl i ↦ true≢false (sym (subst (λ z. key_eq k z ≡ true) (sym i) (self_key k)) ∙ w.0)
      | inr c ↦ not_there ks k w.1 c
    ]

none_there : (ks : List Key) (k : Key) → (Contains ks k → ⊥) → list_any (key_eq k) ks ≡ false
none_there ks k h = by (list_any (key_eq k) ks) refl
  where
    by : (b : Bool) → list_any (key_eq k) ks ≡ b → b ≡ false
    by true e = absurd (h (Contains-list_any key_eq same_key ks k e))
    by false e = refl

unfound : (b : Bool) → true ≡ not b → b ≡ false
unfound true e = cc
unfound false e = refl

found : (b : Bool) → false ≡ not b → b ≡ true
found true e = refl
found false e = cc

module _ (ks : List Key) (xs : List Entry) (key : Key) (new : List Key) (i : ℕ) (added : Bool) (grows : new ≡ grown ks key)
    (tells : added ≡ not (list_any (key_eq key) ks)) where
  pub enter_known : added ≡ false → (k : Key) × (slice_get new i ≡ Some k) × (key_eq key k ≡ true) → Enters ks xs key new xs (i + 1)
  enter_known old (k, at, same) names kept g distinct shared has is =
      let there : list_any (key_eq key) ks ≡ true = found _ (sym old ∙ tells) in
      let stay : new ≡ ks = grows ∙ ap (λ b. if b then ks else ks ++ key ∷ []) there in
      let e : i + 1 ≡ suc i = omega arith in
      let s : key ≡ k = same_key key k same in
      rw (stay, e) (known names kept ks xs g key distinct shared has is i (rw (← stay, s) at))

  module _ (fresh : added ≡ true) (place : i ≡ position_or_len (key_eq key) ks) where
    absent : list_any (key_eq key) ks ≡ false
    absent = unfound _ (sym fresh ∙ tells)

    appended : new ≡ ks ++ key ∷ []
    appended = grows ∙ ap (λ b. if b then ks else ks ++ key ∷ []) absent

    at_end : i + 1 ≡ suc (length ks)
    at_end =
        let past = position_or_len_is (key_eq key) ks (length ks) key (omega arith) missing (λ lt. absurd (omega arith)) in
        omega arith
      where
        by : (j : ℕ) → j < length ks → (b : Bool) → key_eq key (get_or ks j key) ≡ b → b ≡ false
        by j lt true e = absurd (not_there ks key absent (subst (Contains ks) (sym (same_key key (get_or ks j key) e)) (Contains-get_or ks j key lt)))
        by j lt false e = refl

        missing : (j : ℕ) → j < length ks → key_eq key (get_or ks j key) ≡ false
        missing j lt = by j lt (key_eq key (get_or ks j key)) refl

    pub enter_one : (ys : List Entry) → request_of key ≡ None → ys ≡ xs ++ entry_of key (i + 1) ∷ [] → Enters ks xs key new ys (i + 1)
    enter_one ys none more names kept g distinct shared has is =
        rw (more, appended, at_end) (fresh_one names kept ks xs g key distinct shared has is (not_there ks key absent) none)

    pub enter_two : (ys zs : List Entry) (r : Request) (last : List Key) → request_of key ≡ Some r → ys ≡ xs ++ entry_of key (i + 1) ∷ []
        → zs ≡ ys ++ asking_entry r (i + 1) ∷ [] → last ≡ grown new (keys.Asks r (i + 1)) → Enters ks xs key last zs (i + 1)
    enter_two ys zs r last asked more again grows_again names kept g distinct shared has is =
        let free : list_any (key_eq (keys.Asks r (i + 1))) new ≡ false =
        none_there new (keys.Asks r (i + 1))
        (rw (appended, at_end) (request_fresh names kept ks xs g key distinct shared has is (not_there ks key absent) r asked)) in
        let final : last ≡ (ks ++ key ∷ []) ++ keys.Asks r (i + 1) ∷ [] =
        grows_again ∙ ap (λ b. if b then new else new ++ keys.Asks r (i + 1) ∷ []) free ∙ ap (λ l. l ++ keys.Asks r (i + 1) ∷ []) appended in
        rw (again, more, final, at_end)
        (fresh_two names kept ks xs g key distinct shared has is (not_there ks key absent) r (key_request names kept g key r is asked))
