-- What an assignment that makes the clauses true says of the run that its letters give.
use Rattle.std.proofs.Common.{◌≡◌, ℕ, zero, suc, ◌<◌, ◌≤◌, Bool, true, false, not, ◌||◌, IsTrue, IsFalse, ◌⊎◌, inl, inr, refl, arith, ◌∙◌, sym, subst, List, []}
use Rattle.std.proofs.Common.{◌∷◌, ◌++◌, length, get_or, Contains, flat_map, if◌then◌else◌}
use Rattle.std.specs.Prelude.{nat_lt, filter}
use Rattle.std.specs.List.{AllByRecursion as Each}
use Rattle.std.proofs.lemmas.Bool.{or_cases, cases_lt, cond-true, cond-false, lt-ltb, le-ltb}
use Rattle.std.proofs.lemmas.List.Elements.{Contains-get_or}
use Rattle.ltl_syntax.specs.declared.node.Kind.{Kind}
use Rattle.ltl_syntax.specs.declared.node.Kind.TheVariants as Kinds
use Rattle.ltl_syntax.specs.Formula.{Formula}
use Rattle.ltl_closure.specs.Norm.{Norm, NConst, NNext, NYesterday, NWeakYesterday, pos_of}
use Rattle.ltl_closure.specs.Closure.{closure, nexts, yesterdays, eventualities, argument, is_yesterday}
use Rattle.ltl_closure.specs.Run.{States, IsRun, val, carry, request_of, right_of, is_pending, is_fulfilled, IsFulfilledIn, IsAccepted, Empty, Loop, IsPrunedAt}
use Rattle.ltl_closure.specs.Run.{Pair}
use Rattle.ltl_closure.proofs.Lists.{Contains-filter}
use Rattle.ltl_closure.proofs.Entries.{closure_root}
use Rattle.ltl_closure.proofs.Known.{next_in, yesterday_in, eventuality_in}
use Rattle.enc_layout.proofs.Pairing.{pair_from_triple}
use Rattle.enc_layout.specs.Letters.{Meaning, Unpruned, Here, Accepted, EmptyAt, Repeated, Seen, Equal, LoopTo, Differs, Fulfilled, New, below}
use Rattle.enc_layout.specs.Clauses.{Clause, Plus, Minus, clause_true, letter_of, carried, carried_letter, eventuality, chain_part, gates_part, start}
use Rattle.enc_layout.specs.Clauses.{next_clauses, before_clauses, links_part, place_clauses, equal_clause, fulfilled_clauses, loop_clause, closing_clauses}
use Rattle.enc_layout.specs.Clauses.{pair_clauses, pairs_part, is_strong_next, acceptance_part, seen_clauses, new_clauses, pruned_clause, pruning_part}
use Rattle.enc_layout.specs.Clauses.{state_clauses, step_clauses, clauses_through}
use Rattle.enc_layout.proofs.Each.{Each-append, Each-left, Each-right, Each-below, below-Each, map-Each}
use Rattle.enc_layout.proofs.Gates.{IsTrueClause}
use Rattle.enc_layout.proofs.ByStates.{state_value, gives_run}
use Rattle.enc_layout.proofs.Carries.{place_of, argument_in, right_in, carried_in, carried_from, carried_same, then1, then_not, then2, then_either, back1}
use Rattle.enc_layout.proofs.Carries.{agree, differ, some_below}

six : (P : Clause → Type 0) (a b c d e g : List Clause) → Each P (a ++ (b ++ (c ++ (d ++ (e ++ g)))))
    → Each P a × (Each P b × (Each P c × (Each P d × (Each P e × Each P g))))
six P a b c d e g h =
    let h1 = Each-right P a (b ++ (c ++ (d ++ (e ++ g)))) h in
    let h2 = Each-right P b (c ++ (d ++ (e ++ g))) h1 in
    let h3 = Each-right P c (d ++ (e ++ g)) h2 in
    let h4 = Each-right P d (e ++ g) h3 in
    (Each-left P a _ h, (Each-left P b _ h1, (Each-left P c _ h2, (Each-left P d _ h3, (Each-left P e g h4, Each-right P e g h4)))))

module _ (f : Formula) (kind : Kind) (d : ℕ) (v : Meaning → Bool) (holds : Each (IsTrueClause v) (clauses_through f kind d)) where
  in_parts : (i : ℕ) → i ≤ d → Each (IsTrueClause v) (chain_part i) × (Each (IsTrueClause v) (gates_part f i) × (Each (IsTrueClause v) (links_part f i)
      × (Each (IsTrueClause v) (pairs_part f kind i) × (Each (IsTrueClause v) (acceptance_part f kind i) × Each (IsTrueClause v) (pruning_part f kind i)))))
  in_parts i le = six (IsTrueClause v) (chain_part i) (gates_part f i) (links_part f i) (pairs_part f kind i) (acceptance_part f kind i) (pruning_part f kind i)
      (below-Each (IsTrueClause v) (suc d) (step_clauses f kind) holds i (omega arith))

  -- the states that the letters give
  abbrev pub read : States
  read i e = v (letter_of f i e)

  -- the clauses of the states are among them
  of_states : Each (IsTrueClause v) (below (suc d) (state_clauses f))
  of_states = Each-below (IsTrueClause v) (suc d) (state_clauses f) (λ i lt.
      let p = in_parts i (omega arith) in
      Each-append (IsTrueClause v) (chain_part i) (gates_part f i ++ links_part f i) p.0
      (Each-append (IsTrueClause v) (gates_part f i) (links_part f i) p.1.0 p.1.1.0))

  pub value : (i : ℕ) → i ≤ d → (e : Norm) → Contains (closure f) e → v (letter_of f i e) ≡ val (read i) e
  value i le e m = state_value f d v of_states i le e m

  pub reads_run : (k : ℕ) → k ≤ d → IsTrue (v (Here k)) → IsRun f k read
  reads_run k le h = gives_run f d v of_states k le h

  module _ (i l : ℕ) (le : i ≤ d) (lt : l < i) where
    of_pair : Each (IsTrueClause v) (pair_clauses f kind i l)
    of_pair = below-Each (IsTrueClause v) i (pair_clauses f kind i) (in_parts i le).1.1.1.0 l lt

    of_place : (q : ℕ) → q < length (carried f) → Each (IsTrueClause v) (place_clauses f i l q)
    of_place q h = below-Each (IsTrueClause v) (length (carried f)) (place_clauses f i l)
        (Each-left (IsTrueClause v) (below (length (carried f)) (place_clauses f i l)) (equal_clause f i l ∷ closing_clauses f kind i l) of_pair) q h

    of_rest : Each (IsTrueClause v) (equal_clause f i l ∷ closing_clauses f kind i l)
    of_rest = Each-right (IsTrueClause v) (below (length (carried f)) (place_clauses f i l)) (equal_clause f i l ∷ closing_clauses f kind i l) of_pair

    pub equal_same : IsTrue (v (Equal l i)) → carry f (read l) ≡ carry f (read i)
    equal_same h = carried_same f (read l) (read i) (λ e m.
        let w = place_of (carried f) e (NConst false) m in
        let c = of_place w.0 w.1 in
        let one = agree (v (Equal l i)) (v (carried_letter f l w.0)) (v (carried_letter f i w.0)) c.1.1.0 c.1.1.1.0 h in
        let here = subst (λ z. v (letter_of f l z) ≡ v (letter_of f i z)) w.2 one in
        sym (value l (omega arith) e (carried_in f e m)) ∙ (here ∙ value i le e (carried_in f e m)))

    pub same_equal : carry f (read l) ≡ carry f (read i) → IsTrue (v (Equal l i))
    same_equal one = elim (or_cases (v (Equal l i)) (clause_true v (below (length (carried f)) (λ q. Plus (Differs l i (suc q)) ∷ []))) of_rest.0) [
      | inl h ↦ h
      | inr some ↦
          let w = some_below v (length (carried f)) (λ q. Differs l i (suc q)) some in
          let e = get_or (carried f) w.0 (NConst false) in
          let m = Contains-get_or (carried f) w.0 (NConst false) w.1 in
          let c = of_place w.0 w.1 in
          absurd (differ (v (Differs l i (suc w.0))) (v (carried_letter f l w.0)) (v (carried_letter f i w.0)) c.0 c.1.0 w.2
          (value l (omega arith) e (carried_in f e m) ∙ (carried_from f (read l) (read i) one e m ∙ sym (value i le e (carried_in f e m)))))
    ]

module _ (f : Formula) (d : ℕ) (v : Meaning → Bool) (holds : Each (IsTrueClause v) (clauses_through f Kinds.Infinite d)) where
  abbrev run : States
  run = read f Kinds.Infinite d v holds

  module _ (m : ℕ) (some : m < length (eventualities f)) where
    member : Contains (eventualities f) (eventuality f m)
    member = Contains-get_or (eventualities f) m (NConst false) some

    fulfilled_value : (i : ℕ) → i ≤ d → v (letter_of f i (right_of (eventuality f m))) ≡ is_fulfilled (run i) (eventuality f m)
    fulfilled_value i le =
        value f Kinds.Infinite d v holds i le (right_of (eventuality f m)) (right_in f (eventuality f m) (eventuality_in f (eventuality f m) member))

    of_fulfilled : (i l : ℕ) → i ≤ d → l < i → Each (IsTrueClause v) (fulfilled_clauses f i l m)
    of_fulfilled i l le lt =
        below-Each (IsTrueClause v) (length (eventualities f)) (fulfilled_clauses f i l)
        (Each-left (IsTrueClause v) (below (length (eventualities f)) (fulfilled_clauses f i l)) _ (of_rest f Kinds.Infinite d v holds i l le lt).1) m some

    if_less : (l j : ℕ) (xs ys : List Clause) → l < j → Each (IsTrueClause v) (if nat_lt l j then xs else ys) → Each (IsTrueClause v) xs
    if_less l j xs ys lt h = subst (Each (IsTrueClause v)) (cond-true (nat_lt l j) xs ys (lt-ltb l j lt)) h

    if_not_less : (l j : ℕ) (xs ys : List Clause) → j ≤ l → Each (IsTrueClause v) (if nat_lt l j then xs else ys) → Each (IsTrueClause v) ys
    if_not_less l j xs ys le h = subst (Each (IsTrueClause v)) (cond-false (nat_lt l j) xs ys (le-ltb l j le)) h

    pub reads_fulfilled : (l i : ℕ) → i ≤ d → l < i → IsTrue (v (Fulfilled l i (suc m))) → IsFulfilledIn run l i (eventuality f m)
    reads_fulfilled l zero le lt h = absurd (omega arith)
    reads_fulfilled l (suc j) le lt h = elim (cases_lt l j) [
      | inl less ↦
          let c = if_less l j _ _ less (of_fulfilled (suc j) l le lt) in
          elim (then_either (v (Fulfilled l (suc j) (suc m))) (v (letter_of f (suc j) (right_of (eventuality f m)))) (v (Fulfilled l j (suc m))) c.1.1.0 h) [
            | inl b ↦ (suc j, lt, omega arith, subst IsTrue (fulfilled_value (suc j) le) b)
            | inr b ↦ let w = reads_fulfilled l j (omega arith) less b in (w.0, w.1, omega (arith, w.2), w.3)
          ]
      | inr not' ↦
          let c = if_not_less l j _ _ not' (of_fulfilled (suc j) l le lt) in (
            suc j,
            lt,
            omega arith,
            subst IsTrue (fulfilled_value (suc j) le) (then1 (v (Fulfilled l (suc j) (suc m))) (v (letter_of f (suc j) (right_of (eventuality f m)))) c.0 h),
          )
    ]

    pub fulfilled_reads : (l i : ℕ) → i ≤ d → l < i → IsFulfilledIn run l i (eventuality f m) → IsTrue (v (Fulfilled l i (suc m)))
    fulfilled_reads l zero le lt w = absurd (omega arith)
    fulfilled_reads l (suc j) le lt (n, after, upto, b) = elim (cases_lt n (suc j)) [
      | inl early ↦
          let less : l < j = omega arith in
          let c = if_less l j _ _ less (of_fulfilled (suc j) l le lt) in
          back1 (v (Fulfilled l (suc j) (suc m))) (v (Fulfilled l j (suc m))) c.1.0 (fulfilled_reads l j (omega arith) less (n, after, omega arith, b))
      | inr late ↦
          let e : n ≡ suc j = omega arith in
          let here : IsTrue (v (letter_of f (suc j) (right_of (eventuality f m)))) =
          subst IsTrue (sym (fulfilled_value (suc j) le)) (subst (λ z. IsTrue (is_fulfilled (run z) (eventuality f m))) e b) in
          elim (cases_lt l j) [
            | inl less ↦ back1 (v (Fulfilled l (suc j) (suc m))) (v (letter_of f (suc j) (right_of (eventuality f m))))
                (if_less l j _ _ less (of_fulfilled (suc j) l le lt)).0 here
            | inr not' ↦ back1 (v (Fulfilled l (suc j) (suc m))) (v (letter_of f (suc j) (right_of (eventuality f m))))
                (if_not_less l j _ _ not' (of_fulfilled (suc j) l le lt)).1.0 here
          ]
    ]

  -- where the letter of the loop to l is true, the run closes to l
  pub reads_loop : (k l : ℕ) → k ≤ d → l < k → IsTrue (v (LoopTo l k))
      → (carry f (run l) ≡ carry f (run k)) × ((e : Norm) → Contains (eventualities f) e → IsTrue (is_pending (run k) e) → IsFulfilledIn run l k e)
  reads_loop k l le lt h =
      let c = Each-right (IsTrueClause v) (below (length (eventualities f)) (fulfilled_clauses f k l))
      ((Minus (LoopTo l k) ∷ Plus (Equal l k) ∷ []) ∷ below (length (eventualities f)) (λ m. loop_clause f k l m ∷ []))
      (of_rest f Kinds.Infinite d v holds k l le lt).1 in (
        equal_same f Kinds.Infinite d v holds k l le lt (then1 (v (LoopTo l k)) (v (Equal l k)) c.0 h),
        λ e m pending.
            let u = place_of (eventualities f) e (NConst false) m in
            let closes = (below-Each (IsTrueClause v) (length (eventualities f)) (λ m. loop_clause f k l m ∷ []) c.1 u.0 u.1).0 in
            subst (IsFulfilledIn run l k) u.2
            (reads_fulfilled u.0 u.1 l k le lt
            (then2 (v (LoopTo l k)) (v (letter_of f k (request_of (eventuality f u.0)))) (v (Fulfilled l k (suc u.0))) closes h
            (subst (λ z. IsTrue (is_pending (run k) z)) (sym u.2) pending))),
      )

  -- where the letter of acceptance is true, no next request is, or the letter of some loop is
  empty_or_loop : (k : ℕ) → k ≤ d → IsTrue (v (Accepted k))
      → ((e : Norm) → Contains (nexts f) e → IsFalse (run k e)) ⊎ ((l : ℕ) × (l < k) × IsTrue (v (LoopTo l k)))
  empty_or_loop k le h =
      let p = (in_parts f Kinds.Infinite d v holds k le).1.1.1.1.0 in
      elim (or_then (v (Accepted k)) (v (EmptyAt k)) (clause_true v (below k (λ l. Plus (LoopTo l k) ∷ []))) p.0 h) [
        | inl empty ↦ inl (λ e m. then_not (v (EmptyAt k)) (v (letter_of f k e))
            (map-Each (IsTrueClause v) (λ t. Minus (EmptyAt k) ∷ Minus (letter_of f k t) ∷ []) (nexts f) p.1 e m) empty)
        | inr some ↦ inr (some_below v k (λ l. LoopTo l k) some)
      ]
    where
      or_then : (a b c : Bool) → IsTrue (not a || (b || c)) → IsTrue a → IsTrue b ⊎ IsTrue c
      or_then true b c h k = or_cases b c h
      or_then false b c h k = cc

  pub reads_empty : (k : ℕ) → k ≤ d → IsTrue (v (Accepted k)) → ((l : ℕ) → l < k → IsFalse (v (LoopTo l k))) → (e : Norm) → Contains (nexts f) e
      → IsFalse (run k e)
  reads_empty k le h none = elim (empty_or_loop k le h) [
    | inl empty ↦ empty
    | inr w ↦ absurd (clash (v (LoopTo w.0 k)) w.2 (none w.0 w.1))
  ]
    where
      clash : (a : Bool) → IsTrue a → IsFalse a → ⊥
      clash a h k = cc

  pub reads_accepted : (k : ℕ) → k ≤ d → IsTrue (v (Accepted k)) → IsAccepted f run k Kinds.Infinite
  reads_accepted k le h = elim (empty_or_loop k le h) [
    | inl empty ↦ Empty empty
    | inr w ↦ let c = reads_loop k w.0 le w.1 w.2 in Loop w.0 w.1 c.0 c.1
  ]

  pub reads_unpruned : IsTrue (v Unpruned) → (i : ℕ) → i ≤ d → IsPrunedAt f run i Kinds.Infinite → ⊥
  reads_unpruned final i le pruned =
      let w = pair_from_triple f run i pruned in
      let j = w.0 in
      let lt : j < i = w.1 in
      let rep = w.2.1 in
      let none = w.2.2 in
      let earlier : rep.0 < j = rep.1 in
      let equal = same_equal f Kinds.Infinite d v holds i j le lt w.2.0 in
      let s = seen_at j (omega arith) in
      let repeated = then1 (v (Equal rep.0 j)) (v (Repeated j)) (s rep.0 rep.1).0 (same_equal f Kinds.Infinite d v holds j rep.0 (omega arith) rep.1 rep.2) in
      let n = pairs_at i le j lt in
      let some = last (v Unpruned) (v (Equal j i)) (v (Repeated j)) _
      (Each-right (IsTrueClause v) (below (length (eventualities f)) (new_clauses f i j)) (pruned_clause f i j ∷ []) n).0 final equal repeated in
      let u = some_below v (length (eventualities f)) (λ m. New j i (suc m)) some in
      let m = u.0 in
      let c = below-Each (IsTrueClause v) (length (eventualities f)) (new_clauses f i j)
      (Each-left (IsTrueClause v) (below (length (eventualities f)) (new_clauses f i j)) (pruned_clause f i j ∷ []) n) m u.1 in
      none (eventuality f m) (Contains-get_or (eventualities f) m (NConst false) u.1) (
        then1 (v (New j i (suc m))) (v (letter_of f i (request_of (eventuality f m)))) c.0 u.2,
        reads_fulfilled m u.1 j i le lt (then1 (v (New j i (suc m))) (v (Fulfilled j i (suc m))) c.1.0 u.2),
        λ z.
            let zlt : z.0 < j = z.1 in
            clash (v (Seen j (suc m)))
            (then2 (v (Equal z.0 j)) (v (Fulfilled z.0 j (suc m))) (v (Seen j (suc m))) (below-Each (IsTrueClause v) (length (eventualities f))
            (λ m. (Minus (Equal z.0 j) ∷ Minus (Fulfilled z.0 j (suc m)) ∷ Plus (Seen j (suc m)) ∷ []) ∷ []) (s z.0 z.1).1 m u.1).0
            (same_equal f Kinds.Infinite d v holds j z.0 (omega arith) z.1 z.2)
            (fulfilled_reads m u.1 z.0 j (omega arith) z.1 z.3))
            (then_not (v (New j i (suc m))) (v (Seen j (suc m))) c.1.1.0 u.2),
      )
    where
      last : (a b c e : Bool) → IsTrue (not a || (not b || (not c || e))) → IsTrue a → IsTrue b → IsTrue c → IsTrue e
      last a b c e h k l m = grind arith

      clash : (a : Bool) → IsTrue a → IsFalse a → ⊥
      clash a h k = cc

      seen_at : (j : ℕ) → j ≤ d → (l : ℕ) → l < j → Each (IsTrueClause v) (seen_clauses f j l)
      seen_at j le = below-Each (IsTrueClause v) j (seen_clauses f j) (Each-left (IsTrueClause v) (below j (seen_clauses f j)) (below j
          (λ h. below (length (eventualities f)) (new_clauses f j h) ++ pruned_clause f j h ∷ [])) (in_parts f Kinds.Infinite d v holds j le).1.1.1.1.1)

      pairs_at : (i : ℕ) → i ≤ d → (j : ℕ) → j < i → Each (IsTrueClause v) (below (length (eventualities f)) (new_clauses f i j) ++ pruned_clause f i j ∷ [])
      pairs_at i le =
          below-Each (IsTrueClause v) i (λ h. below (length (eventualities f)) (new_clauses f i h) ++ pruned_clause f i h ∷ []) (Each-right (IsTrueClause v)
          (below i (seen_clauses f i)) (below i (λ h. below (length (eventualities f)) (new_clauses f i h) ++ pruned_clause f i h ∷ []))
          (in_parts f Kinds.Infinite d v holds i le).1.1.1.1.1)

module _ (f : Formula) (d : ℕ) (v : Meaning → Bool) (holds : Each (IsTrueClause v) (clauses_through f Kinds.Finite d)) where
  -- where the letter of acceptance is true, no strong next request is
  pub reads_ended : (k : ℕ) → k ≤ d → IsTrue (v (Accepted k)) → (a : Norm) → Contains (closure f) (NNext a)
      → IsFalse (read f Kinds.Finite d v holds k (NNext a))
  reads_ended k le h a m = then_not (v (Accepted k)) (v (letter_of f k (NNext a)))
      (map-Each (IsTrueClause v) (λ t. Minus (Accepted k) ∷ Minus (letter_of f k t) ∷ []) (filter is_strong_next (closure f))
      (in_parts f Kinds.Finite d v holds k le).1.1.1.1.0 (NNext a) (Contains-filter is_strong_next (closure f) (NNext a) m refl)) h

  pub reads_distinct : IsTrue (v Unpruned) → (i : ℕ) → i ≤ d → IsPrunedAt f (read f Kinds.Finite d v holds) i Kinds.Finite → ⊥
  reads_distinct final i le (Pair j lt one) =
      let c = (below-Each (IsTrueClause v) i (λ j. (Minus Unpruned ∷ Minus (Equal j i) ∷ []) ∷ []) (in_parts f Kinds.Finite d v holds i le).1.1.1.1.1 j lt).0 in
      let equal = same_equal f Kinds.Finite d v holds i j le lt one in
      clash (v (Equal j i)) equal (then_not (v Unpruned) (v (Equal j i)) c final)
    where
      clash : (a : Bool) → IsTrue a → IsFalse a → ⊥
      clash a h k = cc
