-- The clauses through a depth have only letters of the kind through that depth.
use Rattle.std.proofs.Common.{ℕ, zero, suc, ◌<◌, ◌≤◌, true, false, refl, arith, [], ◌∷◌, ◌++◌, length, get_or, Contains, flat_map}
use Rattle.std.specs.Prelude.{nat_lt, filter}
use Rattle.std.specs.List.{AllByRecursion as Each}
use Rattle.std.proofs.lemmas.Bool.{ltb-true}
use Rattle.std.proofs.lemmas.List.Elements.{Contains-get_or}
use Rattle.ltl_syntax.specs.declared.node.Kind.{Kind}
use Rattle.ltl_syntax.specs.declared.node.Kind.TheVariants as Kinds
use Rattle.ltl_syntax.specs.Formula.{Formula}
use Rattle.ltl_closure.specs.Norm.{Norm, NConst, NLetter, NNotLetter, NAnd, NOr, NNext, NWeakNext, NYesterday, NWeakYesterday, NUntil, NRelease, NSince}
use Rattle.ltl_closure.specs.Norm.{NTrigger, pos_of}
use Rattle.ltl_closure.specs.Closure.{closure, nexts, yesterdays, eventualities, argument}
use Rattle.ltl_closure.specs.Run.{request_of, right_of}
use Rattle.ltl_closure.proofs.Lists.{Contains-from_filter}
use Rattle.ltl_closure.proofs.Entries.{closure_root}
use Rattle.ltl_closure.proofs.Places.{place_from_one, place_within}
use Rattle.ltl_closure.proofs.Known.{next_in, yesterday_in, eventuality_in}
use Rattle.enc_layout.specs.Letters.{Meaning, Unpruned, Here, Accepted, EmptyAt, Seen, Equal, LoopTo, Differs, Fulfilled, New, below, IsLetter}
use Rattle.enc_layout.specs.Clauses.{Literal, Clause, Plus, Minus, counts, letter_of, carried, eventuality, chain_part, gates_part, gate, start, next_clauses}
use Rattle.enc_layout.specs.Clauses.{before_clauses, links_part, place_clauses, equal_clause, fulfilled_clauses, loop_clause, closing_clauses, pair_clauses}
use Rattle.enc_layout.specs.Clauses.{pairs_part, accepted_clause, is_strong_next, acceptance_part, seen_clauses, new_clauses, pruned_clause, pruning_part}
use Rattle.enc_layout.specs.Clauses.{step_clauses, clauses_through}
use Rattle.enc_layout.proofs.Each.{Each-append, Each-below, Each-flat_map, Each-map}
use Rattle.enc_layout.proofs.Gates.{first_child, second_child}
use Rattle.enc_layout.proofs.Carries.{argument_in, right_in, carried_in}
use Rattle.enc_layout.proofs.Writing.{if_each, join6, third_child, request_in}

abbrev pub letter_in : Literal → Meaning
letter_in (Plus p) = p
letter_in (Minus p) = p

module _ (f : Formula) (kind : Kind) (d : ℕ) where
  abbrev pub IsKnown : Literal → Type 0
  IsKnown l = IsLetter kind (counts f) d (letter_in l)

  abbrev pub AreKnown : Clause → Type 0
  AreKnown c = Each IsKnown c

  pub entry : (i : ℕ) → i ≤ d → (e : Norm) → Contains (closure f) e → IsLetter kind (counts f) d (letter_of f i e)
  entry i le e m = (le, place_from_one (closure f) e, place_within (closure f) e m)

  within_a : (i : ℕ) → i ≤ d → Each AreKnown (chain_part i)
  within_a zero le = tt
  within_a (suc j) le = ((le, (omega arith, tt)), tt)

  within_gate : (i : ℕ) → i ≤ d → (e : Norm) → Contains (closure f) e → Each AreKnown (gate (letter_of f i) e)
  within_gate i le (NConst true) m = ((entry i le (NConst true) m, tt), tt)
  within_gate i le (NConst false) m = ((entry i le (NConst false) m, tt), tt)
  within_gate i le (NLetter p) m = tt
  within_gate i le (NNotLetter p) m =
      let g = entry i le (NNotLetter p) m in
      let a = entry i le (NLetter p) (first_child f (NLetter p) (NNotLetter p) [] refl m) in
      ((g, (a, tt)), ((g, (a, tt)), tt))
  within_gate i le (NAnd a b) m =
      let g = entry i le (NAnd a b) m in
      let x = entry i le a (first_child f a (NAnd a b) _ refl m) in
      let y = entry i le b (second_child f a b (NAnd a b) _ refl m) in
      ((g, (x, tt)), ((g, (y, tt)), ((g, (x, (y, tt))), tt)))
  within_gate i le (NOr a b) m =
      let g = entry i le (NOr a b) m in
      let x = entry i le a (first_child f a (NOr a b) _ refl m) in
      let y = entry i le b (second_child f a b (NOr a b) _ refl m) in
      ((g, (x, tt)), ((g, (y, tt)), ((g, (x, (y, tt))), tt)))
  within_gate i le (NNext a) m = tt
  within_gate i le (NWeakNext a) m = tt
  within_gate i le (NYesterday a) m = tt
  within_gate i le (NWeakYesterday a) m = tt
  within_gate i le (NUntil a b) m =
      let g = entry i le (NUntil a b) m in
      let x = entry i le a (first_child f a (NUntil a b) _ refl m) in
      let y = entry i le b (second_child f a b (NUntil a b) _ refl m) in
      let z = entry i le (NNext (NUntil a b)) (third_child f a b (NNext (NUntil a b)) (NUntil a b) refl m) in
      ((g, (y, tt)), ((g, (x, (z, tt))), ((g, (y, (x, tt))), ((g, (y, (z, tt))), tt))))
  within_gate i le (NSince a b) m =
      let g = entry i le (NSince a b) m in
      let x = entry i le a (first_child f a (NSince a b) _ refl m) in
      let y = entry i le b (second_child f a b (NSince a b) _ refl m) in
      let z = entry i le (NYesterday (NSince a b)) (third_child f a b (NYesterday (NSince a b)) (NSince a b) refl m) in
      ((g, (y, tt)), ((g, (x, (z, tt))), ((g, (y, (x, tt))), ((g, (y, (z, tt))), tt))))
  within_gate i le (NRelease a b) m =
      let g = entry i le (NRelease a b) m in
      let x = entry i le a (first_child f a (NRelease a b) _ refl m) in
      let y = entry i le b (second_child f a b (NRelease a b) _ refl m) in
      let z = entry i le (NWeakNext (NRelease a b)) (third_child f a b (NWeakNext (NRelease a b)) (NRelease a b) refl m) in
      ((g, (y, tt)), ((g, (x, (z, tt))), ((g, (y, (x, tt))), ((g, (y, (z, tt))), tt))))
  within_gate i le (NTrigger a b) m =
      let g = entry i le (NTrigger a b) m in
      let x = entry i le a (first_child f a (NTrigger a b) _ refl m) in
      let y = entry i le b (second_child f a b (NTrigger a b) _ refl m) in
      let z = entry i le (NWeakYesterday (NTrigger a b)) (third_child f a b (NWeakYesterday (NTrigger a b)) (NTrigger a b) refl m) in
      ((g, (y, tt)), ((g, (x, (z, tt))), ((g, (y, (x, tt))), ((g, (y, (z, tt))), tt))))

  within_b : (i : ℕ) → i ≤ d → Each AreKnown (gates_part f i)
  within_b i le = Each-flat_map AreKnown (gate (letter_of f i)) (closure f) (within_gate i le)

  within_start : (e : Norm) → Contains (closure f) e → Each AreKnown (start f e)
  within_start (NYesterday a) m = ((omega arith, (entry 0 (omega arith) (NYesterday a) m, tt)), tt)
  within_start (NWeakYesterday a) m = ((omega arith, (entry 0 (omega arith) (NWeakYesterday a) m, tt)), tt)
  within_start e m = tt

  two_steps : (j : ℕ) → suc j ≤ d → (i l : ℕ) → i ≤ d → l ≤ d → (e : Norm) → Contains (closure f) e
      → Each AreKnown ((Minus (Here (suc j)) ∷ Minus (letter_of f i e) ∷ Plus (letter_of f l (argument e)) ∷ [])
      ∷ (Minus (Here (suc j)) ∷ Plus (letter_of f i e) ∷ Minus (letter_of f l (argument e)) ∷ []) ∷ [])
  two_steps j le i l il ll e m =
      let x = entry i il e m in
      let y = entry l ll (argument e) (argument_in f e m) in
      ((le, (x, (y, tt))), ((le, (x, (y, tt))), tt))

  within_c : (i : ℕ) → i ≤ d → Each AreKnown (links_part f i)
  within_c zero le =
      ((le, (entry 0 le (pos_of f) (closure_root f), tt)), Each-flat_map AreKnown (start f) (yesterdays f) (λ e m. within_start e (yesterday_in f e m)))
  within_c (suc j) le =
      Each-append AreKnown (flat_map (next_clauses f j) (nexts f)) (flat_map (before_clauses f j) (yesterdays f))
      (Each-flat_map AreKnown (next_clauses f j) (nexts f) (λ e m. two_steps j le j (suc j) (omega arith) le e (next_in f e m)))
      (Each-flat_map AreKnown (before_clauses f j) (yesterdays f) (λ e m. two_steps j le (suc j) j le (omega arith) e (yesterday_in f e m)))

  module _ (i l : ℕ) (le : i ≤ d) (lt : l < i) where
    within_place : (q : ℕ) → q < length (carried f) → Each AreKnown (place_clauses f i l q)
    within_place q h =
        let e = get_or (carried f) q (NConst false) in
        let m = carried_in f e (Contains-get_or (carried f) q (NConst false) h) in
        let x = entry l (omega arith) e m in
        let y = entry i le e m in
        ((within_differs q h, (x, (y, tt))), ((within_differs q h, (x, (y, tt))), (((le, lt), (x, (y, tt))), (((le, lt), (x, (y, tt))), tt))))
      where
        within_differs : (q : ℕ) → q < length (carried f) → IsLetter kind (counts f) d (Differs l i (suc q))
        within_differs q h = (le, lt, omega arith, omega arith)

    within_equal : AreKnown (equal_clause f i l)
    within_equal = ((le, lt), Each-below IsKnown (length (carried f)) (λ q. Plus (Differs l i (suc q)) ∷ []) (λ q h. ((le, lt, omega arith, omega arith), tt)))

module _ (f : Formula) (d : ℕ) where
  abbrev Known : Clause → Type 0
  Known c = AreKnown f Kinds.Infinite d c

  right_entry : (i m : ℕ) → i ≤ d → m < length (eventualities f) → IsLetter Kinds.Infinite (counts f) d (letter_of f i (right_of (eventuality f m)))
  right_entry i m le some = entry f Kinds.Infinite d i le (right_of (eventuality f m))
      (right_in f (eventuality f m) (eventuality_in f (eventuality f m) (Contains-get_or (eventualities f) m (NConst false) some)))

  request_entry : (i m : ℕ) → i ≤ d → m < length (eventualities f) → IsLetter Kinds.Infinite (counts f) d (letter_of f i (request_of (eventuality f m)))
  request_entry i m le some =
      entry f Kinds.Infinite d i le (request_of (eventuality f m)) (request_in f (eventuality f m) (Contains-get_or (eventualities f) m (NConst false) some))

  of_pair : (l i m : ℕ) → i ≤ d → l < i → m < length (eventualities f) → IsLetter Kinds.Infinite (counts f) d (Fulfilled l i (suc m))
  of_pair l i m le lt some = (le, lt, omega arith, omega arith)

  of_seen : (i m : ℕ) → i ≤ d → m < length (eventualities f) → IsLetter Kinds.Infinite (counts f) d (Seen i (suc m))
  of_seen i m le some = (le, omega arith, omega arith)

  within_fulfilled : (i l : ℕ) → i ≤ d → l < i → (m : ℕ) → m < length (eventualities f) → Each Known (fulfilled_clauses f i l m)
  within_fulfilled zero l le lt m some = tt
  within_fulfilled (suc j) l le lt m some =
      let g = of_pair l (suc j) m le lt some in
      let b = right_entry (suc j) m le some in
      if_each Known (nat_lt l j) _ _
      (λ is. let less = ltb-true l j is in let h = of_pair l j m (omega arith) less some in ((g, (b, tt)), ((g, (h, tt)), ((g, (b, (h, tt))), tt))))
      (λ is. ((g, (b, tt)), ((g, (b, tt)), tt)))

  within_closing : (i l : ℕ) → i ≤ d → l < i → Each Known (closing_clauses f Kinds.Infinite i l)
  within_closing i l le lt =
      Each-append Known (below (length (eventualities f)) (fulfilled_clauses f i l))
      ((Minus (LoopTo l i) ∷ Plus (Equal l i) ∷ []) ∷ below (length (eventualities f)) (λ m. loop_clause f i l m ∷ []))
      (Each-below Known (length (eventualities f)) (fulfilled_clauses f i l) (within_fulfilled i l le lt)) (
        ((le, lt), ((le, lt), tt)),
        Each-below Known (length (eventualities f)) (λ m. loop_clause f i l m ∷ []) (λ m some. (
          (
            (
              le,
              lt,
            ),
            (request_entry i m le some, (of_pair l i m le lt some, tt)),
          ),
          tt,
        )),
      )

  within_seen : (i l : ℕ) → i ≤ d → l < i → Each Known (seen_clauses f i l)
  within_seen i l le lt = (
    ((le, lt), (le, tt)),
    Each-below Known (length (eventualities f)) (λ m. (Minus (Equal l i) ∷ Minus (Fulfilled l i (suc m)) ∷ Plus (Seen i (suc m)) ∷ []) ∷ []) (λ m some.
        (((le, lt), (of_pair l i m le lt some, (of_seen i m le some, tt))), tt)),
  )

  within_new : (i j : ℕ) → i ≤ d → j < i → (m : ℕ) → m < length (eventualities f) → Each Known (new_clauses f i j m)
  within_new i j le lt m some =
      let n : IsLetter Kinds.Infinite (counts f) d (New j i (suc m)) = of_pair j i m le lt some in
      ((n, (request_entry i m le some, tt)), ((n, (of_pair j i m le lt some, tt)), ((n, (of_seen j m (omega arith) some, tt)), tt)))

  within_pruned : (i j : ℕ) → i ≤ d → j < i → Known (pruned_clause f i j)
  within_pruned i j le lt = (
    tt,
    (
      (le, lt),
      (
        omega arith,
        Each-below (IsKnown f Kinds.Infinite d) (length (eventualities f)) (λ m. Plus (New j i (suc m)) ∷ []) (λ m some. (
          of_pair j i m le lt some,
          tt,
        )),
      ),
    ),
  )

  within_accepted : (i : ℕ) → i ≤ d → Known (accepted_clause i)
  within_accepted i le = (le, (le, Each-below (IsKnown f Kinds.Infinite d) i (λ l. Plus (LoopTo l i) ∷ []) (λ l lt. ((le, lt), tt))))

within_closings : (f : Formula) (kind : Kind) (d i l : ℕ) → i ≤ d → l < i → Each (AreKnown f kind d) (closing_clauses f kind i l)
within_closings f Kinds.Infinite d i l le lt = within_closing f d i l le lt
within_closings f Kinds.Finite d i l le lt = tt

within_d : (f : Formula) (kind : Kind) (d i : ℕ) → i ≤ d → Each (AreKnown f kind d) (pairs_part f kind i)
within_d f kind d i le = Each-below (AreKnown f kind d) i (pair_clauses f kind i) (λ l lt.
    Each-append (AreKnown f kind d) (below (length (carried f)) (place_clauses f i l)) (equal_clause f i l ∷ closing_clauses f kind i l)
    (Each-below (AreKnown f kind d) (length (carried f)) (place_clauses f i l) (within_place f kind d i l le lt))
    (within_equal f kind d i l le lt, within_closings f kind d i l le lt))

within_e : (f : Formula) (kind : Kind) (d i : ℕ) → i ≤ d → Each (AreKnown f kind d) (acceptance_part f kind i)
within_e f Kinds.Infinite d i le = (
  within_accepted f d i le,
  Each-map (AreKnown f Kinds.Infinite d) (λ t. Minus (EmptyAt i) ∷ Minus (letter_of f i t) ∷ []) (nexts f) (λ e m. (
    le,
    (
      entry f Kinds.Infinite d i le e (next_in f e m),
      tt,
    ),
  )),
)
within_e f Kinds.Finite d i le =
    Each-map (AreKnown f Kinds.Finite d) (λ t. Minus (Accepted i) ∷ Minus (letter_of f i t) ∷ []) (filter is_strong_next (closure f))
    (λ e m. (le, (entry f Kinds.Finite d i le e (Contains-from_filter is_strong_next (closure f) e m).0, tt)))

within_f : (f : Formula) (kind : Kind) (d i : ℕ) → i ≤ d → Each (AreKnown f kind d) (pruning_part f kind i)
within_f f Kinds.Infinite d i le =
    Each-append (AreKnown f Kinds.Infinite d) (below i (seen_clauses f i))
    (below i (λ j. below (length (eventualities f)) (new_clauses f i j) ++ pruned_clause f i j ∷ []))
    (Each-below (AreKnown f Kinds.Infinite d) i (seen_clauses f i) (λ l lt. within_seen f d i l le lt))
    (Each-below (AreKnown f Kinds.Infinite d) i (λ j. below (length (eventualities f)) (new_clauses f i j) ++ pruned_clause f i j ∷ []) (λ j lt.
    Each-append (AreKnown f Kinds.Infinite d) (below (length (eventualities f)) (new_clauses f i j)) (pruned_clause f i j ∷ [])
    (Each-below (AreKnown f Kinds.Infinite d) (length (eventualities f)) (new_clauses f i j) (within_new f d i j le lt))
    (within_pruned f d i j le lt, tt)))
within_f f Kinds.Finite d i le =
    Each-below (AreKnown f Kinds.Finite d) i (λ j. (Minus Unpruned ∷ Minus (Equal j i) ∷ []) ∷ []) (λ j lt. ((tt, ((le, lt), tt)), tt))

pub within : (f : Formula) (kind : Kind) (d : ℕ) → Each (AreKnown f kind d) (clauses_through f kind d)
within f kind d = Each-below (AreKnown f kind d) (suc d) (step_clauses f kind) (λ i lt.
    let le : i ≤ d = omega arith in
    join6 (AreKnown f kind d) (chain_part i) (gates_part f i) (links_part f i) (pairs_part f kind i) (acceptance_part f kind i) (pruning_part f kind i)
    (within_a f kind d i le) (within_b f kind d i le) (within_c f kind d i le) (within_d f kind d i le) (within_e f kind d i le) (within_f f kind d i le))
