-- How many clauses a depth has at most: so many for each letter of a step, and for each letter of a pair.
use Rattle.std.proofs.Common.{ℕ, zero, suc, ◌+◌, ◌*◌, ◌≤◌, Bool, true, false, List, [], ◌∷◌, ◌++◌, length, length-append, map, arith}
use Rattle.std.proofs.Common.{if◌then◌else◌}
use Rattle.std.specs.Prelude.{filter, flat_map, nat_lt}
use Rattle.std.proofs.Math.Nat.{mul-le-mul_right}
use Rattle.std.proofs.lemmas.List.{length-map}
use Rattle.ltl_syntax.specs.declared.node.Kind.{Kind}
use Rattle.ltl_syntax.specs.declared.node.Kind.TheVariants as Kinds
use Rattle.ltl_syntax.specs.Formula.{Formula}
use Rattle.ltl_closure.specs.Norm.{Norm, NConst, NLetter, NNotLetter, NAnd, NOr, NNext, NWeakNext, NYesterday, NWeakYesterday, NUntil, NRelease, NSince}
use Rattle.ltl_closure.specs.Norm.{NTrigger}
use Rattle.ltl_closure.specs.Closure.{closure, nexts, yesterdays, eventualities}
use Rattle.ltl_closure.specs.Run.{right_of}
use Rattle.enc_layout.specs.Letters.{Meaning, Unpruned, Accepted, EmptyAt, Seen, Equal, LoopTo, Fulfilled, letters_through, below}
use Rattle.enc_layout.specs.Clauses.{Clause, Plus, Minus, eventuality, counts, carried, letter_of, chain_part, gate, gates_part, start, next_clauses}
use Rattle.enc_layout.specs.Clauses.{before_clauses, links_part}
use Rattle.enc_layout.specs.Clauses.{place_clauses, equal_clause, fulfilled_clauses, loop_clause, closing_clauses, pair_clauses, pairs_part}
use Rattle.enc_layout.specs.Clauses.{is_strong_next, acceptance_part, seen_clauses, new_clauses, pruned_clause, pruning_part, step_clauses}
use Rattle.enc_layout.specs.Clauses.{clauses_through, literal_in}
use Rattle.enc_layout.proofs.Counting.{length-carried, nexts_few, yesterdays_few, eventualities_few}
use Rattle.completeness.specs.Refuted.{ClausesAreFew}

-- ---- lists of lists

flat_few : {X Y : Type 0} (most : ℕ) (g : X → List Y) (xs : List X) → ((x : X) → length (g x) ≤ most) → length (flat_map g xs) ≤ length xs * most
flat_few most g [] each = omega arith
flat_few most g (x ∷ xs) each =
    let rest = flat_few most g xs each in
    let here = each x in
    omega (arith, length-append (g x) (flat_map g xs), rest, here)

below_few : {X : Type 0} (most n : ℕ) (g : ℕ → List X) → ((m : ℕ) → length (g m) ≤ most) → length (below n g) ≤ n * most
below_few most zero g each = omega arith
below_few most (suc n) g each =
    let rest = below_few most n g each in
    let here = each n in
    omega (arith, length-append (below n g) (g n), rest, here)

filter_few : (p : Norm → Bool) (xs : List Norm) → length (filter p xs) ≤ length xs
filter_few p [] = omega arith
filter_few p (x ∷ xs) = go (p x) (filter_few p xs)
  where
    go : (b : Bool) → length (filter p xs) ≤ length xs → length (if b then x ∷ filter p xs else filter p xs) ≤ suc (length xs)
    go true few = omega arith
    go false few = omega arith

-- ---- the parts

gate_few : (v : Norm → Meaning) (e : Norm) → length (gate v e) ≤ 4
gate_few v (NConst true) = omega arith
gate_few v (NConst false) = omega arith
gate_few v (NLetter p) = omega arith
gate_few v (NNotLetter p) = omega arith
gate_few v (NAnd a b) = omega arith
gate_few v (NOr a b) = omega arith
gate_few v (NNext a) = omega arith
gate_few v (NWeakNext a) = omega arith
gate_few v (NYesterday a) = omega arith
gate_few v (NWeakYesterday a) = omega arith
gate_few v (NUntil a b) = omega arith
gate_few v (NRelease a b) = omega arith
gate_few v (NSince a b) = omega arith
gate_few v (NTrigger a b) = omega arith

start_few : (f : Formula) (e : Norm) → length (start f e) ≤ 1
start_few f (NYesterday a) = omega arith
start_few f (NWeakYesterday a) = omega arith
start_few f (NConst b) = omega arith
start_few f (NLetter p) = omega arith
start_few f (NNotLetter p) = omega arith
start_few f (NAnd a b) = omega arith
start_few f (NOr a b) = omega arith
start_few f (NNext a) = omega arith
start_few f (NWeakNext a) = omega arith
start_few f (NUntil a b) = omega arith
start_few f (NRelease a b) = omega arith
start_few f (NSince a b) = omega arith
start_few f (NTrigger a b) = omega arith

chain_few : (i : ℕ) → length (chain_part i) ≤ 1
chain_few zero = omega arith
chain_few (suc j) = omega arith

fulfilled_few : (f : Formula) (i l m : ℕ) → length (fulfilled_clauses f i l m) ≤ 3
fulfilled_few f zero l m = omega arith
fulfilled_few f (suc j) l m = go (nat_lt l j)
  where
    go : (b : Bool) → length (if b
        then (
        (Plus (Fulfilled l (suc j) (suc m)) ∷ Minus (letter_of f (suc j) (right_of (eventuality f m))) ∷ [])
        ∷ (Plus (Fulfilled l (suc j) (suc m)) ∷ Minus (Fulfilled l j (suc m)) ∷ [])
        ∷ (Minus (Fulfilled l (suc j) (suc m)) ∷ Plus (letter_of f (suc j) (right_of (eventuality f m))) ∷ Plus (Fulfilled l j (suc m)) ∷ [])
        ∷ [])
        else (
        (Minus (Fulfilled l (suc j) (suc m)) ∷ Plus (letter_of f (suc j) (right_of (eventuality f m))) ∷ [])
        ∷ (Plus (Fulfilled l (suc j) (suc m)) ∷ Minus (letter_of f (suc j) (right_of (eventuality f m))) ∷ [])
        ∷ [])) ≤ 3
    go true = omega arith
    go false = omega arith

module _ (f : Formula) where
  abbrev entries : ℕ
  entries = length (closure f)

  -- the counts within the entries of the closure
  few_places : length (carried f) ≤ 2 * entries
  few_places = let a = nexts_few f in let b = yesterdays_few f in omega (arith, length-carried f, a, b)

  gates_few : (i : ℕ) → length (gates_part f i) ≤ entries * 4
  gates_few i = flat_few 4 (gate (letter_of f i)) (closure f) (gate_few (letter_of f i))

  links_few : (i : ℕ) → length (links_part f i) ≤ 1 + 4 * entries
  links_few zero =
      let starts = flat_few 1 (start f) (yesterdays f) (start_few f) in
      let few = yesterdays_few f in
      omega (arith, starts, few)
  links_few (suc j) =
      let after = flat_few 2 (next_clauses f j) (nexts f) (λ e. omega arith) in
      let before = flat_few 2 (before_clauses f j) (yesterdays f) (λ e. omega arith) in
      let few = nexts_few f in
      let also = yesterdays_few f in
      omega (arith, length-append (flat_map (next_clauses f j) (nexts f)) (flat_map (before_clauses f j) (yesterdays f)), after, before, few, also)

  closing_few : (kind : Kind) (i l : ℕ) → length (closing_clauses f kind i l) ≤ 1 + 4 * entries
  closing_few Kinds.Finite i l = omega arith
  closing_few Kinds.Infinite i l =
      let count = length (eventualities f) in
      let first = below count (fulfilled_clauses f i l) in
      let second = below count (λ m. loop_clause f i l m ∷ []) in
      let fulfilled = below_few 3 count (fulfilled_clauses f i l) (fulfilled_few f i l) in
      let loops = below_few 1 count (λ m. loop_clause f i l m ∷ []) (λ m. omega arith) in
      let few = eventualities_few f in
      omega (arith, length-append first ((Minus (LoopTo l i) ∷ Plus (Equal l i) ∷ []) ∷ second), fulfilled, loops, few)

  pair_few : (kind : Kind) (i l : ℕ) → length (pair_clauses f kind i l) ≤ 2 + 12 * entries
  pair_few kind i l =
      let places = below (length (carried f)) (place_clauses f i l) in
      let each = below_few 4 (length (carried f)) (place_clauses f i l) (λ q. omega arith) in
      let closing = closing_few kind i l in
      let few = few_places in
      omega (arith, length-append places (equal_clause f i l ∷ closing_clauses f kind i l), each, closing, few)

  pairs_few : (kind : Kind) (i : ℕ) → length (pairs_part f kind i) ≤ i * (2 + 12 * entries)
  pairs_few kind i = below_few (2 + 12 * entries) i (pair_clauses f kind i) (pair_few kind i)

  acceptance_few : (kind : Kind) (i : ℕ) → length (acceptance_part f kind i) ≤ 1 + entries
  acceptance_few Kinds.Infinite i =
      let few = nexts_few f in omega (arith, length-map (nexts f) (λ t. Minus (EmptyAt i) ∷ Minus (letter_of f i t) ∷ []), few)
  acceptance_few Kinds.Finite i =
      let few = filter_few is_strong_next (closure f) in
      omega (arith, length-map (filter is_strong_next (closure f)) (λ t. Minus (Accepted i) ∷ Minus (letter_of f i t) ∷ []), few)

  seen_few : (i l : ℕ) → length (seen_clauses f i l) ≤ 1 + entries
  seen_few i l =
      let each = below_few 1 (length (eventualities f)) (λ m. (Minus (Equal l i) ∷ Minus (Fulfilled l i (suc m)) ∷ Plus (Seen i (suc m)) ∷ []) ∷ [])
      (λ m. omega arith) in
      let few = eventualities_few f in
      omega (arith, each, few)

  news_few : (i j : ℕ) → length (below (length (eventualities f)) (new_clauses f i j) ++ pruned_clause f i j ∷ []) ≤ 1 + 3 * entries
  news_few i j =
      let news = below (length (eventualities f)) (new_clauses f i j) in
      let each = below_few 3 (length (eventualities f)) (new_clauses f i j) (λ m. omega arith) in
      let few = eventualities_few f in
      omega (arith, length-append news (pruned_clause f i j ∷ []), each, few)

  pruning_few : (kind : Kind) (i : ℕ) → length (pruning_part f kind i) ≤ i * (2 + 4 * entries)
  pruning_few Kinds.Infinite i =
      let seen = below i (seen_clauses f i) in
      let news : ℕ → List Clause = λ j. below (length (eventualities f)) (new_clauses f i j) ++ pruned_clause f i j ∷ [] in
      let one = below_few (1 + entries) i (seen_clauses f i) (seen_few i) in
      let two = below_few (1 + 3 * entries) i news (news_few i) in
      omega (arith, length-append seen (below i news), one, two)
  pruning_few Kinds.Finite i =
      let each = below_few 1 i (λ j. (Minus Unpruned ∷ Minus (Equal j i) ∷ []) ∷ []) (λ j. omega arith) in
      omega (arith, each)

  step_few : (kind : Kind) (i : ℕ) → length (step_clauses f kind i) ≤ 3 + 9 * entries + i * (4 + 16 * entries)
  step_few kind i =
      let chain = chain_part i in
      let gates = gates_part f i in
      let links = links_part f i in
      let pairs = pairs_part f kind i in
      let accepts = acceptance_part f kind i in
      let prunes = pruning_part f kind i in
      let a = chain_few i in
      let b = gates_few i in
      let c = links_few i in
      let d = pairs_few kind i in
      let e = acceptance_few kind i in
      let g = pruning_few kind i in
      let v = length-append chain (gates ++ (links ++ (pairs ++ (accepts ++ prunes)))) in
      let w = length-append gates (links ++ (pairs ++ (accepts ++ prunes))) in
      let x = length-append links (pairs ++ (accepts ++ prunes)) in
      let y = length-append pairs (accepts ++ prunes) in
      let z = length-append accepts prunes in
      omega (arith, v, w, x, y, z, a, b, c, d, e, g)

  entries_few : (kind : Kind) (k : ℕ) → letters_through kind (counts f) k ≤ 16777216 → entries ≤ 16777216
  entries_few Kinds.Infinite k few = omega (arith, few)
  entries_few Kinds.Finite k few = omega (arith, few)

  module _ (small : entries ≤ 16777216) (kind : Kind) where
    step_bound : (i : ℕ) → i ≤ 1000 → length (step_clauses f kind i) ≤ 300000000000
    step_bound i le =
        let most = step_few kind i in
        let product : i * (4 + 16 * entries) ≤ 1000 * (4 + 16 * entries) = mul-le-mul_right (4 + 16 * entries) le in
        omega (arith, most, product, small)

    steps_bound : (n : ℕ) → n ≤ 1001 → length (below n (step_clauses f kind)) ≤ n * 300000000000
    steps_bound zero le = omega arith
    steps_bound (suc n) le =
        let rest = steps_bound n (omega arith) in
        let here = step_bound n (omega arith) in
        omega (arith, length-append (below n (step_clauses f kind)) (step_clauses f kind n), rest, here)

pub clauses_are_few : ClausesAreFew
clauses_are_few f kind k shallow few =
    let most = steps_bound f (entries_few f kind k few) kind (suc k) (omega arith) in
    omega (arith, length-map (clauses_through f kind k) (map (literal_in kind (counts f))), most, shallow)
