-- The parts of a step have as many clauses as their sizes say.
use Rattle.std.proofs.Common.{◌≡◌, ℕ, zero, suc, ◌+◌, ◌-◌, ◌*◌, ◌/◌, ◌<◌, ◌≤◌, Bool, true, false, IsTrue, arith, sym, ◌∙◌, ap, refl, inl, inr, List, [], ◌∷◌}
use Rattle.std.proofs.Common.{◌++◌, length, get_or, flat_map, length-append, append_assoc, add-one}
use Rattle.std.specs.Prelude.{nat_lt, filter, if◌then◌else◌}
use Rattle.std.proofs.lemmas.Bool.{lt-ltb, le-ltb, cases_lt}
use Rattle.std.proofs.lemmas.List.{length-map}
use Rattle.std.proofs.lemmas.List.Elements.{Contains-get_or}
use Rattle.ltl_syntax.specs.declared.node.Kind.{Kind}
use Rattle.ltl_syntax.specs.declared.node.Kind.TheVariants as Kinds
use Rattle.ltl_syntax.specs.Formula.{Formula}
use Rattle.ltl_closure.specs.Norm.{Norm, NConst, NLetter, NNotLetter, NAnd, NOr, NNext, NWeakNext, NYesterday, NWeakYesterday, NUntil, NRelease, NSince}
use Rattle.ltl_closure.specs.Norm.{NTrigger}
use Rattle.ltl_closure.specs.Closure.{closure, nexts, yesterdays, eventualities, is_yesterday}
use Rattle.ltl_closure.proofs.Lists.{Contains-from_filter}
use Rattle.enc_layout.specs.Letters.{Meaning, Accepted, EmptyAt, LoopTo, Equal, Fulfilled, Seen, Unpruned, below}
use Rattle.enc_layout.specs.Clauses.{Plus, Minus, letter_of, carried, chain_part, gates_part, gate, start, next_clauses, before_clauses, links_part}
use Rattle.enc_layout.specs.Clauses.{place_clauses, equal_clause, fulfilled_clauses, loop_clause, closing_clauses, pair_clauses, pairs_part, is_strong_next}
use Rattle.enc_layout.specs.Clauses.{acceptance_part, seen_clauses, new_clauses, pruned_clause, pruning_part, state_clauses, step_clauses}
use Rattle.enc_layout.proofs.ByIndex.{flat_map_below}
use Rattle.enc_layout.proofs.Counting.{length-carried}
use Rattle.clause_index.specs.declared.sizes.Sizes.{Sizes}
use Rattle.clause_index.specs.Counts.{sizes_of, chain_size, link_size, state_size, pair_size, near_size, pairs_size, accept_size, prune_size, step_size}
use Rattle.clause_index.specs.Counts.{before_step, fulfilled_size, closing_size}

pub length-even : {X : Type 0} (s n : ℕ) (g : ℕ → List X) → ((k : ℕ) → k < n → length (g k) ≡ s) → length (below n g) ≡ n * s
length-even s zero g h = omega arith
length-even s (suc n) g h =
    let ih = length-even s n g (λ k lt. h k (omega arith)) in
    let one = h n (omega arith) in
    let a = length-append (below n g) (g n) in
    omega arith

pub length-flat : {X Y : Type 0} (s : ℕ) (g : X → List Y) (xs : List X) (d : X) → ((k : ℕ) → k < length xs → length (g (get_or xs k d)) ≡ s)
    → length (flat_map g xs) ≡ length xs * s
length-flat s g xs d h = ap length (flat_map_below g xs d) ∙ length-even s (length xs) (λ k. g (get_or xs k d)) h

-- gates
gate_long : (v w : Norm → Meaning) (e : Norm) → length (gate v e) ≡ length (gate w e)
gate_long v w (NConst true) = refl
gate_long v w other = refl

gates_long : (v w : Norm → Meaning) (es : List Norm) → length (flat_map (gate v) es) ≡ length (flat_map (gate w) es)
gates_long v w [] = refl
gates_long v w (e ∷ es) =
    let one = gate_long v w e in
    let more = gates_long v w es in
    let a = length-append (gate v e) (flat_map (gate v) es) in
    let b = length-append (gate w e) (flat_map (gate w) es) in
    omega arith

start_long : (f : Formula) (e : Norm) → IsTrue (is_yesterday e) → length (start f e) ≡ 1
start_long f (NYesterday a) h = refl
start_long f (NWeakYesterday a) h = refl
start_long f e h = cc

pub is_yesterday_at : (f : Formula) (k : ℕ) → k < length (yesterdays f) → IsTrue (is_yesterday (get_or (yesterdays f) k (NConst false)))
is_yesterday_at f k lt =
    (Contains-from_filter is_yesterday (closure f) (get_or (yesterdays f) k (NConst false)) (Contains-get_or (yesterdays f) k (NConst false) lt)).1

pub start_one : (f : Formula) (k : ℕ) → k < length (yesterdays f) → length (start f (get_or (yesterdays f) k (NConst false))) ≡ 1
start_one f k lt = start_long f (get_or (yesterdays f) k (NConst false)) (is_yesterday_at f k lt)

-- fulfilments
fulfilled_by : (f : Formula) (j l m : ℕ) (b : Bool) → nat_lt l j ≡ b → length (fulfilled_clauses f (suc j) l m) ≡ (if b then 3 else 2)
fulfilled_by f j l m true e = rw e refl
fulfilled_by f j l m false e = rw e refl

fulfilled_far : (i l : ℕ) → suc l < i → fulfilled_size i l ≡ 3
fulfilled_far i l lt = ap (λ b. if b then 3 else 2) (lt-ltb (l + 1) i (omega arith))

fulfilled_near : (i l : ℕ) → i ≤ suc l → fulfilled_size i l ≡ 2
fulfilled_near i l le = ap (λ b. if b then 3 else 2) (le-ltb (l + 1) i (omega arith))

pub fulfilled_long : (f : Formula) (i l m : ℕ) → l < i → length (fulfilled_clauses f i l m) ≡ fulfilled_size i l
fulfilled_long f zero l m lt = absurd (omega arith)
fulfilled_long f (suc j) l m lt = elim (cases_lt l j) [
  | inl before ↦ fulfilled_by f j l m true (lt-ltb l j before) ∙ sym (fulfilled_far (suc j) l (omega arith))
  | inr last ↦ fulfilled_by f j l m false (le-ltb l j last) ∙ sym (fulfilled_near (suc j) l (omega arith))
]

-- halves of products
square_more : (n : ℕ) → suc n * (suc n - 1) ≡ n * (n - 1) + n * 2
square_more zero = omega arith
square_more (suc m) =
    let a : suc (suc m) - 1 ≡ suc m = omega arith in
    let b : suc m - 1 ≡ m = omega arith in
    rw (a, b) (omega arith)

half_more : (n : ℕ) → suc n * (suc n - 1) / 2 ≡ n * (n - 1) / 2 + n
half_more n = let e = square_more n in omega arith

module _ (f : Formula) where
  pub length-places : (i l : ℕ) → length (below (length (carried f)) (place_clauses f i l)) ≡ length (carried f) * 4
  length-places i l = length-even 4 (length (carried f)) (place_clauses f i l) (λ k lt. refl)

  pub length-closing : (kind : Kind) (i l : ℕ) → l < i → length (closing_clauses f kind i l) ≡ closing_size kind (sizes_of f kind) i l
  length-closing Kinds.Infinite i l lt =
      let e = length (eventualities f) in
      let a = length-even (fulfilled_size i l) e (fulfilled_clauses f i l) (λ m some. fulfilled_long f i l m lt) in
      let b = length-even 1 e (λ m. loop_clause f i l m ∷ []) (λ m some. refl) in
      let c = length-append (below e (fulfilled_clauses f i l)) ((Minus (LoopTo l i) ∷ Plus (Equal l i) ∷ []) ∷ below e (λ m. loop_clause f i l m ∷ [])) in
      omega arith
  length-closing Kinds.Finite i l lt = refl

  length-pair : (kind : Kind) (i l : ℕ) → l < i → length (pair_clauses f kind i l) ≡ 4 * length (carried f) + 1 + closing_size kind (sizes_of f kind) i l
  length-pair kind i l lt =
      let a = length-places i l in
      let b = length-closing kind i l lt in
      let c = length-append (below (length (carried f)) (place_clauses f i l)) (equal_clause f i l ∷ closing_clauses f kind i l) in
      omega arith

  pub pair_far : (kind : Kind) (i l : ℕ) → suc l < i → length (pair_clauses f kind i l) ≡ pair_size kind (sizes_of f kind)
  pair_far Kinds.Infinite i l lt =
      let a = length-pair Kinds.Infinite i l (omega arith) in
      let b = ap (λ n. length (eventualities f) * n) (fulfilled_far i l lt) in
      let c = length-carried f in
      omega arith
  pair_far Kinds.Finite i l lt =
      let a = length-pair Kinds.Finite i l (omega arith) in
      let c = length-carried f in
      omega arith

  pub pair_near : (kind : Kind) (i l : ℕ) → suc l ≡ i → length (pair_clauses f kind i l) ≡ near_size kind (sizes_of f kind)
  pair_near Kinds.Infinite i l lt =
      let a = length-pair Kinds.Infinite i l (omega arith) in
      let b = ap (λ n. length (eventualities f) * n) (fulfilled_near i l (omega arith)) in
      let c = length-carried f in
      omega arith
  pair_near Kinds.Finite i l lt =
      let a = length-pair Kinds.Finite i l (omega arith) in
      let c = length-carried f in
      omega arith

  -- the parts
  pub length-chain_part : (i : ℕ) → length (chain_part i) ≡ chain_size i
  length-chain_part zero = refl
  length-chain_part (suc j) = refl

  pub length-gates_part : (i : ℕ) → length (gates_part f i) ≡ length (gates_part f 0)
  length-gates_part i = gates_long (letter_of f i) (letter_of f 0) (closure f)

  pub length-starts : length (flat_map (start f) (yesterdays f)) ≡ length (yesterdays f) * 1
  length-starts = length-flat 1 (start f) (yesterdays f) (NConst false) (start_one f)

  pub length-nexts : (j : ℕ) → length (flat_map (next_clauses f j) (nexts f)) ≡ length (nexts f) * 2
  length-nexts j = length-flat 2 (next_clauses f j) (nexts f) (NConst false) (λ k lt. refl)

  pub length-yesterdays : (j : ℕ) → length (flat_map (before_clauses f j) (yesterdays f)) ≡ length (yesterdays f) * 2
  length-yesterdays j = length-flat 2 (before_clauses f j) (yesterdays f) (NConst false) (λ k lt. refl)

  pub length-links_part : (kind : Kind) (i : ℕ) → length (links_part f i) ≡ link_size (sizes_of f kind) i
  length-links_part kind zero = let a = length-starts in omega arith
  length-links_part kind (suc j) =
      let a = length-nexts j in
      let b = length-yesterdays j in
      let c = length-append (flat_map (next_clauses f j) (nexts f)) (flat_map (before_clauses f j) (yesterdays f)) in
      omega arith

  pub length-pairs_part : (kind : Kind) (i : ℕ) → length (pairs_part f kind i) ≡ pairs_size kind (sizes_of f kind) i
  length-pairs_part kind zero = refl
  length-pairs_part kind (suc j) =
      let a = length-even (pair_size kind (sizes_of f kind)) j (pair_clauses f kind (suc j)) (λ l lt. pair_far kind (suc j) l (omega arith)) in
      let b = pair_near kind (suc j) j refl in
      let c = length-append (below j (pair_clauses f kind (suc j))) (pair_clauses f kind (suc j) j) in
      omega arith

  pub length-acceptance_part : (kind : Kind) (i : ℕ) → length (acceptance_part f kind i) ≡ accept_size kind (sizes_of f kind)
  length-acceptance_part Kinds.Infinite i = let a = length-map (nexts f) (λ t. Minus (EmptyAt i) ∷ Minus (letter_of f i t) ∷ []) in omega arith
  length-acceptance_part Kinds.Finite i = length-map (filter is_strong_next (closure f)) (λ t. Minus (Accepted i) ∷ Minus (letter_of f i t) ∷ [])

  pub seen_long : (i l : ℕ) → length (seen_clauses f i l) ≡ 1 + length (eventualities f)
  seen_long i l =
      let a = length-even 1 (length (eventualities f)) (λ m. (Minus (Equal l i) ∷ Minus (Fulfilled l i (suc m)) ∷ Plus (Seen i (suc m)) ∷ []) ∷ [])
      (λ m some. refl) in
      omega arith

  pub news_long : (i j : ℕ) → length (below (length (eventualities f)) (new_clauses f i j)) ≡ length (eventualities f) * 3
  news_long i j = length-even 3 (length (eventualities f)) (new_clauses f i j) (λ m some. refl)

  pub pruned_long : (i j : ℕ) → length (below (length (eventualities f)) (new_clauses f i j) ++ pruned_clause f i j ∷ []) ≡ 1 + 3 * length (eventualities f)
  pruned_long i j =
      let a = news_long i j in
      let b = length-append (below (length (eventualities f)) (new_clauses f i j)) (pruned_clause f i j ∷ []) in
      omega arith

  pub all_seen_long : (i : ℕ) → length (below i (seen_clauses f i)) ≡ i * (1 + length (eventualities f))
  all_seen_long i = length-even (1 + length (eventualities f)) i (seen_clauses f i) (λ l lt. seen_long i l)

  pub length-pruning_part : (kind : Kind) (i : ℕ) → length (pruning_part f kind i) ≡ i * prune_size kind (sizes_of f kind)
  length-pruning_part Kinds.Infinite i =
      let a = all_seen_long i in
      let b = length-even (1 + 3 * length (eventualities f)) i (λ j. below (length (eventualities f)) (new_clauses f i j) ++ pruned_clause f i j ∷ [])
      (λ j lt. pruned_long i j) in
      let c = length-append (below i (seen_clauses f i)) (below i (λ j. below (length (eventualities f)) (new_clauses f i j) ++ pruned_clause f i j ∷ [])) in
      omega arith
  length-pruning_part Kinds.Finite i = length-even 1 i (λ j. (Minus Unpruned ∷ Minus (Equal j i) ∷ []) ∷ []) (λ j lt. refl)

  pub length-states : (kind : Kind) (i : ℕ) → length (state_clauses f i) ≡ state_size (sizes_of f kind) i
  length-states kind i =
      let a = length-chain_part i in
      let b = length-gates_part i in
      let c = length-links_part kind i in
      let ab = length-append (chain_part i) (gates_part f i ++ links_part f i) in
      let bc = length-append (gates_part f i) (links_part f i) in
      omega arith

  -- a step is its states and what comes behind them
  pub step_states : (kind : Kind) (i : ℕ)
      → step_clauses f kind i ≡ state_clauses f i ++ (pairs_part f kind i ++ (acceptance_part f kind i ++ pruning_part f kind i))
  step_states kind i =
      let late = pairs_part f kind i ++ (acceptance_part f kind i ++ pruning_part f kind i) in
      sym
      (append_assoc (chain_part i) (gates_part f i ++ links_part f i) late ∙ ap (λ z. chain_part i ++ z) (append_assoc (gates_part f i) (links_part f i) late))

  length-step : (kind : Kind) (i : ℕ) → length (step_clauses f kind i) ≡ step_size kind (sizes_of f kind) i
  length-step kind i =
      let s = length-states kind i in
      let d = length-pairs_part kind i in
      let e = length-acceptance_part kind i in
      let g = length-pruning_part kind i in
      let all = ap length (step_states kind i) in
      let sd = length-append (state_clauses f i) (pairs_part f kind i ++ (acceptance_part f kind i ++ pruning_part f kind i)) in
      let de = length-append (pairs_part f kind i) (acceptance_part f kind i ++ pruning_part f kind i) in
      let ef = length-append (acceptance_part f kind i) (pruning_part f kind i) in
      omega arith

before_one : (kind : Kind) (s : Sizes) → before_step kind s 1 ≡ before_step kind s 0 + step_size kind s 0
before_one kind s = omega arith

-- a step more
pub before_more : (kind : Kind) (s : Sizes) (i : ℕ) → before_step kind s (suc i) ≡ before_step kind s i + step_size kind s i
before_more kind s zero = before_one kind s
before_more kind s (suc m) =
    let pairs = ap (λ n. n * pair_size kind s) (half_more m) in
    let prunes = ap (λ n. n * prune_size kind s) (half_more (suc m)) in
    omega arith

pub length-steps : (f : Formula) (kind : Kind) (n : ℕ) → length (below n (step_clauses f kind)) ≡ before_step kind (sizes_of f kind) n
length-steps f kind zero = refl
length-steps f kind (suc n) =
    let ih = length-steps f kind n in
    let one = length-step f kind n in
    let a = length-append (below n (step_clauses f kind)) (step_clauses f kind n) in
    let more = before_more kind (sizes_of f kind) n in
    omega arith

pub before_next : (kind : Kind) (s : Sizes) (i : ℕ) → before_step kind s (i + 1) ≡ before_step kind s i + step_size kind s i
before_next kind s i = ap (before_step kind s) (add-one i) ∙ before_more kind s i
