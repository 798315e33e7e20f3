-- The clause list: over what letters stand for, step by step, and then over their numbers. The clauses of a step stand in six parts. The
-- gates are Tseitin's, and what closes and prunes a run follows Geatti, Gigante and Montanari (2019).
use Rattle.std.specs.Prelude.{ℕ, zero, suc, Bool, true, false, not, ◌||◌, List, [], ◌∷◌, ◌++◌, length, map, filter, flat_map, slice_index_or, nat_lt}
use Rattle.std.specs.Prelude.{if◌then◌else◌}
use Rattle.ltl_syntax.specs.declared.node.Kind.{Kind}
use Rattle.ltl_syntax.specs.declared.node.Kind.TheVariants as Kinds
use Rattle.ltl_syntax.specs.Formula.{Formula}
use Rattle.cnf_base.specs.declared.literal.Literal.{Literal as Signed}
use Rattle.ltl_closure.specs.Norm.{Norm, NConst, NLetter, NNotLetter, NAnd, NOr, NNext, NWeakNext, NYesterday, NWeakYesterday, NUntil, NRelease, NSince}
use Rattle.ltl_closure.specs.Norm.{NTrigger, pos_of}
use Rattle.ltl_closure.specs.Closure.{closure, nexts, yesterdays, eventualities, argument}
use Rattle.ltl_closure.specs.Entries.{place_in, ClosureValue}
use Rattle.ltl_closure.specs.Run.{request_of, right_of}
use Rattle.enc_layout.specs.Letters.{Meaning, Unpruned, Here, Accepted, EmptyAt, Repeated, EntryAt, Seen, Equal, LoopTo, Differs, Fulfilled, New, Counts}
use Rattle.enc_layout.specs.Letters.{LayoutValue, below, number_of}

-- a letter, or its negation
pub data Literal : Type 0 where
  Plus Minus : Meaning → Literal

-- one of its literals is true
abbrev pub Clause : Type 0
Clause = List Literal

-- the value of a literal, where v gives those of the letters
abbrev pub literal_true : (Meaning → Bool) → Literal → Bool
literal_true v (Plus p) = v p
literal_true v (Minus p) = not (v p)

-- that of a clause
abbrev pub clause_true : (Meaning → Bool) → Clause → Bool
clause_true v [] = false
clause_true v (l ∷ ls) = literal_true v l || clause_true v ls

-- the letter of entry e at step i
abbrev pub letter_of : Formula → ℕ → Norm → Meaning
letter_of f i e = EntryAt i (place_in (closure f) e)

-- the entries whose values are the carry: the next requests, then the arguments of the yesterday requests
abbrev pub carried : Formula → List Norm
carried f = nexts f ++ map argument (yesterdays f)

-- the letter of the value at place q + 1 of the carry of step i
abbrev pub carried_letter : Formula → ℕ → ℕ → Meaning
carried_letter f i q = letter_of f i (slice_index_or (carried f) q (NConst false))

-- eventuality m + 1
abbrev pub eventuality : Formula → ℕ → Norm
eventuality f m = slice_index_or (eventualities f) m (NConst false)

-- the counts of a formula's closure
abbrev pub counts : Formula → Counts
counts f = record { entries = length (closure f); places = length (carried f); eventualities = length (eventualities f) }

-- the layout of a closure
abbrev pub layout_of : ClosureValue → LayoutValue
layout_of c = record { kind = c.kind; counts = counts c.formula }

-- The chain. A state is there only where the one before it is
abbrev pub chain_part : ℕ → List Clause
chain_part zero = []
chain_part (suc j) = (Minus (Here (suc j)) ∷ Plus (Here j) ∷ []) ∷ []

-- The gates of the entries.
-- g is: b, or a and r
abbrev pub strong_gate : Meaning → Meaning → Meaning → Meaning → List Clause
strong_gate g a b r =
    (Plus g ∷ Minus b ∷ []) ∷ (Plus g ∷ Minus a ∷ Minus r ∷ []) ∷ (Minus g ∷ Plus b ∷ Plus a ∷ []) ∷ (Minus g ∷ Plus b ∷ Plus r ∷ []) ∷ []

-- g is: b, and a or r
abbrev pub weak_gate : Meaning → Meaning → Meaning → Meaning → List Clause
weak_gate g a b r =
    (Minus g ∷ Plus b ∷ []) ∷ (Minus g ∷ Plus a ∷ Plus r ∷ []) ∷ (Plus g ∷ Minus b ∷ Minus a ∷ []) ∷ (Plus g ∷ Minus b ∷ Minus r ∷ []) ∷ []

-- the gate of an entry, where v gives the letters of the entries
abbrev pub gate : (Norm → Meaning) → Norm → List Clause
gate v (NConst true) = (Plus (v (NConst true)) ∷ []) ∷ []
gate v (NConst false) = (Minus (v (NConst false)) ∷ []) ∷ []
gate v (NLetter p) = []
gate v (NNotLetter p) = (Plus (v (NNotLetter p)) ∷ Plus (v (NLetter p)) ∷ []) ∷ (Minus (v (NNotLetter p)) ∷ Minus (v (NLetter p)) ∷ []) ∷ []
gate v (NAnd a b) =
    (Minus (v (NAnd a b)) ∷ Plus (v a) ∷ []) ∷ (Minus (v (NAnd a b)) ∷ Plus (v b) ∷ []) ∷ (Plus (v (NAnd a b)) ∷ Minus (v a) ∷ Minus (v b) ∷ []) ∷ []
gate v (NOr a b) =
    (Plus (v (NOr a b)) ∷ Minus (v a) ∷ []) ∷ (Plus (v (NOr a b)) ∷ Minus (v b) ∷ []) ∷ (Minus (v (NOr a b)) ∷ Plus (v a) ∷ Plus (v b) ∷ []) ∷ []
gate v (NNext a) = []
gate v (NWeakNext a) = []
gate v (NYesterday a) = []
gate v (NWeakYesterday a) = []
gate v (NUntil a b) = strong_gate (v (NUntil a b)) (v a) (v b) (v (NNext (NUntil a b)))
gate v (NRelease a b) = weak_gate (v (NRelease a b)) (v a) (v b) (v (NWeakNext (NRelease a b)))
gate v (NSince a b) = strong_gate (v (NSince a b)) (v a) (v b) (v (NYesterday (NSince a b)))
gate v (NTrigger a b) = weak_gate (v (NTrigger a b)) (v a) (v b) (v (NWeakYesterday (NTrigger a b)))

-- the gates of step i
abbrev pub gates_part : Formula → ℕ → List Clause
gates_part f i = flat_map (gate (letter_of f i)) (closure f)

-- The links. The root and the yesterday requests at state 0, and the requests between neighbours.
-- a yesterday request is false at state 0, a weak one true
abbrev pub start : Formula → Norm → List Clause
start f (NYesterday a) = (Minus (Here 0) ∷ Minus (letter_of f 0 (NYesterday a)) ∷ []) ∷ []
start f (NWeakYesterday a) = (Minus (Here 0) ∷ Plus (letter_of f 0 (NWeakYesterday a)) ∷ []) ∷ []
start f e = []

-- next request t of step j has the value of its argument at step j + 1
abbrev pub next_clauses : Formula → ℕ → Norm → List Clause
next_clauses f j t =
    (Minus (Here (suc j)) ∷ Minus (letter_of f j t) ∷ Plus (letter_of f (suc j) (argument t)) ∷ [])
    ∷ (Minus (Here (suc j)) ∷ Plus (letter_of f j t) ∷ Minus (letter_of f (suc j) (argument t)) ∷ [])
    ∷ []

-- yesterday request t of step j + 1 has the value of its argument at step j
abbrev pub before_clauses : Formula → ℕ → Norm → List Clause
before_clauses f j t =
    (Minus (Here (suc j)) ∷ Minus (letter_of f (suc j) t) ∷ Plus (letter_of f j (argument t)) ∷ [])
    ∷ (Minus (Here (suc j)) ∷ Plus (letter_of f (suc j) t) ∷ Minus (letter_of f j (argument t)) ∷ [])
    ∷ []

-- the links of a step to the one before it
abbrev pub links_part : Formula → ℕ → List Clause
links_part f zero = (Minus (Here 0) ∷ Plus (letter_of f 0 (pos_of f)) ∷ []) ∷ flat_map (start f) (yesterdays f)
links_part f (suc j) = flat_map (next_clauses f j) (nexts f) ++ flat_map (before_clauses f j) (yesterdays f)

-- The pairs. What the letters of the pair l, i mean.
-- place q + 1 of the carries: where they differ, and what equal carries say there
abbrev pub place_clauses : Formula → ℕ → ℕ → ℕ → List Clause
place_clauses f i l q =
    (Minus (Differs l i (suc q)) ∷ Plus (carried_letter f l q) ∷ Plus (carried_letter f i q) ∷ [])
    ∷ (Minus (Differs l i (suc q)) ∷ Minus (carried_letter f l q) ∷ Minus (carried_letter f i q) ∷ [])
    ∷ (Minus (Equal l i) ∷ Minus (carried_letter f l q) ∷ Plus (carried_letter f i q) ∷ [])
    ∷ (Minus (Equal l i) ∷ Plus (carried_letter f l q) ∷ Minus (carried_letter f i q) ∷ [])
    ∷ []

-- the carries are equal, or they differ at some place
abbrev pub equal_clause : Formula → ℕ → ℕ → Clause
equal_clause f i l = Plus (Equal l i) ∷ below (length (carried f)) (λ q. Plus (Differs l i (suc q)) ∷ [])

-- eventuality m + 1 is fulfilled at step i, or was after step l and before it
abbrev pub fulfilled_clauses : Formula → ℕ → ℕ → ℕ → List Clause
fulfilled_clauses f zero l m = []
fulfilled_clauses f (suc j) l m =
    if nat_lt l j
    then (
    (Plus (Fulfilled l (suc j) (suc m)) ∷ Minus (letter_of f (suc j) (right_of (eventuality f m))) ∷ [])
    ∷ (Plus (Fulfilled l (suc j) (suc m)) ∷ Minus (Fulfilled l j (suc m)) ∷ [])
    ∷ (Minus (Fulfilled l (suc j) (suc m)) ∷ Plus (letter_of f (suc j) (right_of (eventuality f m))) ∷ Plus (Fulfilled l j (suc m)) ∷ [])
    ∷ [])
    else (
    (Minus (Fulfilled l (suc j) (suc m)) ∷ Plus (letter_of f (suc j) (right_of (eventuality f m))) ∷ [])
    ∷ (Plus (Fulfilled l (suc j) (suc m)) ∷ Minus (letter_of f (suc j) (right_of (eventuality f m))) ∷ [])
    ∷ [])

-- what a loop from i to l asks of eventuality m + 1
abbrev pub loop_clause : Formula → ℕ → ℕ → ℕ → Clause
loop_clause f i l m = Minus (LoopTo l i) ∷ Minus (letter_of f i (request_of (eventuality f m))) ∷ Plus (Fulfilled l i (suc m)) ∷ []

-- what the letters of fulfilment and of the loop mean, which the infinite kind alone has
abbrev pub closing_clauses : Formula → Kind → ℕ → ℕ → List Clause
closing_clauses f Kinds.Infinite i l =
    below (length (eventualities f)) (fulfilled_clauses f i l)
    ++ (Minus (LoopTo l i) ∷ Plus (Equal l i) ∷ [])
    ∷ below (length (eventualities f)) (λ m. loop_clause f i l m ∷ [])
closing_clauses f Kinds.Finite i l = []

-- the clauses of a pair
abbrev pub pair_clauses : Formula → Kind → ℕ → ℕ → List Clause
pair_clauses f kind i l = below (length (carried f)) (place_clauses f i l) ++ equal_clause f i l ∷ closing_clauses f kind i l

-- those of each pair of step i
abbrev pub pairs_part : Formula → Kind → ℕ → List Clause
pairs_part f kind i = below i (pair_clauses f kind i)

-- Acceptance. By what rule a run is accepted.
-- no next request is true, or the run closes to some earlier state
abbrev pub accepted_clause : ℕ → Clause
accepted_clause i = Minus (Accepted i) ∷ Plus (EmptyAt i) ∷ below i (λ l. Plus (LoopTo l i) ∷ [])

-- whether it is a request that the end of a finite trace refuses
abbrev pub is_strong_next : Norm → Bool
is_strong_next (NNext a) = true
is_strong_next e = false

-- acceptance at step i
abbrev pub acceptance_part : Formula → Kind → ℕ → List Clause
acceptance_part f Kinds.Infinite i = accepted_clause i ∷ map (λ t. Minus (EmptyAt i) ∷ Minus (letter_of f i t) ∷ []) (nexts f)
acceptance_part f Kinds.Finite i = map (λ t. Minus (Accepted i) ∷ Minus (letter_of f i t) ∷ []) (filter is_strong_next (closure f))

-- Pruning. Which pairs prune.
-- what equal carries at l and i say of the repeats and the eventualities seen at i
abbrev pub seen_clauses : Formula → ℕ → ℕ → List Clause
seen_clauses f i l =
    (Minus (Equal l i) ∷ Plus (Repeated i) ∷ [])
    ∷ below (length (eventualities f)) (λ m. (Minus (Equal l i) ∷ Minus (Fulfilled l i (suc m)) ∷ Plus (Seen i (suc m)) ∷ []) ∷ [])

-- what is new of eventuality m + 1 between j and i
abbrev pub new_clauses : Formula → ℕ → ℕ → ℕ → List Clause
new_clauses f i j m =
    (Minus (New j i (suc m)) ∷ Plus (letter_of f i (request_of (eventuality f m))) ∷ [])
    ∷ (Minus (New j i (suc m)) ∷ Plus (Fulfilled j i (suc m)) ∷ [])
    ∷ (Minus (New j i (suc m)) ∷ Minus (Seen j (suc m)) ∷ [])
    ∷ []

-- where no state is pruned, a carry that comes a third time has something new
abbrev pub pruned_clause : Formula → ℕ → ℕ → Clause
pruned_clause f i j =
    Minus Unpruned ∷ Minus (Equal j i) ∷ Minus (Repeated j) ∷ below (length (eventualities f)) (λ m. Plus (New j i (suc m)) ∷ [])

-- pruning at step i
abbrev pub pruning_part : Formula → Kind → ℕ → List Clause
pruning_part f Kinds.Infinite i = below i (seen_clauses f i) ++ below i (λ j. below (length (eventualities f)) (new_clauses f i j) ++ pruned_clause f i j ∷ [])
pruning_part f Kinds.Finite i = below i (λ j. (Minus Unpruned ∷ Minus (Equal j i) ∷ []) ∷ [])

-- what the letters of the states, those of the pairs, and those of pruning say at step i
abbrev pub state_clauses : Formula → ℕ → List Clause
state_clauses f i = chain_part i ++ (gates_part f i ++ links_part f i)

abbrev pub loop_clauses : Formula → Kind → ℕ → List Clause
loop_clauses f kind i = pairs_part f kind i ++ acceptance_part f kind i

abbrev pub prune_clauses : Formula → Kind → ℕ → List Clause
prune_clauses f kind i = pruning_part f kind i

-- the clauses of step i
abbrev pub step_clauses : Formula → Kind → ℕ → List Clause
step_clauses f kind i = chain_part i ++ (gates_part f i ++ (links_part f i ++ (pairs_part f kind i ++ (acceptance_part f kind i ++ pruning_part f kind i))))

-- those of steps 0 to d
abbrev pub clauses_through : Formula → Kind → ℕ → List Clause
clauses_through f kind d = below (suc d) (step_clauses f kind)

-- the same over the numbers of the letters, by kind and counts
abbrev pub literal_in : Kind → Counts → Literal → Signed
literal_in kind c (Plus p) = record { letter = record { 0 = number_of kind c p }; negated = false }
literal_in kind c (Minus p) = record { letter = record { 0 = number_of kind c p }; negated = true }

abbrev pub clauses_in : Kind → Counts → List Clause → List (List Signed)
clauses_in kind c cs = map (map (literal_in kind c)) cs

-- and by formula and kind
abbrev pub number_in : Formula → Kind → Meaning → ℕ
number_in f kind p = number_of kind (counts f) p

abbrev pub signed : Formula → Kind → Literal → Signed
signed f kind l = literal_in kind (counts f) l

abbrev pub signed_clauses : Formula → Kind → List Clause → List (List Signed)
signed_clauses f kind cs = clauses_in kind (counts f) cs

-- the numbered list through depth d
abbrev pub clause_list : Formula → Kind → ℕ → List (List Signed)
clause_list f kind d = signed_clauses f kind (clauses_through f kind d)
