-- What the clauses take from the entries: numbers, and the gates of entries with the counts of their clauses.
use Rattle.std.specs.Prelude.{ℕ, zero, suc, ◌+◌, ◌-◌, Bool, true, false, List, [], ◌∷◌, length, slice_index_or, cond, nat_lt, if◌then◌else◌}
use Rattle.ltl_syntax.specs.Formula.{Formula}
use Rattle.ltl_closure.specs.Norm.{Norm, NConst, NWeakNext, NWeakYesterday}
use Rattle.ltl_closure.specs.Closure.{closure, argument}
use Rattle.ltl_closure.specs.Entries.{place_in}
use Rattle.ltl_closure.specs.Run.{request_of, right_of}
use Rattle.ltl_closure.specs.declared.entry.Entry.{Entry}
use Rattle.ltl_closure.specs.declared.entry.Entry.TheVariants as Is
use Rattle.enc_layout.specs.Letters.{Unpruned, EntryAt, Repeated, Seen, Equal, Differs, Fulfilled, New, below}
use Rattle.enc_layout.specs.Clauses.{Clause, Plus, Minus, strong_gate, weak_gate, eventuality}

-- the number of a request's argument, and of any other entry its own
abbrev pub argument_by : ℕ → Entry → ℕ
argument_by t (Is.Next a w) = a
argument_by t (Is.Yesterday a w) = a
argument_by t x = t

-- whether the entry is a weak request
abbrev pub weak_by : Entry → Bool
weak_by (Is.Next a w) = w
weak_by (Is.Yesterday a w) = w
weak_by x = false

-- the numbers of an entry's operands and of its request; one that it does not have is its own
abbrev pub left_by : ℕ → Entry → ℕ
left_by t (Is.NotLetter p) = p
left_by t (Is.And a b) = a
left_by t (Is.Or a b) = a
left_by t (Is.Until a b r) = a
left_by t (Is.Since a b r) = a
left_by t (Is.Release a b r) = a
left_by t (Is.Trigger a b r) = a
left_by t x = t

abbrev pub right_by : ℕ → Entry → ℕ
right_by t (Is.And a b) = b
right_by t (Is.Or a b) = b
right_by t (Is.Until a b r) = b
right_by t (Is.Since a b r) = b
right_by t (Is.Release a b r) = b
right_by t (Is.Trigger a b r) = b
right_by t x = t

abbrev pub request_by : ℕ → Entry → ℕ
request_by t (Is.Until a b r) = r
request_by t (Is.Since a b r) = r
request_by t (Is.Release a b r) = r
request_by t (Is.Trigger a b r) = r
request_by t x = t

-- whether the normal form is a weak request
abbrev pub is_weak : Norm → Bool
is_weak (NWeakNext a) = true
is_weak (NWeakYesterday a) = true
is_weak e = false

-- the number of the member of the list at this index, and that of its argument
abbrev pub number_at : Formula → List Norm → ℕ → ℕ
number_at f es k = place_in (closure f) (slice_index_or es k (NConst false))

abbrev pub argument_at : Formula → List Norm → ℕ → ℕ
argument_at f es k = place_in (closure f) (argument (slice_index_or es k (NConst false)))

-- whether it is a weak request
abbrev pub weak_at : Formula → List Norm → ℕ → Bool
weak_at f es k = is_weak (slice_index_or es k (NConst false))

-- how many entries there are
abbrev pub entry_count : Formula → ℕ
entry_count f = length (closure f)

-- the number of the right operand of eventuality m + 1, and of its request
abbrev pub right_number : Formula → ℕ → ℕ
right_number f m = place_in (closure f) (right_of (eventuality f m))

abbrev pub request_number : Formula → ℕ → ℕ
request_number f m = place_in (closure f) (request_of (eventuality f m))

-- the gate of entry number g at step i
abbrev pub entry_gate : ℕ → ℕ → Entry → List Clause
entry_gate i g Is.True = (Plus (EntryAt i g) ∷ []) ∷ []
entry_gate i g Is.False = (Minus (EntryAt i g) ∷ []) ∷ []
entry_gate i g (Is.Letter n) = []
entry_gate i g (Is.Fresh n) = []
entry_gate i g (Is.NotLetter p) = (Plus (EntryAt i g) ∷ Plus (EntryAt i p) ∷ []) ∷ (Minus (EntryAt i g) ∷ Minus (EntryAt i p) ∷ []) ∷ []
entry_gate i g (Is.And a b) =
    (Minus (EntryAt i g) ∷ Plus (EntryAt i a) ∷ []) ∷ (Minus (EntryAt i g) ∷ Plus (EntryAt i b) ∷ [])
    ∷ (Plus (EntryAt i g) ∷ Minus (EntryAt i a) ∷ Minus (EntryAt i b) ∷ []) ∷ []
entry_gate i g (Is.Or a b) =
    (Plus (EntryAt i g) ∷ Minus (EntryAt i a) ∷ []) ∷ (Plus (EntryAt i g) ∷ Minus (EntryAt i b) ∷ [])
    ∷ (Minus (EntryAt i g) ∷ Plus (EntryAt i a) ∷ Plus (EntryAt i b) ∷ []) ∷ []
entry_gate i g (Is.Until a b r) = strong_gate (EntryAt i g) (EntryAt i a) (EntryAt i b) (EntryAt i r)
entry_gate i g (Is.Since a b r) = strong_gate (EntryAt i g) (EntryAt i a) (EntryAt i b) (EntryAt i r)
entry_gate i g (Is.Release a b r) = weak_gate (EntryAt i g) (EntryAt i a) (EntryAt i b) (EntryAt i r)
entry_gate i g (Is.Trigger a b r) = weak_gate (EntryAt i g) (EntryAt i a) (EntryAt i b) (EntryAt i r)
entry_gate i g (Is.Next a w) = []
entry_gate i g (Is.Yesterday a w) = []

-- how many clauses it has
abbrev pub gate_size : Entry → ℕ
gate_size Is.True = 1
gate_size Is.False = 1
gate_size (Is.Letter n) = 0
gate_size (Is.Fresh n) = 0
gate_size (Is.NotLetter p) = 2
gate_size (Is.And a b) = 3
gate_size (Is.Or a b) = 3
gate_size (Is.Until a b r) = 4
gate_size (Is.Since a b r) = 4
gate_size (Is.Release a b r) = 4
gate_size (Is.Trigger a b r) = 4
gate_size (Is.Next a w) = 0
gate_size (Is.Yesterday a w) = 0

-- those of the first k entries
abbrev pub gates_before : List Entry → ℕ → ℕ
gates_before entries zero = 0
gates_before entries (suc k) = gates_before entries k + gate_size (slice_index_or entries k Is.True)

-- how many of the first k next requests are strong
abbrev pub strong_before : List Norm → ℕ → ℕ
strong_before es zero = 0
strong_before es (suc k) = strong_before es k + cond (is_weak (slice_index_or es k (NConst false))) 0 1

-- place q of the carries of states l and i, which holds the value of entry t
abbrev pub place_by : ℕ → ℕ → ℕ → ℕ → List Clause
place_by i l q t =
    (Minus (Differs l i q) ∷ Plus (EntryAt l t) ∷ Plus (EntryAt i t) ∷ [])
    ∷ (Minus (Differs l i q) ∷ Minus (EntryAt l t) ∷ Minus (EntryAt i t) ∷ [])
    ∷ (Minus (Equal l i) ∷ Minus (EntryAt l t) ∷ Plus (EntryAt i t) ∷ [])
    ∷ (Minus (Equal l i) ∷ Plus (EntryAt l t) ∷ Minus (EntryAt i t) ∷ [])
    ∷ []

-- eventuality m, whose right operand is entry b, is fulfilled after state l and up to state i
abbrev pub fulfilled_by : ℕ → ℕ → ℕ → ℕ → List Clause
fulfilled_by i l m b =
    if nat_lt (l + 1) i
    then (
    (Plus (Fulfilled l i m) ∷ Minus (EntryAt i b) ∷ [])
    ∷ (Plus (Fulfilled l i m) ∷ Minus (Fulfilled l (i - 1) m) ∷ [])
    ∷ (Minus (Fulfilled l i m) ∷ Plus (EntryAt i b) ∷ Plus (Fulfilled l (i - 1) m) ∷ [])
    ∷ [])
    else (
    (Minus (Fulfilled l i m) ∷ Plus (EntryAt i b) ∷ [])
    ∷ (Plus (Fulfilled l i m) ∷ Minus (EntryAt i b) ∷ [])
    ∷ [])

-- what equal carries at l and i say of state i, where there are e eventualities
abbrev pub seen_pair : ℕ → ℕ → ℕ → List Clause
seen_pair e i l =
    (Minus (Equal l i) ∷ Plus (Repeated i) ∷ []) ∷ below e (λ m. (Minus (Equal l i) ∷ Minus (Fulfilled l i (suc m)) ∷ Plus (Seen i (suc m)) ∷ []) ∷ [])

-- what is new between j and i of eventuality m, whose request is entry r
abbrev pub new_by : ℕ → ℕ → ℕ → ℕ → List Clause
new_by i j m r =
    (Minus (New j i m) ∷ Plus (EntryAt i r) ∷ []) ∷ (Minus (New j i m) ∷ Plus (Fulfilled j i m) ∷ []) ∷ (Minus (New j i m) ∷ Minus (Seen j m) ∷ []) ∷ []

-- where no state is pruned, a carry that comes a third time has something new of e eventualities
abbrev pub pruned_row : ℕ → ℕ → ℕ → Clause
pruned_row e i j = Minus Unpruned ∷ Minus (Equal j i) ∷ Minus (Repeated j) ∷ below e (λ m. Plus (New j i (suc m)) ∷ [])
