-- The letters of the clauses: what each stands for, their order, how many there are, and their numbers.
use Rattle.std.specs.Prelude.{ℕ, zero, suc, ◌+◌, ◌-◌, ◌*◌, ◌/◌, ◌<◌, ◌≤◌, List, [], ◌∷◌, ◌++◌, ⊤}
use Rattle.ltl_syntax.specs.declared.node.Kind.{Kind}
use Rattle.ltl_syntax.specs.declared.node.Kind.TheVariants as Kinds

-- what a letter stands for
pub data Meaning : Type 0 where
  -- no state is pruned
  Unpruned : Meaning
  -- the state is there, the run up to it is accepted, none of its next requests is true, an earlier state has its carry
  Here Accepted EmptyAt Repeated : (step : ℕ) → Meaning
  -- the entry is true, the eventuality is fulfilled since some earlier state of the same carry
  EntryAt Seen : (step number : ℕ) → Meaning
  -- the two states have one carry, the run closes to the earlier one
  Equal LoopTo : (earlier step : ℕ) → Meaning
  -- the carries differ at the place, the eventuality is fulfilled after the earlier state, and it is pending and was not seen there
  Differs Fulfilled New : (earlier step number : ℕ) → Meaning

-- how many entries a closure has, how many places a carry, and how many eventualities there are
pub record Counts : Type 0 where
  pub entries : ℕ
  pub places : ℕ
  pub eventualities : ℕ

-- what a contract sees of a layout: the kind that the letters are of, and the counts
pub record LayoutValue : Type 0 where
  pub kind : Kind
  pub counts : Counts

-- no more than closures have
pub record AreFew (c : Counts) : Type 0 where
  pub few_entries : c.entries ≤ 98306
  pub few_places : c.places ≤ 196612
  pub few_eventualities : c.eventualities ≤ 98306

-- g 0, g 1 and so on up to g (n - 1), one behind the other
abbrev pub below : {X : Type 0} → ℕ → (ℕ → List X) → List X
below zero g = []
below (suc n) g = below n g ++ g n

-- the list of g 1 to g n
abbrev pub numbered : {X : Type 0} → ℕ → (ℕ → X) → List X
numbered n g = below n (λ k. g (suc k) ∷ [])

-- the letters of step i, beside those of its pairs
abbrev pub own_letters : Kind → Counts → ℕ → List Meaning
own_letters Kinds.Infinite c i = Here i ∷ Accepted i ∷ EmptyAt i ∷ Repeated i ∷ (numbered c.entries (EntryAt i) ++ numbered c.eventualities (Seen i))
own_letters Kinds.Finite c i = Here i ∷ Accepted i ∷ numbered c.entries (EntryAt i)

-- the letters of the pair l, i
abbrev pub pair_letters : Kind → Counts → ℕ → ℕ → List Meaning
pair_letters Kinds.Infinite c i l =
    Equal l i ∷ LoopTo l i ∷ (numbered c.places (Differs l i) ++ (numbered c.eventualities (Fulfilled l i) ++ numbered c.eventualities (New l i)))
pair_letters Kinds.Finite c i l = Equal l i ∷ numbered c.places (Differs l i)

-- the letters of step i: its own, and then those of its pairs with each earlier step
abbrev pub step_letters : Kind → Counts → ℕ → List Meaning
step_letters kind c i = own_letters kind c i ++ below i (pair_letters kind c i)

-- letter 1, and then those of steps 0 to d
abbrev pub all_letters : Kind → Counts → ℕ → List Meaning
all_letters kind c d = Unpruned ∷ below (suc d) (step_letters kind c)

-- how many letters a step has, beside its pairs, and how many a pair has
abbrev pub own_count : Kind → Counts → ℕ
own_count Kinds.Infinite c = 4 + c.entries + c.eventualities
own_count Kinds.Finite c = 2 + c.entries

abbrev pub pair_count : Kind → Counts → ℕ
pair_count Kinds.Infinite c = 2 + c.places + 2 * c.eventualities
pair_count Kinds.Finite c = 1 + c.places

-- how many letters there are through step d
abbrev pub letters_through : Kind → Counts → ℕ → ℕ
letters_through kind c d = 1 + (d + 1) * own_count kind c + d * (d + 1) / 2 * pair_count kind c

-- the letters through step d are within the limit
abbrev pub Fits : LayoutValue → ℕ → Type 0
Fits layout d = letters_through layout.kind layout.counts d ≤ 16777216

-- how many letters there are before those of step i
abbrev pub count_before : Kind → Counts → ℕ → ℕ
count_before kind c i = 1 + i * own_count kind c + i * (i - 1) / 2 * pair_count kind c

-- how many letters there are before those of the pair l, i
abbrev pub count_before_pair : Kind → Counts → ℕ → ℕ → ℕ
count_before_pair kind c l i = count_before kind c i + own_count kind c + l * pair_count kind c

-- the number of a letter; 0 where the kind has no such letter
abbrev pub number_of : Kind → Counts → Meaning → ℕ
number_of kind c Unpruned = 1
number_of kind c (Here i) = count_before kind c i + 1
number_of kind c (Accepted i) = count_before kind c i + 2
number_of Kinds.Infinite c (EmptyAt i) = count_before Kinds.Infinite c i + 3
number_of Kinds.Infinite c (Repeated i) = count_before Kinds.Infinite c i + 4
number_of Kinds.Infinite c (EntryAt i t) = count_before Kinds.Infinite c i + 4 + t
number_of Kinds.Infinite c (Seen i m) = count_before Kinds.Infinite c i + 4 + c.entries + m
number_of kind c (Equal l i) = count_before_pair kind c l i + 1
number_of Kinds.Infinite c (LoopTo l i) = count_before_pair Kinds.Infinite c l i + 2
number_of Kinds.Infinite c (Differs l i q) = count_before_pair Kinds.Infinite c l i + 2 + q
number_of Kinds.Infinite c (Fulfilled l i m) = count_before_pair Kinds.Infinite c l i + 2 + c.places + m
number_of Kinds.Infinite c (New l i m) = count_before_pair Kinds.Infinite c l i + 2 + c.places + c.eventualities + m
number_of Kinds.Finite c (EntryAt i t) = count_before Kinds.Finite c i + 2 + t
number_of Kinds.Finite c (Differs l i q) = count_before_pair Kinds.Finite c l i + 1 + q
number_of Kinds.Finite c (EmptyAt i) = 0
number_of Kinds.Finite c (Repeated i) = 0
number_of Kinds.Finite c (Seen i m) = 0
number_of Kinds.Finite c (LoopTo l i) = 0
number_of Kinds.Finite c (Fulfilled l i m) = 0
number_of Kinds.Finite c (New l i m) = 0

-- the kind has this letter, and its step is at most d
abbrev pub IsLetter : Kind → Counts → ℕ → Meaning → Type 0
IsLetter kind c d Unpruned = ⊤
IsLetter kind c d (Here i) = i ≤ d
IsLetter kind c d (Accepted i) = i ≤ d
IsLetter kind c d (EntryAt i t) = (i ≤ d) × (0 < t) × (t ≤ c.entries)
IsLetter kind c d (Equal l i) = (i ≤ d) × (l < i)
IsLetter kind c d (Differs l i q) = (i ≤ d) × (l < i) × (0 < q) × (q ≤ c.places)
IsLetter Kinds.Infinite c d (EmptyAt i) = i ≤ d
IsLetter Kinds.Infinite c d (Repeated i) = i ≤ d
IsLetter Kinds.Infinite c d (Seen i m) = (i ≤ d) × (0 < m) × (m ≤ c.eventualities)
IsLetter Kinds.Infinite c d (LoopTo l i) = (i ≤ d) × (l < i)
IsLetter Kinds.Infinite c d (Fulfilled l i m) = (i ≤ d) × (l < i) × (0 < m) × (m ≤ c.eventualities)
IsLetter Kinds.Infinite c d (New l i m) = (i ≤ d) × (l < i) × (0 < m) × (m ≤ c.eventualities)
IsLetter Kinds.Finite c d (EmptyAt i) = ⊥
IsLetter Kinds.Finite c d (Repeated i) = ⊥
IsLetter Kinds.Finite c d (Seen i m) = ⊥
IsLetter Kinds.Finite c d (LoopTo l i) = ⊥
IsLetter Kinds.Finite c d (Fulfilled l i m) = ⊥
IsLetter Kinds.Finite c d (New l i m) = ⊥
