-- What the laws of clauses on demand say. They are stated for both kinds of trace.
use Rattle.std.specs.Prelude.{◌≡◌, ℕ, suc, ◌<◌, nat_lt, ◌≤◌, ◌↔◌, ◌+◌, [], Bool, true, List, length, slice_get, All, Contains, Some, None}
use Rattle.ltl_syntax.specs.declared.node.Kind.{Kind}
use Rattle.ltl_syntax.specs.Formula.{Formula}
use Rattle.cnf_base.specs.declared.literal.Literal.{Literal as Signed}
use Rattle.cnf_base.specs.Known.{AreKnown}
use Rattle.cnf_base.specs.Step.{numbered}
use Rattle.cnf_base.specs.Meaning.{Satisfies}
use Rattle.ltl_closure.specs.Run.{States, IsRun, IsAccepted, IsPrunedAt, IsUnpruned, HasRun, HasAccepted, HasUnpruned}
use Rattle.ltl_run.specs.declared.run_state.Close.{Close}
use Rattle.ltl_run.specs.TraceOf.{Accepts}
use Rattle.enc_layout.specs.Letters.{Here, letters_through}
use Rattle.enc_layout.specs.Clauses.{counts, number_in, state_clauses, signed_clauses, clause_list}
use Rattle.enc_layout.specs.Assigned.{states_of, AreSatisfiable, run_question, accepted_question, unpruned_question}
use Rattle.demand.specs.Inputs.{states_list, HasStates, AreOfList}
use Rattle.demand.specs.Rows.{Rows, rows_of, row_of}
use Rattle.demand.specs.Reading.{read_row, AreRead}
use Rattle.demand.specs.Values.{value_at, difference}
use Rattle.demand.specs.Closing.{is_done, close_of}
use Rattle.demand.specs.declared.pruning.Pruned.{Pruned}
use Rattle.demand.specs.declared.pruning.Pruning.{Pruning}
use Rattle.demand.specs.Fulfilment.{last_done}
use Rattle.demand.specs.Pruning.{pruning_at, prunings_below, Prunes}

-- where the clauses of the states 0 to d and the letter of state k are true, the letters of the entries give a run of k+1 states
abbrev pub StatesRun : Type 0
StatesRun = (f : Formula) (kind : Kind) (d k : ℕ) (v : ℕ → Bool) → k ≤ d → Satisfies v (states_list f kind d) → v (number_in f kind (Here k)) ≡ true
    → IsRun f k (states_of f kind v)

-- so where they are put in, among others, and all that is put in is true
abbrev pub InputsRun : Type 0
InputsRun = (f : Formula) (kind : Kind) (d k : ℕ) (v : ℕ → Bool) (inputs : List (List Signed)) → k ≤ d → HasStates f kind d inputs
    → Satisfies v inputs → v (number_in f kind (Here k)) ≡ true → IsRun f k (states_of f kind v)

-- the clauses of the states are put in step by step
abbrev pub StatesBegin : Type 0
StatesBegin = (f : Formula) (kind : Kind) (inputs : List (List Signed)) → All (Contains inputs) (signed_clauses f kind (state_clauses f 0))
    → HasStates f kind 0 inputs

abbrev pub StatesGrow : Type 0
StatesGrow = (f : Formula) (kind : Kind) (d : ℕ) (inputs more : List (List Signed)) → HasStates f kind d inputs → All (Contains more) inputs
    → All (Contains more) (signed_clauses f kind (state_clauses f (suc d))) → HasStates f kind (suc d) more

-- the rows that are read from the letters are those of that run
abbrev pub RowsAreRead : Type 0
RowsAreRead = (f : Formula) (kind : Kind) (d i : ℕ) (v : ℕ → Bool) → i ≤ d → Satisfies v (states_list f kind d)
    → read_row f kind v i ≡ row_of f kind (states_of f kind v i)

-- what is found to close a run accepts it
abbrev pub CloseAccepts : Type 0
CloseAccepts = (f : Formula) (kind : Kind) (k : ℕ) (r : States) (close : Close) → close_of kind (rows_of f kind r) k ≡ Some close → Accepts close f r k kind

-- where nothing is found, the run is not accepted
abbrev pub NoCloseRejects : Type 0
NoCloseRejects = (f : Formula) (kind : Kind) (k : ℕ) (r : States) → close_of kind (rows_of f kind r) k ≡ None → ¬ IsAccepted f r k kind

-- where the run is accepted, something is found
abbrev pub AcceptedCloses : Type 0
AcceptedCloses = (f : Formula) (kind : Kind) (k : ℕ) (r : States) → IsAccepted f r k kind → (close : Close) × (close_of kind (rows_of f kind r) k ≡ Some close)

-- the earlier states that are found prune the state
abbrev pub PruningPrunes : Type 0
PruningPrunes = (f : Formula) (kind : Kind) (i : ℕ) (r : States) (p : Pruning) → pruning_at kind (rows_of f kind r) i ≡ Some p
    → Prunes f r i kind p × IsPrunedAt f r i kind

-- none are found exactly where the state is not pruned
abbrev pub NoPruningIsUnpruned : Type 0
NoPruningIsUnpruned = (f : Formula) (kind : Kind) (i : ℕ) (r : States) → (pruning_at kind (rows_of f kind r) i ≡ None) ↔ (¬ IsPrunedAt f r i kind)

-- and no state is found exactly where the run is unpruned
abbrev pub NoPruningsIsUnpruned : Type 0
NoPruningsIsUnpruned = (f : Formula) (kind : Kind) (k : ℕ) (r : States) → (prunings_below kind (rows_of f kind r) (k + 1) ≡ []) ↔ IsUnpruned f r k kind

-- each state that is found is one up to k, and it is pruned so
abbrev pub PruningsAreFound : Type 0
PruningsAreFound = (f : Formula) (kind : Kind) (k : ℕ) (r : States) (p : Pruned) → Contains (prunings_below kind (rows_of f kind r) (k + 1)) p
    → (p.state ≤ k) × Prunes f r p.state kind p.by × IsPrunedAt f r p.state kind

-- what is found depends on the rows of the states 0 to k alone
abbrev pub RowsDecide : Type 0
RowsDecide = (kind : Kind) (k : ℕ) (a b : Rows) → ((i : ℕ) → i ≤ k → a i ≡ b i)
    → (close_of kind a k ≡ close_of kind b k) × (prunings_below kind a (k + 1) ≡ prunings_below kind b (k + 1))

-- what is fulfilled after a state is what was fulfilled last at a later one
abbrev pub DoneIsLast : Type 0
DoneIsLast = (rows : Rows) (l i m : ℕ) → is_done rows l i m ≡ nat_lt l (last_done rows i m)

-- two lists of values have no first difference exactly where they are one
abbrev pub DifferencesTell : Type 0
DifferencesTell = (xs ys : List Bool) → (difference xs ys ≡ None) ↔ (xs ≡ ys)

-- and the first place is the one before which they agree, and at which they don't
abbrev pub DifferencesAre : Type 0
DifferencesAre = (xs ys : List Bool) (i : ℕ) → i < length xs → i < length ys → ((j : ℕ) → j < i → value_at xs j ≡ value_at ys j)
    → ¬ (value_at xs i ≡ value_at ys i) → difference xs ys ≡ Some i

-- where all that is put in is true and a rule is found in the rows that are read, there is a run that this rule accepts
abbrev pub LookingAccepts : Type 0
LookingAccepts = (f : Formula) (kind : Kind) (d k : ℕ) (v : ℕ → Bool) (inputs : List (List Signed)) (rows : Rows) (close : Close) → k ≤ d
    → HasStates f kind d inputs → Satisfies v inputs → v (number_in f kind (Here k)) ≡ true → AreRead f kind v k rows → close_of kind rows k ≡ Some close
    → IsRun f k (states_of f kind v) × Accepts close f (states_of f kind v) k kind

-- and where no state of it is found to be pruned, there is a run that is pruned nowhere
abbrev pub LookingUnpruned : Type 0
LookingUnpruned = (f : Formula) (kind : Kind) (d k : ℕ) (v : ℕ → Bool) (inputs : List (List Signed)) (rows : Rows) → k ≤ d → HasStates f kind d inputs
    → Satisfies v inputs → v (number_in f kind (Here k)) ≡ true → AreRead f kind v k rows → prunings_below kind rows (k + 1) ≡ [] → HasUnpruned f kind k

-- where clauses of the list have no assignment with a question's literals, the list has none, and no such run is there
abbrev pub NoRunByPart : Type 0
NoRunByPart = (f : Formula) (kind : Kind) (d k : ℕ) (inputs : List (List Signed)) → k ≤ d → AreOfList f kind d inputs
    → ¬ AreSatisfiable inputs (run_question f kind k) → ¬ HasRun f k

abbrev pub NoAcceptedByPart : Type 0
NoAcceptedByPart = (f : Formula) (kind : Kind) (d k : ℕ) (inputs : List (List Signed)) → k ≤ d → AreOfList f kind d inputs
    → ¬ AreSatisfiable inputs (accepted_question f kind k) → ¬ HasAccepted f kind k

abbrev pub NoUnprunedByPart : Type 0
NoUnprunedByPart = (f : Formula) (kind : Kind) (k : ℕ) (inputs : List (List Signed)) → AreOfList f kind k inputs
    → ¬ AreSatisfiable inputs (unpruned_question f kind k) → ¬ HasUnpruned f kind k

-- clauses of the list through a depth are clauses of that through the next one
abbrev pub OfListsGrow : Type 0
OfListsGrow = (f : Formula) (kind : Kind) (d : ℕ) (inputs : List (List Signed)) → AreOfList f kind d inputs → AreOfList f kind (suc d) inputs

-- the list itself is of it, and has the clauses of the states
abbrev pub WholeIsOfList : Type 0
WholeIsOfList = (f : Formula) (kind : Kind) (d : ℕ) → AreOfList f kind d (clause_list f kind d) × HasStates f kind d (clause_list f kind d)

-- the clauses of a step's states stand at the start of the step
abbrev pub FirstStateNumbers : Type 0
FirstStateNumbers = (f : Formula) (kind : Kind) (j : ℕ) (clause : List Signed) → slice_get (signed_clauses f kind (state_clauses f 0)) j ≡ Some clause
    → numbered (clause_list f kind 0) (suc j) ≡ Some clause

abbrev pub StateNumbers : Type 0
StateNumbers = (f : Formula) (kind : Kind) (d j : ℕ) (clause : List Signed) → slice_get (signed_clauses f kind (state_clauses f (suc d))) j ≡ Some clause
    → numbered (clause_list f kind (suc d)) (suc (length (clause_list f kind d) + j)) ≡ Some clause

-- where clauses are true, so is a part of them
abbrev pub PartsFollow : Type 0
PartsFollow = (v : ℕ → Bool) (clauses part : List (List Signed)) → All (Contains clauses) part → Satisfies v clauses → Satisfies v part

-- the letters of clauses of the list are from 1 to those through its depth
abbrev pub InputsAreKnown : Type 0
InputsAreKnown = (f : Formula) (kind : Kind) (d : ℕ) (inputs : List (List Signed)) → AreOfList f kind d inputs
    → AreKnown (letters_through kind (counts f) d) inputs
