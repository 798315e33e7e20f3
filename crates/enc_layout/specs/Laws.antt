-- What the laws of the clause list say. They are stated for both kinds of trace.
use Rattle.std.specs.Prelude.{◌≡◌, ℕ, suc, ◌<◌, ◌≤◌, ◌↔◌, ◌++◌, Bool, true, false, IsTrue, IsFalse, List, length, get_or, All, Contains}
use Rattle.ltl_syntax.specs.declared.node.Kind.{Kind}
use Rattle.ltl_syntax.specs.declared.node.Kind.TheVariants as Kinds
use Rattle.ltl_syntax.specs.Formula.{Formula}
use Rattle.cnf_base.specs.declared.literal.Literal.{Literal as Signed}
use Rattle.cnf_base.specs.Meaning.{Satisfies}
use Rattle.ltl_closure.specs.Norm.{Norm, NNext}
use Rattle.ltl_closure.specs.Closure.{closure, nexts, eventualities}
use Rattle.ltl_closure.specs.Run.{States, IsRun, IsAccepted, IsUnpruned, HasRun, HasAccepted, HasUnpruned, carry, is_pending, IsFulfilledIn}
use Rattle.enc_layout.specs.Letters.{Meaning, Unpruned, Here, Accepted, LoopTo, Counts, LayoutValue, AreFew, IsLetter, all_letters, letters_through, Fits}
use Rattle.enc_layout.specs.Letters.{number_of}
use Rattle.enc_layout.specs.Clauses.{counts, number_in, state_clauses, loop_clauses, prune_clauses, step_clauses, signed_clauses, clause_list}
use Rattle.enc_layout.specs.Assigned.{states_of, Shows, AreSatisfiable, run_question, accepted_question, unpruned_question}

-- a letter's number is its place in the list of all letters, counted from 1
abbrev pub NumbersArePlaces : Type 0
NumbersArePlaces = (kind : Kind) (c : Counts) (d : ℕ) (p : Meaning) → IsLetter kind c d p
    → (k : ℕ) × (suc k ≡ number_of kind c p) × (k < length (all_letters kind c d)) × (get_or (all_letters kind c d) k Unpruned ≡ p)

-- there are as many letters as the closed form says
abbrev pub LettersAreCounted : Type 0
LettersAreCounted = (kind : Kind) (c : Counts) (d : ℕ) → length (all_letters kind c d) ≡ letters_through kind c d

-- depth 0 fits every layout
abbrev pub FirstStatesFit : Type 0
FirstStatesFit = (layout : LayoutValue) → AreFew layout.counts → Fits layout 0

-- where a depth fits, so do those below it
abbrev pub LowerDepthsFit : Type 0
LowerDepthsFit = (layout : LayoutValue) (k d : ℕ) → k ≤ d → Fits layout d → Fits layout k

-- every letter of the list is one of the letters through its depth
abbrev pub LettersAreKnown : Type 0
LettersAreKnown =
    (f : Formula) (kind : Kind) (d : ℕ) → All (All (λ l. (0 < l.letter.0) × (l.letter.0 ≤ letters_through kind (counts f) d))) (clause_list f kind d)

-- the list through depth 0 has the clauses of step 0
abbrev pub ListsBegin : Type 0
ListsBegin = (f : Formula) (kind : Kind) → clause_list f kind 0 ≡ signed_clauses f kind (step_clauses f kind 0)

-- the list through a depth is the start of the list through the next one
abbrev pub ListsGrow : Type 0
ListsGrow = (f : Formula) (kind : Kind) (d : ℕ) → clause_list f kind (suc d) ≡ clause_list f kind d ++ signed_clauses f kind (step_clauses f kind (suc d))

-- the clauses of a step are those of its states, its pairs and its pruning, one behind the other
abbrev pub StepsAreParts : Type 0
StepsAreParts = (f : Formula) (kind : Kind) (i : ℕ) (before : List (List Signed))
    → before ++ signed_clauses f kind (step_clauses f kind i)
    ≡ before ++ signed_clauses f kind (state_clauses f i) ++ signed_clauses f kind (loop_clauses f kind i) ++ signed_clauses f kind (prune_clauses f kind i)

-- where the list and the letter of state k are true, the letters of the entries give a run of k+1 states
abbrev pub AssignmentsRun : Type 0
AssignmentsRun = (f : Formula) (kind : Kind) (d k : ℕ) (v : ℕ → Bool) → k ≤ d → Satisfies v (clause_list f kind d) → v (number_in f kind (Here k)) ≡ true
    → IsRun f k (states_of f kind v)

-- where the letter of acceptance is true as well, that run is accepted
abbrev pub AssignmentsAccept : Type 0
AssignmentsAccept = (f : Formula) (kind : Kind) (d k : ℕ) (v : ℕ → Bool) → k ≤ d → Satisfies v (clause_list f kind d) → v (number_in f kind (Accepted k)) ≡ true
    → IsAccepted f (states_of f kind v) k kind

-- for infinite traces, where the letter of the loop from state k to l is true, they have one carry, and each eventuality that is pending at
-- k is fulfilled after l
abbrev pub AssignmentsLoop : Type 0
AssignmentsLoop = (f : Formula) (kind : Kind) (d k l : ℕ) (v : ℕ → Bool) → kind ≡ Kinds.Infinite → k ≤ d → l < k → Satisfies v (clause_list f kind d)
    → v (number_in f kind (LoopTo l k)) ≡ true
    → (carry f (states_of f kind v l) ≡ carry f (states_of f kind v k))
    × ((e : Norm) → Contains (eventualities f) e → IsTrue (is_pending (states_of f kind v k) e) → IsFulfilledIn (states_of f kind v) l k e)

-- where the letter of acceptance is true and that of no loop from state k, no next request is true there
abbrev pub AssignmentsEmpty : Type 0
AssignmentsEmpty = (f : Formula) (kind : Kind) (d k : ℕ) (v : ℕ → Bool) → kind ≡ Kinds.Infinite → k ≤ d → Satisfies v (clause_list f kind d)
    → v (number_in f kind (Accepted k)) ≡ true
    → ((l : ℕ) → l < k → v (number_in f kind (LoopTo l k)) ≡ false)
    → (e : Norm) → Contains (nexts f) e → IsFalse (states_of f kind v k e)

-- for finite traces, where the letter of acceptance is true, no strong next request is true at state k
abbrev pub AssignmentsEnd : Type 0
AssignmentsEnd = (f : Formula) (kind : Kind) (d k : ℕ) (v : ℕ → Bool) → kind ≡ Kinds.Finite → k ≤ d → Satisfies v (clause_list f kind d)
    → v (number_in f kind (Accepted k)) ≡ true
    → (a : Norm) → Contains (closure f) (NNext a) → IsFalse (states_of f kind v k (NNext a))

-- where the list through k and letter 1 are true, that run is pruned nowhere
abbrev pub AssignmentsAreUnpruned : Type 0
AssignmentsAreUnpruned = (f : Formula) (kind : Kind) (k : ℕ) (v : ℕ → Bool) → Satisfies v (clause_list f kind k) → v (number_in f kind Unpruned) ≡ true
    → IsUnpruned f (states_of f kind v) k kind

-- each run extends to such an assignment
abbrev pub RunsAreAssigned : Type 0
RunsAreAssigned = (f : Formula) (kind : Kind) (d k : ℕ) (r : States) → k ≤ d → IsRun f k r
    → (v : ℕ → Bool) × Satisfies v (clause_list f kind d) × (v (number_in f kind (Here k)) ≡ true) × Shows f kind v k r

-- each accepted run
abbrev pub AcceptedRunsAreAssigned : Type 0
AcceptedRunsAreAssigned = (f : Formula) (kind : Kind) (d k : ℕ) (r : States) → k ≤ d → IsRun f k r → IsAccepted f r k kind
    → (v : ℕ → Bool) × Satisfies v
    (clause_list f kind d) × (v (number_in f kind (Here k)) ≡ true) × (v (number_in f kind (Accepted k)) ≡ true) × Shows f kind v k r

-- each run that is pruned nowhere
abbrev pub UnprunedRunsAreAssigned : Type 0
UnprunedRunsAreAssigned = (f : Formula) (kind : Kind) (k : ℕ) (r : States) → IsRun f k r → IsUnpruned f r k kind
    → (v : ℕ → Bool) × Satisfies v (clause_list f kind k) × (v (number_in f kind (Here k)) ≡ true) × (v (number_in f kind Unpruned) ≡ true) × Shows f kind v k r

-- each question of depth k is satisfiable exactly where such a run exists
abbrev pub RunQuestionsAnswer : Type 0
RunQuestionsAnswer = (f : Formula) (kind : Kind) (d k : ℕ) → k ≤ d → HasRun f k ↔ AreSatisfiable (clause_list f kind d) (run_question f kind k)

abbrev pub AcceptedQuestionsAnswer : Type 0
AcceptedQuestionsAnswer =
    (f : Formula) (kind : Kind) (d k : ℕ) → k ≤ d → HasAccepted f kind k ↔ AreSatisfiable (clause_list f kind d) (accepted_question f kind k)

abbrev pub UnprunedQuestionsAnswer : Type 0
UnprunedQuestionsAnswer = (f : Formula) (kind : Kind) (k : ℕ) → HasUnpruned f kind k ↔ AreSatisfiable (clause_list f kind k) (unpruned_question f kind k)
