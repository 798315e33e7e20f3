-- What a solver holds of the depths that were asked, and what the questions of a depth were answered.
use Rattle.std.specs.Prelude.{◌≡◌, ℕ, zero, suc, ◌+◌, ◌<◌, Bool, true, false, ⊤, List, [], ◌∷◌, length, slice_index_or, All, Contains, Option, Some, None}
use Rattle.ltl_syntax.specs.declared.node.Kind.{Kind}
use Rattle.ltl_syntax.specs.Formula.{Formula}
use Rattle.ltl_closure.specs.Run.{IsRun, HasAccepted, HasUnpruned, IsOpen}
use Rattle.ltl_run.specs.declared.run_state.Close.{Close}
use Rattle.ltl_run.specs.TraceOf.{Accepts}
use Rattle.cnf_base.specs.declared.literal.Literal.{Literal as Signed}
use Rattle.cnf_base.specs.Step.{numbered}
use Rattle.cnf_base.specs.Meaning.{Satisfies}
use Rattle.cdcl.specs.SolverValue.{SolverValue, value_of}
use Rattle.enc_layout.specs.Letters.{Meaning, Unpruned, Here, Accepted, letters_through}
use Rattle.enc_layout.specs.Clauses.{counts, number_in}
use Rattle.enc_layout.specs.Assigned.{positive_of, states_of, AreSatisfiable, accepted_question, unpruned_question}
use Rattle.enc_layout.specs.Targets.{negative_of}
use Rattle.demand.specs.Inputs.{HasStates}
use Rattle.unravel.specs.declared.inputs.Inputs.{Inputs}
use Rattle.unravel.specs.declared.assuming.Question.{Question}
use Rattle.unravel.specs.declared.assuming.Question.TheVariants as questions
use Rattle.unravel.specs.declared.accepting.Turn.{Turn as AcceptedTurn}
use Rattle.unravel.specs.declared.accepting.Turn.TheVariants as accepting
use Rattle.unravel.specs.declared.unpruning.Turn.{Turn as UnprunedTurn}
use Rattle.unravel.specs.declared.unpruning.Turn.TheVariants as unpruning
use Rattle.unravel.specs.declared.questions.Depth.{Depth}
use Rattle.unravel.specs.declared.questions.Depth.TheVariants as depths
use Rattle.unravel.specs.Putting.{up_to, IsPartOf, Keeps}

-- clauses of the list through depth k were put in, those of the states among them
pub record IsThrough (f : Formula) (kind : Kind) (k : ℕ) (i : Inputs) : Type 0 where
  pub part : IsPartOf (up_to f kind k) i
  pub states : HasStates f kind k i.solver.log.inputs

-- nothing was put in yet
pub record IsEmpty (i : Inputs) : Type 0 where
  pub inputs : i.solver.log.inputs ≡ []
  pub names : i.names.items ≡ []
  pub letters : i.solver.letters ≡ 0

-- those of the depths before k were
abbrev pub IsBefore : Formula → Kind → ℕ → Inputs → Type 0
IsBefore f kind zero i = IsEmpty i
IsBefore f kind (suc k) i = IsThrough f kind k i

-- the number names a line that has only these literals
abbrev pub HasOnly : List (List Signed) → ℕ → List Signed → Type 0
HasOnly lines number literals = (line : List Signed) × (numbered lines number ≡ Some line) × All (Contains literals) line

-- the line refutes that a run is accepted at state k
abbrev pub IsRejection : Formula → Kind → ℕ → List (List Signed) → ℕ → Type 0
IsRejection f kind k lines number = HasOnly lines number (negative_of f kind (Here k) ∷ negative_of f kind (Accepted k) ∷ [])

-- the line refutes that a run of k + 1 states is pruned nowhere
abbrev pub IsPruning : Formula → Kind → ℕ → List (List Signed) → ℕ → Type 0
IsPruning f kind k lines number = HasOnly lines number (negative_of f kind (Here k) ∷ negative_of f kind Unpruned ∷ [])

-- the literal says that some state before n is there
abbrev pub IsStateBelow : Formula → Kind → ℕ → Signed → Type 0
IsStateBelow f kind n l = (j : ℕ) × (j < n) × (l ≡ positive_of f kind (Here j))

abbrev pub AreStatesBelow : Formula → Kind → ℕ → List Signed → Type 0
AreStatesBelow f kind n literals = All (IsStateBelow f kind n) literals

-- each of the literals says that some state up to k is there, and one of them that state k is
abbrev pub AreStatesTo : Formula → Kind → ℕ → List Signed → Type 0
AreStatesTo f kind k literals = AreStatesBelow f kind (k + 1) literals × Contains literals (positive_of f kind (Here k))

-- a question of depth k can be asked: clauses of the list through it were put in, and the states are there that it assumes
pub record IsReady (f : Formula) (kind : Kind) (k : ℕ) (i : Inputs) (literals : List Signed) : Type 0 where
  pub through : IsThrough f kind k i
  pub states : AreStatesTo f kind k literals

-- the inputs are through depth k still, what was put in is there, and the same states are assumed
pub record IsStillThrough (f : Formula) (kind : Kind) (k : ℕ) (old new : Inputs) (before after : List Signed) : Type 0 where
  pub through : IsThrough f kind k new
  pub kept : Keeps old new
  pub states : after ≡ before

-- the letter of a question of depth k
abbrev pub letter_of : ℕ → Question → Meaning
letter_of k questions.Accepted = Accepted k
letter_of k questions.Unpruned = Unpruned

-- no values make the inputs and the question's literals true
abbrev pub Refuses : SolverValue → List Signed → Type 0
Refuses s question = ¬ AreSatisfiable s.log.inputs question

-- the solver's values make the inputs true, state k is there by them, and the letter of the question is true
pub record IsFound (f : Formula) (kind : Kind) (k : ℕ) (p : Meaning) (s : SolverValue) : Type 0 where
  pub room : letters_through kind (counts f) k < length s.model
  pub holds : Satisfies (value_of s) s.log.inputs
  pub here : value_of s (number_in f kind (Here k)) ≡ true
  pub own : value_of s (number_in f kind p) ≡ true

-- the solver's values are those of a run of k + 1 states, and the rule accepts it
pub record IsShowing (f : Formula) (kind : Kind) (k : ℕ) (s : SolverValue) (close : Close) : Type 0 where
  pub room : letters_through kind (counts f) k < length s.model
  pub run : IsRun f k (states_of f kind (value_of s))
  pub rule : Accepts close f (states_of f kind (value_of s)) k kind

-- no run of k + 1 states is accepted, and the inputs refuse it
abbrev pub IsNeverAccepted : Formula → Kind → ℕ → SolverValue → Type 0
IsNeverAccepted f kind k s = (¬ HasAccepted f kind k) × Refuses s (accepted_question f kind k)

-- each run of k + 1 states is pruned, and the inputs refuse others
abbrev pub IsAlwaysPruned : Formula → Kind → ℕ → SolverValue → Type 0
IsAlwaysPruned f kind k s = (¬ HasUnpruned f kind k) × Refuses s (unpruned_question f kind k)

-- no run of k + 1 states is one that the question asks for, and the inputs refuse it
abbrev pub IsNever : Formula → Kind → ℕ → Question → SolverValue → Type 0
IsNever f kind k questions.Accepted s = IsNeverAccepted f kind k s
IsNever f kind k questions.Unpruned s = IsAlwaysPruned f kind k s

-- values were found, or there are none
abbrev pub IsFoundOrNever : Formula → Kind → ℕ → Question → SolverValue → Bool → Type 0
IsFoundOrNever f kind k q s true = IsFound f kind k (letter_of k q) s
IsFoundOrNever f kind k q s false = IsNever f kind k q s

-- the values show a run that the rule accepts, or there is none
abbrev pub IsAcceptedAnswer : Formula → Kind → ℕ → SolverValue → Option Close → Type 0
IsAcceptedAnswer f kind k s (Some close) = IsShowing f kind k s close
IsAcceptedAnswer f kind k s None = IsNeverAccepted f kind k s

-- there is a run that is pruned nowhere, or there is none
abbrev pub IsUnprunedAnswer : Formula → Kind → ℕ → SolverValue → Bool → Type 0
IsUnprunedAnswer f kind k s true = HasUnpruned f kind k
IsUnprunedAnswer f kind k s false = IsAlwaysPruned f kind k s

-- what a turn of a question says; one that goes on says nothing
abbrev pub IsAcceptedTurn : Formula → Kind → ℕ → SolverValue → AcceptedTurn → Type 0
IsAcceptedTurn f kind k s (accepting.By close) = IsShowing f kind k s close
IsAcceptedTurn f kind k s accepting.Never = IsNeverAccepted f kind k s
IsAcceptedTurn f kind k s accepting.Again = ⊤

abbrev pub IsUnprunedTurn : Formula → Kind → ℕ → SolverValue → UnprunedTurn → Type 0
IsUnprunedTurn f kind k s unpruning.Unpruned = HasUnpruned f kind k
IsUnprunedTurn f kind k s unpruning.Never = IsAlwaysPruned f kind k s
IsUnprunedTurn f kind k s unpruning.Again = ⊤

-- what the answers of depth k say
abbrev pub Tells : Formula → Kind → ℕ → SolverValue → Depth → Type 0
Tells f kind k s (depths.Accepted close) = IsShowing f kind k s close
Tells f kind k s depths.Pruned = IsNeverAccepted f kind k s × IsAlwaysPruned f kind k s
Tells f kind k s depths.Open = IsOpen f kind k × Refuses s (accepted_question f kind k)

-- each depth before k is open
abbrev pub AreOpen : Formula → Kind → ℕ → Type 0
AreOpen f kind k = (j : ℕ) → j < k → IsOpen f kind j

-- the inputs refuse acceptance at each state before k
abbrev pub AreRejected : Formula → Kind → ℕ → SolverValue → Type 0
AreRejected f kind k s = (j : ℕ) → j < k → Refuses s (accepted_question f kind j)

-- the targets name the lines that refute acceptance at each state before k
pub record AreRejections (f : Formula) (kind : Kind) (k : ℕ) (lines : List (List Signed)) (targets : List ℕ) : Type 0 where
  pub count : length targets ≡ k
  pub each : (i : ℕ) → i < k → IsRejection f kind i lines (slice_index_or targets i 0)

-- the inputs refuse acceptance at each state up to k, and that a run of k + 1 states is pruned nowhere
pub record AreRefused (f : Formula) (kind : Kind) (k : ℕ) (s : SolverValue) : Type 0 where
  pub accepted : AreRejected f kind (k + 1) s
  pub unpruned : Refuses s (unpruned_question f kind k)
