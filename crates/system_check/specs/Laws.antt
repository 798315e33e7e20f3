-- What the laws of systems say.
use Rattle.std.specs.Prelude.{◌≡◌, ℕ, suc, ◌+◌, ◌<◌, ◌≤◌, ◌↔◌, length, Result, Vec}
use Rattle.std.specs.Global.{Global}
use Rattle.ltl_syntax.specs.declared.node.Kind.{Kind}
use Rattle.ltl_syntax.specs.declared.node.Kind.TheVariants as Kinds
use Rattle.ltl_syntax.specs.Formula.{Formula}
use Rattle.ltl_syntax.specs.Size.{formula_size}
use Rattle.ltl_word.specs.declared.trace.Trace.{Trace}
use Rattle.ltl_word.specs.Trace.{Names, IsTrace, IsOfKind, state_at}
use Rattle.ltl_word.specs.Holds.{Holds, Satisfies}
use Rattle.ltl_word.specs.Propositional.{IsPropositional}
use Rattle.ltl_closure.specs.Closure.{closure, nexts, yesterdays, eventualities}
use Rattle.ltl_closure.specs.Run.{IsVerdict, Undecided, bound}
use Rattle.derivation.specs.Steps.{DerivationValue}
use Rattle.enc_layout.specs.Letters.{Fits}
use Rattle.enc_layout.specs.Clauses.{counts}
use Rattle.system_check.specs.declared.joining.Joined.{Joined}
use Rattle.system_check.specs.declared.joining.JoinRefused.{JoinRefused}
use Rattle.system_check.specs.declared.deciding.SystemAnswer.{SystemAnswer}
use Rattle.system_check.specs.declared.deciding.SystemAnswer.TheVariants as answers
use Rattle.system_check.specs.TwoStates.{IsStepForm, Two, AreSameSet}
use Rattle.system_check.specs.System.{IsSystem, IsPath, system_of, whole_of}
use Rattle.system_check.specs.Joining.{IsJoining, HasMemory, refusal_of, whole_size}
use Rattle.system_check.specs.Answer.{IsAnswer, outcome_of}

-- ---- two states

-- a formula of the start's form has that of a step
abbrev pub StartsAreSteps : Type 0
StartsAreSteps = (f : Formula) → IsPropositional f → IsStepForm f

-- on an infinite trace a formula of the step's form holds at i where it says so of the states at i and i + 1
abbrev pub StepsAreTwo : Type 0
StepsAreTwo = (t : Trace) (f : Formula) (i : ℕ) → IsOfKind t Kinds.Infinite → IsStepForm f → Holds t f i ↔ Two (state_at t i) (state_at t (suc i)) f

-- a formula without temporal operators holds where it says so of the state there, whatever the second state
abbrev pub StartsAreOne : Type 0
StartsAreOne = (t : Trace) (f : Formula) (i : ℕ) (u : Names) → IsPropositional f → Holds t f i ↔ Two (state_at t i) u f

-- it says the same of the same sets of names
abbrev pub TwoReadsSets : Type 0
TwoReadsSets = (s s' u u' : Names) (f : Formula) → AreSameSet s s' → AreSameSet u u' → Two s u f ↔ Two s' u' f

-- ---- paths

-- an infinite trace satisfies the system formula where it is a path
abbrev pub PathsSatisfy : Type 0
PathsSatisfy =
    (start step : Formula) (t : Trace) → IsSystem start step → IsTrace t → IsOfKind t Kinds.Infinite → Satisfies t (system_of start step) ↔ IsPath start step t

-- it satisfies the whole formula where it is a path on which the goal fails
abbrev pub FailingPathsSatisfy : Type 0
FailingPathsSatisfy = (start step goal : Formula) (t : Trace) → IsSystem start step → IsTrace t → IsOfKind t Kinds.Infinite
    → Satisfies t (whole_of start step goal) ↔ (IsPath start step t × (¬ Satisfies t goal))

-- ---- how large the formulas are

-- the whole formula has four operators beside its parts
abbrev pub WholeIsLong : Type 0
WholeIsLong = (start step goal : Formula) → whole_size start step goal ≡ formula_size start + formula_size step + formula_size goal + 4

-- the system formula has no more entries, requests and eventualities than the whole formula
pub record IsNoLarger (f g : Formula) : Type 0 where
  pub entries : length (closure f) ≤ length (closure g)
  pub nexts : length (nexts f) ≤ length (nexts g)
  pub yesterdays : length (yesterdays f) ≤ length (yesterdays g)
  pub eventualities : length (eventualities f) ≤ length (eventualities g)
  pub bounds : (kind : Kind) → bound f kind ≤ bound g kind

abbrev pub SystemIsNoLarger : Type 0
SystemIsNoLarger = (start step goal : Formula) → IsNoLarger (system_of start step) (whole_of start step goal)

-- the letters through a depth that fit for the whole formula fit for the system formula
abbrev pub SystemFits : Type 0
SystemFits = (start step goal : Formula) (kind : Kind) (d : ℕ) → Fits (record { kind = kind; counts = counts (whole_of start step goal) }) d
    → Fits (record { kind = kind; counts = counts (system_of start step) }) d

-- ---- joining

-- where memory suffices, three parts are joined, or refused for one cause
abbrev pub JoiningIsOne : Type 0
JoiningIsOne = (start step goal : Formula) (r s : Result Joined JoinRefused) → HasMemory r → HasMemory s → IsJoining start step goal r
    → IsJoining start step goal s → refusal_of r ≡ refusal_of s

-- ---- answers

-- NO PATH comes only where no trace is a path
abbrev pub NoPathIsRight : Type 0
NoPathIsRight =
    (start step goal : Formula) (limit k : ℕ) (t : Trace) → IsSystem start step → IsAnswer start step goal limit (answers.NoPath k) → ¬ IsPath start step t

-- HOLDS comes only where each path satisfies the goal
abbrev pub HoldsIsRight : Type 0
HoldsIsRight = (start step goal : Formula) (limit k : ℕ) (log : DerivationValue) (targets : Vec ℕ Global) (t : Trace) → IsSystem start step
    → IsAnswer start step goal limit (answers.Holds k log targets) → IsPath start step t → Satisfies t goal

-- the trace of FAILS is a path that does not satisfy the goal
abbrev pub FailsIsRight : Type 0
FailsIsRight = (start step goal : Formula) (limit k : ℕ) (t : Trace) → IsSystem start step → IsAnswer start step goal limit (answers.Fails k t)
    → IsPath start step t × (¬ Satisfies t goal)

-- UNDECIDED comes at the limit, and only where this is below the bound of the whole formula
abbrev pub UndecidedIsLow : Type 0
UndecidedIsLow = (start step goal : Formula) (limit d : ℕ) → IsAnswer start step goal limit (answers.Undecided d) → (d ≡ limit)
    × (limit < bound (whole_of start step goal) Kinds.Infinite)

-- at the bound of the whole formula the system formula is settled as well
abbrev pub SystemSettles : Type 0
SystemSettles = (start step goal : Formula) (kind : Kind) (limit k : ℕ)
    → bound (whole_of start step goal) kind ≤ limit → ¬ IsVerdict (system_of start step) kind limit (Undecided k)

-- the answer is one, but for the trace, and the log and its targets
abbrev pub AnswerIsOne : Type 0
AnswerIsOne = (start step goal : Formula) (limit : ℕ) (a b : SystemAnswer) → IsAnswer start step goal limit a → IsAnswer start step goal limit b
    → outcome_of a ≡ outcome_of b
