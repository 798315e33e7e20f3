-- What is decided of a formula, and what shows it.
use Rattle.std.specs.Prelude.{ℕ, List, ⊤}
use Rattle.ltl_syntax.specs.declared.node.Kind.{Kind}
use Rattle.ltl_syntax.specs.Formula.{Formula}
use Rattle.ltl_word.specs.declared.trace.Trace.{Trace}
use Rattle.ltl_word.specs.Trace.{IsTrace, IsOfKind}
use Rattle.ltl_word.specs.Holds.{Satisfies}
use Rattle.ltl_closure.specs.Run.{States, IsRun, IsVerdict, Sat, Unsat, Undecided}
use Rattle.ltl_run.specs.declared.run_state.Close.{Close}
use Rattle.ltl_run.specs.TraceOf.{Accepts, GivesTrace}
use Rattle.cnf_base.specs.Known.{AreKnown}
use Rattle.derivation.specs.Steps.{DerivationValue, AreSteps}
use Rattle.enc_layout.specs.Letters.{letters_through}
use Rattle.enc_layout.specs.Clauses.{counts, clause_list}
use Rattle.enc_layout.specs.Limit.{IsInForce}
use Rattle.enc_layout.specs.Targets.{CloseTableau}
use Rattle.unravel.specs.declared.decision.Decision.{Decision}
use Rattle.unravel.specs.declared.decision.Decision.TheVariants as decisions

-- the trace is that of an accepted run of k + 1 states
abbrev pub IsTraceOfRun : Formula → Kind → ℕ → Trace → Type 0
IsTraceOfRun f kind k t = (r : States) × IsRun f k r × (close : Close) × Accepts close f r k kind × GivesTrace f r k close t

-- the trace is one of the kind, and satisfies the formula
abbrev pub IsModel : Formula → Kind → Trace → Type 0
IsModel f kind t = IsTrace t × IsOfKind t kind × Satisfies t f

-- no trace of the kind satisfies the formula
abbrev pub HasNoTrace : Formula → Kind → Type 0
HasNoTrace f kind = (t : Trace) → IsTrace t → IsOfKind t kind → ¬ Satisfies t f

-- each line is a hinted step over the clause list through depth k, the lines have only the letters from 1 through depth k, and the targets close the tableau
pub record IsRefutation (f : Formula) (kind : Kind) (k : ℕ) (log : DerivationValue) (targets : List ℕ) : Type 0 where
  pub steps : AreSteps (clause_list f kind k) log
  pub letters : AreKnown (letters_through kind (counts f) k) log.lines
  pub closed : CloseTableau f kind k log.lines targets

-- the decision is the tableau's verdict at the limit, with what shows it
abbrev pub IsDecision : Formula → Kind → ℕ → Decision → Type 0
IsDecision f kind limit (decisions.Sat k t) = IsVerdict f kind limit (Sat k) × IsTraceOfRun f kind k t × IsModel f kind t
IsDecision f kind limit (decisions.Unsat k log targets) = IsVerdict f kind limit (Unsat k) × IsRefutation f kind k log targets.items
IsDecision f kind limit (decisions.Undecided k) = IsVerdict f kind limit (Undecided k)

-- the decision is the tableau's verdict at the limit in force for the asked number, with what shows it
abbrev pub IsDecisionInForce : Formula → Kind → ℕ → Decision → Type 0
IsDecisionInForce f kind asked decision = (limit : ℕ) × IsInForce f kind asked limit × IsDecision f kind limit decision

abbrev pub IsUnsat : Decision → Type 0
IsUnsat (decisions.Sat k t) = ⊥
IsUnsat (decisions.Unsat k log targets) = ⊤
IsUnsat (decisions.Undecided k) = ⊥

abbrev pub IsUndecided : Decision → Type 0
IsUndecided (decisions.Sat k t) = ⊥
IsUndecided (decisions.Unsat k log targets) = ⊥
IsUndecided (decisions.Undecided k) = ⊤
