-- What the depths up to a limit come to.
use Rattle.std.specs.Prelude.{◌≡◌, ℕ, ◌+◌, List, Option, Some, None}
use Rattle.ltl_syntax.specs.declared.node.Kind.{Kind}
use Rattle.ltl_syntax.specs.Formula.{Formula}
use Rattle.ltl_closure.specs.Run.{HasAccepted, HasUnpruned}
use Rattle.cnf_base.specs.declared.literal.Literal.{Literal as Signed}
use Rattle.enc_layout.specs.Targets.{CloseTableau}
use Rattle.unravel.specs.declared.inputs.Inputs.{Inputs}
use Rattle.unravel.specs.declared.deciding.Outcome.{Outcome}
use Rattle.unravel.specs.declared.deciding.Outcome.TheVariants as outcomes
use Rattle.unravel.specs.declared.decision.Decision.{Decision}
use Rattle.unravel.specs.declared.decision.Decision.TheVariants as decisions
use Rattle.unravel.specs.Decision.{IsTraceOfRun, IsModel, IsRefutation, IsDecision}
use Rattle.unravel.specs.Depths.{IsThrough, IsBefore, AreStatesBelow, AreOpen, AreRejected}

-- no depth before k settles the formula: what stands before it was put in, each depth before it is open, the inputs refuse acceptance at
-- each, and each of the literals says that some state before k is there
pub record IsStillOpen (f : Formula) (kind : Kind) (k : ℕ) (i : Inputs) (literals : List Signed) : Type 0 where
  pub before : IsBefore f kind k i
  pub still : AreOpen f kind k
  pub rejected : AreRejected f kind k i.solver
  pub states : AreStatesBelow f kind k literals

-- clauses of the list through depth k were put in, and the targets name lines that close the tableau there
pub record IsClosed (f : Formula) (kind : Kind) (k : ℕ) (i : Inputs) (targets : List ℕ) : Type 0 where
  pub through : IsThrough f kind k i
  pub closed : CloseTableau f kind k i.solver.log.lines targets

-- a trace of an accepted run of depth k, which satisfies the formula; or no run of it is accepted, each is pruned, and the tableau is
-- closed; or depth k is open as well
abbrev pub IsOutcome : Formula → Kind → ℕ → Inputs → List Signed → Outcome → Type 0
IsOutcome f kind k i literals (outcomes.Accepted t) = IsTraceOfRun f kind k t × IsModel f kind t
IsOutcome f kind k i literals (outcomes.Pruned targets) = (¬ HasAccepted f kind k) × (¬ HasUnpruned f kind k) × IsClosed f kind k i targets.items
IsOutcome f kind k i literals outcomes.Open = IsStillOpen f kind (k + 1) i literals

-- unsatisfiable at depth k, by a log and targets that close the tableau
abbrev pub IsRefuted : Formula → Kind → ℕ → Decision → Type 0
IsRefuted f kind k (decisions.Sat n t) = ⊥
IsRefuted f kind k (decisions.Unsat n log targets) = (n ≡ k) × IsRefutation f kind k log targets.items
IsRefuted f kind k (decisions.Undecided n) = ⊥

-- the decision that some depth gives, or each depth up to the limit is open
abbrev pub IsSettled : Formula → Kind → ℕ → Option Decision → Type 0
IsSettled f kind limit (Some d) = IsDecision f kind limit d
IsSettled f kind limit None = AreOpen f kind (limit + 1)
