-- The decisions, from what the questions of the depths were answered.
use Rattle.std.proofs.Common.{◌≡◌, ℕ, suc, ◌+◌, ◌≤◌, arith, inl, inr, sym, subst, List, [], ◌<◌, All, Contains}
use Rattle.std.proofs.lemmas.Bool.{cases_lt}
use Rattle.std.proofs.lemmas.List.Elements.{All-nil}
use Rattle.ltl_syntax.specs.declared.node.Kind.{Kind}
use Rattle.ltl_syntax.specs.Formula.{Formula}
use Rattle.ltl_word.specs.declared.trace.Trace.{Trace}
use Rattle.ltl_closure.specs.Run.{HasAccepted, HasUnpruned, IsOpen, IsVerdict, Unsat, Undecided, accepted, all_pruned, undecided, bound}
use Rattle.ltl_run.proofs.Closing.{accepted_by}
use Rattle.ltl_run.proofs.Bounds.{settled}
use Rattle.ltl_run.proofs.Least.{unsat_has_no_trace}
use Rattle.cnf_base.specs.declared.literal.Literal.{Literal}
use Rattle.cnf_base.specs.Known.{AreKnown}
use Rattle.clause_log.specs.LogValue.{LogValue, IsLog}
use Rattle.derivation.specs.Naming.{AreNamed, derived}
use Rattle.derivation.proofs.Lines.{named_steps}
use Rattle.cdcl.specs.SolverValue.{SolverValue}
use Rattle.enc_layout.specs.Clauses.{clause_list}
use Rattle.enc_layout.specs.Assigned.{accepted_question, unpruned_question}
use Rattle.enc_layout.specs.Targets.{CloseTableau}
use Rattle.unravel.specs.declared.decision.Decision.{Decision}
use Rattle.unravel.specs.declared.decision.Decision.TheVariants as decisions
use Rattle.unravel.specs.Decision.{IsTraceOfRun, HasNoTrace, IsRefutation, IsModel, IsDecision, IsUnsat, IsUndecided}
use Rattle.unravel.specs.Settling.{IsStillOpen, IsClosed, IsRefuted}
use Rattle.unravel.specs.declared.inputs.Inputs.{Inputs}
use Rattle.unravel.specs.Depths.{IsThrough, IsEmpty, IsBefore, IsStateBelow, AreStatesBelow, Refuses, AreOpen, AreRejected, AreRefused}
use Rattle.unravel.proofs.Putting.{refuses_more}

pub within_limit : (k limit : ℕ) → k < limit + 1 → k ≤ limit
within_limit k limit lt = omega arith

module _ (f : Formula) (kind : Kind) where
  pub open_more : (k : ℕ) → AreOpen f kind k → IsOpen f kind k → AreOpen f kind (k + 1)
  open_more k before here j lt = elim (cases_lt j k) [
    | inl l ↦ before j l
    | inr g ↦ let e : j ≡ k = omega arith in subst (IsOpen f kind) (sym e) here
  ]

  pub before_more : (k : ℕ) (i : Inputs) → IsThrough f kind k i → IsBefore f kind (k + 1) i
  before_more k i h = let e : suc k ≡ k + 1 = omega arith in subst (λ n. IsBefore f kind n i) e h

  pub rejected_more : (k : ℕ) (s : SolverValue) → AreRejected f kind k s → Refuses s (accepted_question f kind k) → AreRejected f kind (k + 1) s
  rejected_more k s before here j lt = elim (cases_lt j k) [
    | inl l ↦ before j l
    | inr g ↦ let e : j ≡ k = omega arith in subst (λ n. Refuses s (accepted_question f kind n)) (sym e) here
  ]

  -- what is put in later changes nothing
  pub still_rejected : (k : ℕ) (old new : SolverValue) → All (Contains new.log.inputs) old.log.inputs → AreRejected f kind k old → AreRejected f kind k new
  still_rejected k old new kept before j lt = refuses_more old new (accepted_question f kind j) kept (before j lt)

  module _ (limit k : ℕ) (le : k ≤ limit) (open' : AreOpen f kind k) where
    pub shown_decided : (t : Trace) → IsTraceOfRun f kind k t × IsModel f kind t → IsDecision f kind limit (decisions.Sat k t)
    shown_decided t ((r, run, close, acc, gives), model) = (accepted le open' (r, run, accepted_by f kind k r (close, acc)), (r, run, close, acc, gives), model)

    -- where there is no run at all, there is none that is accepted or pruned nowhere, so this serves there as well
    pub refuted_decided : (HasAccepted f kind k → ⊥) → (HasUnpruned f kind k → ⊥) → (d : Decision) → IsRefuted f kind k d → IsDecision f kind limit d
    refuted_decided none pruned (decisions.Unsat n log targets) (depth, by) = (
      subst (λ m. IsVerdict f kind limit (Unsat m)) (sym depth) (all_pruned le open' none pruned),
      subst (λ m. IsRefutation f kind m log targets.items) (sym depth) by,
    )
    refuted_decided none pruned (decisions.Sat n t) h = absurd h
    refuted_decided none pruned (decisions.Undecided n) h = absurd h

  pub all_refused : (k : ℕ) (s : SolverValue) → AreRejected f kind k s → Refuses s (accepted_question f kind k) → Refuses s (unpruned_question f kind k)
      → AreRefused f kind k s
  all_refused k s before here pruned = record { accepted = rejected_more k s before here; unpruned = pruned }

  -- at the beginning
  pub still_open_first : (i : Inputs) (states : List Literal) → IsEmpty i → states ≡ [] → IsStillOpen f kind 0 i states
  still_open_first i states empty none = record {
    before = empty;
    still = λ j lt. absurd (omega arith);
    rejected = λ j lt. absurd (omega arith);
    states = subst (AreStatesBelow f kind 0) (sym none) (All-nil (IsStateBelow f kind 0));
  }

  -- and behind a depth that is open
  pub still_open_more : (k : ℕ) (old new : Inputs) (earlier states : List Literal) → IsStillOpen f kind k old earlier
      → All (Contains new.solver.log.inputs) old.solver.log.inputs
      → IsThrough f kind k new → IsOpen f kind k → Refuses new.solver (accepted_question f kind k) → AreStatesBelow f kind (k + 1) states
      → IsStillOpen f kind (k + 1) new states
  still_open_more k old new earlier states before kept through here refuses below = record {
    before = before_more k new through;
    still = open_more k before.still here;
    rejected = rejected_more k new.solver (still_rejected k old.solver new.solver kept before.rejected) refuses;
    states = below;
  }

  -- a depth with neither is open
  pub open_told : (k : ℕ) → (HasAccepted f kind k → ⊥) → HasUnpruned f kind k → IsOpen f kind k
  open_told k none (r, run, unpruned) = record { run = (r, run); rejected = none; unpruned = (r, run, unpruned) }

  -- the log that the solver leaves, under the names of its inputs
  module _ (k : ℕ) (i : Inputs) (targets : List ℕ) (is_closed : IsClosed f kind k i targets) (log : LogValue) (is : log ≡ i.solver.log) where
    names_it : AreNamed (clause_list f kind k) log.inputs i.names.items
    names_it = subst (λ (l : LogValue). AreNamed (clause_list f kind k) l.inputs i.names.items) (sym is) is_closed.through.part.named

    -- its inputs are named by a list
    pub log_named : (list : List (List Literal)) × AreNamed list log.inputs i.names.items
    log_named = (clause_list f kind k, names_it)

    pub refutation : IsLog log → AreKnown i.solver.letters i.solver.log.lines → IsRefutation f kind k (derived log i.names.items) targets
    refutation log_is known = record {
      steps = named_steps (clause_list f kind k) log i.names.items names_it log_is;
      letters = subst (λ n. AreKnown n log.lines) is_closed.through.part.letters (subst (λ (l : LogValue). AreKnown i.solver.letters l.lines) (sym is) known);
      closed = subst (λ (l : LogValue). CloseTableau f kind k l.lines targets) (sym is) is_closed.closed;
    }

  pub open_through : (limit n : ℕ) → limit + 1 ≤ n → AreOpen f kind n → AreOpen f kind (limit + 1)
  open_through limit n all open' j lt = open' j (omega arith)

  pub undecided_at : (limit : ℕ) → AreOpen f kind (limit + 1) → IsVerdict f kind limit (Undecided limit)
  undecided_at limit open' = undecided (λ j le. open' j (omega arith))

  -- what follows of a decision
  pub unsat_none : (limit : ℕ) (d : Decision) → IsDecision f kind limit d → IsUnsat d → HasNoTrace f kind
  unsat_none limit (decisions.Unsat k log targets) h u = λ t is of_kind holds. unsat_has_no_trace f kind limit k t h.0 is of_kind holds
  unsat_none limit (decisions.Sat k trace) h u = absurd u
  unsat_none limit (decisions.Undecided k) h u = absurd u

  pub bound_settles : (limit : ℕ) (d : Decision) → IsDecision f kind limit d → bound f kind ≤ limit → IsUndecided d → ⊥
  bound_settles limit (decisions.Undecided k) h le u = settled f kind limit k le h
  bound_settles limit (decisions.Sat k trace) h le u = u
  bound_settles limit (decisions.Unsat k log targets) h le u = u
