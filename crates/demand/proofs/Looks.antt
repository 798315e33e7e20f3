-- An assignment that makes what was put in true, looked at as a run.
use Rattle.std.proofs.Common.{◌≡◌, ℕ, ◌+◌, ◌≤◌, Bool, true, sym, ◌∙◌, arith, List, [], Some}
use Rattle.ltl_syntax.specs.declared.node.Kind.{Kind}
use Rattle.ltl_syntax.specs.Formula.{Formula}
use Rattle.cnf_base.specs.declared.literal.Literal.{Literal as Signed}
use Rattle.cnf_base.specs.Meaning.{Satisfies}
use Rattle.ltl_closure.specs.Run.{IsRun, HasUnpruned}
use Rattle.ltl_run.specs.declared.run_state.Close.{Close}
use Rattle.ltl_run.specs.TraceOf.{Accepts}
use Rattle.enc_layout.specs.Letters.{Here}
use Rattle.enc_layout.specs.Clauses.{number_in}
use Rattle.enc_layout.specs.Assigned.{states_of}
use Rattle.demand.specs.Inputs.{states_list, HasStates}
use Rattle.demand.specs.Rows.{Rows, rows_of}
use Rattle.demand.specs.Reading.{AreRead}
use Rattle.demand.specs.Closing.{close_of}
use Rattle.demand.specs.Pruning.{prunings_below}
use Rattle.demand.proofs.StateRuns.{inputs_run, satisfied_part, row_read}
use Rattle.demand.proofs.Agreeing.{close_same, prunings_same}
use Rattle.demand.proofs.Closes.{close_accepts}
use Rattle.demand.proofs.PrunedStates.{no_prunings}

module _ (f : Formula) (kind : Kind) (d k : ℕ) (v : ℕ → Bool) (inputs : List (List Signed)) (rows : Rows)
    (le : k ≤ d) (has : HasStates f kind d inputs) (h : Satisfies v inputs) (here : v (number_in f kind (Here k)) ≡ true) (read : AreRead f kind v k rows) where
  run : IsRun f k (states_of f kind v)
  run = inputs_run f kind d k v inputs le has h here

  -- what was read are the rows of this run
  of_run : (i : ℕ) → i ≤ k → rows i ≡ rows_of f kind (states_of f kind v) i
  of_run i il = read i il ∙ row_read f kind d i v (omega arith) (satisfied_part v inputs (states_list f kind d) has h)

  pub looking_accepts : (close : Close) → close_of kind rows k ≡ Some close → IsRun f k (states_of f kind v) × Accepts close f (states_of f kind v) k kind
  looking_accepts close e =
      (run, close_accepts f k (states_of f kind v) kind close (sym (close_same rows (rows_of f kind (states_of f kind v)) k of_run kind) ∙ e))

  pub looking_unpruned : prunings_below kind rows (k + 1) ≡ [] → HasUnpruned f kind k
  looking_unpruned e =
      (states_of f kind v, run, no_prunings f kind k (states_of f kind v) (sym (prunings_same rows (rows_of f kind (states_of f kind v)) k of_run kind) ∙ e))
