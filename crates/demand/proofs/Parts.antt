-- Where a part of the list has no assignment, the list has none.
use Rattle.std.proofs.Common.{ℕ, suc, ◌<◌, ◌≤◌, sym, subst, arith, List, All, Contains}
use Rattle.std.proofs.lemmas.List.Elements.{All-weaker, All-contains, Contains-append_left}
use Rattle.ltl_syntax.specs.declared.node.Kind.{Kind}
use Rattle.ltl_syntax.specs.Formula.{Formula}
use Rattle.cnf_base.specs.declared.literal.Literal.{Literal as Signed}
use Rattle.ltl_closure.specs.Run.{HasRun, HasAccepted, HasUnpruned}
use Rattle.enc_layout.specs.Clauses.{counts, step_clauses, signed_clauses, clause_list}
use Rattle.enc_layout.specs.Assigned.{AreSatisfiable, run_question, accepted_question, unpruned_question}
use Rattle.enc_layout.proofs.Questions.{run_asked, accepted_asked, unpruned_asked}
use Rattle.enc_layout.proofs.Steps.{list_more}
use Rattle.enc_layout.proofs.Numbering.{list_range}
use Rattle.enc_layout.specs.Letters.{letters_through}
use Rattle.cnf_base.specs.Known.{IsKnown, AreKnown}
use Rattle.demand.specs.Inputs.{AreOfList}
use Rattle.demand.proofs.StateRuns.{satisfied_part}

-- what has an assignment has one for each part
part_satisfiable : (clauses part : List (List Signed)) (literals : List Signed) → All (Contains clauses) part → AreSatisfiable clauses literals
    → AreSatisfiable part literals
part_satisfiable clauses part literals of w = (w.0, satisfied_part w.0 clauses part of w.1, w.2)

module _ (f : Formula) (kind : Kind) where
  pub no_run : (d k : ℕ) (inputs : List (List Signed)) → k ≤ d → AreOfList f kind d inputs → ¬ AreSatisfiable inputs (run_question f kind k) → ¬ HasRun f k
  no_run d k inputs le of none has = none (part_satisfiable (clause_list f kind d) inputs (run_question f kind k) of ((run_asked f kind d k le).0 has))

  pub no_accepted : (d k : ℕ) (inputs : List (List Signed)) → k ≤ d → AreOfList f kind d inputs → ¬ AreSatisfiable inputs (accepted_question f kind k)
      → ¬ HasAccepted f kind k
  no_accepted d k inputs le of none has =
      none (part_satisfiable (clause_list f kind d) inputs (accepted_question f kind k) of ((accepted_asked f kind d k le).0 has))

  pub no_unpruned : (k : ℕ) (inputs : List (List Signed)) → AreOfList f kind k inputs → ¬ AreSatisfiable inputs (unpruned_question f kind k)
      → ¬ HasUnpruned f kind k
  no_unpruned k inputs of none has = none (part_satisfiable (clause_list f kind k) inputs (unpruned_question f kind k) of ((unpruned_asked f kind k).0 has))

  pub of_list_grows : (d : ℕ) (inputs : List (List Signed)) → AreOfList f kind d inputs → AreOfList f kind (suc d) inputs
  of_list_grows d inputs of = All-weaker (Contains (clause_list f kind d)) (Contains (clause_list f kind (suc d))) (λ c m.
      subst (λ cs. Contains cs c) (sym (list_more f kind d))
      (Contains-append_left (clause_list f kind d) (signed_clauses f kind (step_clauses f kind (suc d))) c m)) inputs of

  pub inputs_known : (d : ℕ) (inputs : List (List Signed)) → AreOfList f kind d inputs → AreKnown (letters_through kind (counts f) d) inputs
  inputs_known d inputs of =
      let n = letters_through kind (counts f) d in
      All-weaker (Contains (clause_list f kind d)) (All (IsKnown n)) (λ c m.
      All-weaker (λ l. (0 < l.letter.0) × (l.letter.0 ≤ n)) (IsKnown n) (λ l h. record { from_one = omega (arith, h.0); within = h.1 }) c
      (All-contains (All (λ l. (0 < l.letter.0) × (l.letter.0 ≤ n))) (clause_list f kind d) c (list_range f kind d) m)) inputs of
