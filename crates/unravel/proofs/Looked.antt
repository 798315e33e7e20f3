-- What the solver's values say where they are looked at as a run.
use Rattle.std.proofs.Common.{◌≡◌, ℕ, ◌+◌, ◌-◌, ◌≤◌, Bool, true, false, refl, arith, sym, ◌∙◌, subst, List, [], ◌∷◌, length, All, Contains, Option, Some, None}
use Rattle.ltl_syntax.specs.declared.node.Kind.{Kind}
use Rattle.ltl_syntax.specs.Formula.{Formula}
use Rattle.cnf_base.specs.Meaning.{Satisfies}
use Rattle.ltl_closure.specs.Run.{HasUnpruned, IsAccepted}
use Rattle.ltl_run.specs.declared.run_state.Close.{Close}
use Rattle.cdcl.specs.SolverValue.{SolverValue, value_of}
use Rattle.enc_layout.specs.Letters.{Meaning, Unpruned, Accepted}
use Rattle.enc_layout.specs.Clauses.{number_in, clause_list}
use Rattle.enc_layout.specs.Assigned.{states_of}
use Rattle.enc_layout.proofs.Questions.{accepted_from, unpruned_from}
use Rattle.demand.specs.declared.row.Row.{Row as StoredRow}
use Rattle.demand.specs.declared.pruning.Pruned.{Pruned}
use Rattle.demand.specs.Inputs.{states_list}
use Rattle.demand.specs.Rows.{rows_in, rows_of}
use Rattle.demand.specs.Reading.{AreRead}
use Rattle.demand.specs.Closing.{close_of}
use Rattle.demand.specs.Pruning.{prunings_below}
use Rattle.demand.proofs.StateRuns.{inputs_run, satisfied_part, row_read}
use Rattle.demand.proofs.Agreeing.{close_same}
use Rattle.demand.proofs.Closes.{accepted_closes}
use Rattle.demand.proofs.Looks.{looking_accepts, looking_unpruned}
use Rattle.unravel.specs.declared.inputs.Inputs.{Inputs}
use Rattle.unravel.specs.Putting.{up_to, list_of}
use Rattle.unravel.specs.declared.assuming.Question.{Question}
use Rattle.unravel.specs.declared.assuming.Question.TheVariants as questions
use Rattle.unravel.specs.Depths.{IsThrough, IsFound, IsShowing, letter_of, IsFoundOrNever, IsUnprunedAnswer}

none_some : {X : Type 0} (x : X) → None ≡ Some x → ⊥
none_some x e = cc

-- what is found in the values of a list is found in the list
module _ (kind own : Kind) (rows items : List StoredRow) (same : own ≡ kind) (are : items ≡ rows) where
  pub close_is : (o : Option Close) → o ≡ close_of own (rows_in items) (length items - 1) → o ≡ close_of kind (rows_in rows) (length rows - 1)
  close_is o is =
      subst (λ (xs : List StoredRow). o ≡ close_of kind (rows_in xs) (length xs - 1)) are
      (subst (λ (q : Kind). o ≡ close_of q (rows_in items) (length items - 1)) same is)

  pub prunings_are : (pruned : List Pruned) → pruned ≡ prunings_below own (rows_in items) (length items)
      → pruned ≡ prunings_below kind (rows_in rows) (length rows)
  prunings_are pruned is =
      subst (λ (xs : List StoredRow). pruned ≡ prunings_below kind (rows_in xs) (length xs)) are
      (subst (λ (q : Kind). pruned ≡ prunings_below q (rows_in items) (length items)) same is)

module _ (f : Formula) (kind : Kind) (k : ℕ) (i : Inputs) (through : IsThrough f kind k i) (p : Meaning) (found : IsFound f kind k p i.solver) where
  module _ (rows : List StoredRow) (long : length rows ≡ k + 1) (read : AreRead f kind (value_of i.solver) k (rows_in rows)) where
    -- the last row is that of state k
    last_is : length rows - 1 ≡ k
    last_is = omega (arith, long)

    at_last : (o : Option Close) → close_of kind (rows_in rows) (length rows - 1) ≡ o → close_of kind (rows_in rows) k ≡ o
    at_last o e = subst (λ n. close_of kind (rows_in rows) n ≡ o) last_is e

    -- a rule is found
    pub shows : (o : Option Close) (close : Close) → o ≡ close_of kind (rows_in rows) (length rows - 1) → o ≡ Some close → IsShowing f kind k i.solver close
    shows o close is some =
        let w = looking_accepts f kind k k (value_of i.solver) i.solver.log.inputs (rows_in rows) (omega arith) through.states found.holds found.here read close
        (at_last (Some close) (sym is ∙ some)) in
        record { room = found.room; run = w.0; rule = w.1 }

    -- no state is found that is pruned
    pub unpruned : (pruned : List Pruned) → pruned ≡ prunings_below kind (rows_in rows) (length rows) → length pruned ≡ 0 → HasUnpruned f kind k
    unpruned pruned is none =
        looking_unpruned f kind k k (value_of i.solver) i.solver.log.inputs (rows_in rows) (omega arith) through.states found.holds found.here read
        (subst (λ n. prunings_below kind (rows_in rows) n ≡ []) long (sym is ∙ no_element pruned none))
      where
        no_element : (xs : List Pruned) → length xs ≡ 0 → xs ≡ []
        no_element [] e = refl
        no_element (x ∷ xs) e = absurd (omega arith)

  -- where the whole list is in
  module _ (whole : All (Contains i.solver.log.inputs) (list_of (up_to f kind k))) where
    list_holds : Satisfies (value_of i.solver) (clause_list f kind k)
    list_holds = satisfied_part (value_of i.solver) i.solver.log.inputs (clause_list f kind k) whole found.holds

    module _ (rows : List StoredRow) (long : length rows ≡ k + 1) (read : AreRead f kind (value_of i.solver) k (rows_in rows)) where
      of_run : (n : ℕ) → n ≤ k → rows_in rows n ≡ rows_of f kind (states_of f kind (value_of i.solver)) n
      of_run n le = read n le ∙ row_read f kind k n (value_of i.solver) le
          (satisfied_part (value_of i.solver) i.solver.log.inputs (states_list f kind k) through.states found.holds)

      -- some rule is found
      pub some_rule : p ≡ Accepted k → (o : Option Close) → o ≡ close_of kind (rows_in rows) (length rows - 1) → o ≡ None → ⊥
      some_rule same o is none =
          let r = states_of f kind (value_of i.solver) in
          let own = subst (λ q. value_of i.solver (number_in f kind q) ≡ true) same found.own in
          let acc : IsAccepted f r k kind = accepted_from f kind k k (value_of i.solver) (omega arith) list_holds own in
          let w = accepted_closes f k r kind acc in
          let at : close_of kind (rows_in rows) k ≡ None = at_last rows long read None (sym is ∙ none) in
          none_some w.0 (sym at ∙ (close_same (rows_in rows) (rows_of f kind r) k of_run kind ∙ w.1))

    -- the run is pruned nowhere
    pub whole_unpruned : p ≡ Unpruned → HasUnpruned f kind k
    whole_unpruned same =
        let own = subst (λ q. value_of i.solver (number_in f kind q) ≡ true) same found.own in (
          states_of f kind (value_of i.solver),
          inputs_run f kind k k (value_of i.solver) i.solver.log.inputs (omega arith) through.states found.holds found.here,
          unpruned_from f kind k (value_of i.solver) list_holds own,
        )

-- ---- by cases of what was found

pub found_if : (f : Formula) (kind : Kind) (k : ℕ) (q : Question) (s : SolverValue) (b : Bool) → b ≡ true → IsFoundOrNever f kind k q s b
    → IsFound f kind k (letter_of k q) s
found_if f kind k q s b e h = subst (IsFoundOrNever f kind k q s) e h

pub unpruned_answer : (f : Formula) (kind : Kind) (k : ℕ) (s : SolverValue) (b : Bool) → (IsFound f kind k Unpruned s → HasUnpruned f kind k)
    → IsFoundOrNever f kind k questions.Unpruned s b
    → IsUnprunedAnswer f kind k s b
unpruned_answer f kind k s true has h = has h
unpruned_answer f kind k s false has h = h
