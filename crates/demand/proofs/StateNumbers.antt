-- Where the clauses of the states stand in the list, and that the list is of itself.
use Rattle.std.proofs.Common.{◌≡◌, ℕ, zero, suc, ◌+◌, refl, sym, ◌∙◌, subst, arith, List, [], ◌∷◌, ◌++◌, length, slice_get, All, Contains, Some}
use Rattle.std.proofs.lemmas.List.Elements.{All-weaker, All-contains_itself, Contains-append_left, Contains-append_right}
use Rattle.ltl_syntax.specs.declared.node.Kind.{Kind}
use Rattle.ltl_syntax.specs.Formula.{Formula}
use Rattle.cnf_base.specs.declared.literal.Literal.{Literal as Signed}
use Rattle.cnf_base.specs.Step.{numbered}
use Rattle.cnf_base.proofs.MoreClauses.{slice_get_append}
use Rattle.enc_layout.specs.Clauses.{state_clauses, loop_clauses, prune_clauses, step_clauses, signed_clauses, clause_list}
use Rattle.enc_layout.proofs.Steps.{list_more, step_parts}
use Rattle.demand.specs.Inputs.{HasStates, AreOfList}
use Rattle.demand.proofs.StateRuns.{states_grow}

slice_get_behind : {X : Type 0} (xs ys : List X) (n j : ℕ) (x : X) → n ≡ length xs + j → slice_get ys j ≡ Some x → slice_get (xs ++ ys) n ≡ Some x
slice_get_behind [] ys n j x e h = let same : j ≡ n = omega arith in subst (λ m. slice_get ys m ≡ Some x) same h
slice_get_behind (y ∷ xs) ys zero j x e h = absurd (omega arith)
slice_get_behind (y ∷ xs) ys (suc n) j x e h = slice_get_behind xs ys n j x (omega arith) h

module _ (f : Formula) (kind : Kind) where
  pub first_numbers : (j : ℕ) (clause : List Signed) → slice_get (signed_clauses f kind (state_clauses f 0)) j ≡ Some clause
      → numbered (clause_list f kind 0) (suc j) ≡ Some clause
  first_numbers j clause h =
      let s = signed_clauses f kind (state_clauses f 0) in
      let l = signed_clauses f kind (loop_clauses f kind 0) in
      let p = signed_clauses f kind (prune_clauses f kind 0) in
      subst (λ cs. slice_get cs j ≡ Some clause) (sym (step_parts f kind 0 [])) (slice_get_append (s ++ l) p j clause (slice_get_append s l j clause h))

  pub numbers : (d j : ℕ) (clause : List Signed) → slice_get (signed_clauses f kind (state_clauses f (suc d))) j ≡ Some clause
      → numbered (clause_list f kind (suc d)) (suc (length (clause_list f kind d) + j)) ≡ Some clause
  numbers d j clause h =
      let before = clause_list f kind d in
      let s = signed_clauses f kind (state_clauses f (suc d)) in
      let l = signed_clauses f kind (loop_clauses f kind (suc d)) in
      let p = signed_clauses f kind (prune_clauses f kind (suc d)) in
      let n = length before + j in
      subst (λ cs. slice_get cs n ≡ Some clause) (sym (list_more f kind d ∙ step_parts f kind (suc d) before))
      (slice_get_append (before ++ s ++ l) p n clause (slice_get_append (before ++ s) l n clause (slice_get_behind before s n j clause refl h)))

  -- the clauses of the states are among those of the step
  in_step : (i : ℕ) (before : List (List Signed))
      → All (Contains (before ++ signed_clauses f kind (step_clauses f kind i))) (signed_clauses f kind (state_clauses f i))
  in_step i before =
      let s = signed_clauses f kind (state_clauses f i) in
      let l = signed_clauses f kind (loop_clauses f kind i) in
      let p = signed_clauses f kind (prune_clauses f kind i) in
      subst (λ cs. All (Contains cs) s) (sym (step_parts f kind i before))
      (All-weaker (Contains s) (Contains (before ++ s ++ l ++ p)) (λ c m.
      Contains-append_left (before ++ s ++ l) p c (Contains-append_left (before ++ s) l c (Contains-append_right before s c m))) s (All-contains_itself s))

  pub whole_has : (d : ℕ) → HasStates f kind d (clause_list f kind d)
  whole_has zero = in_step 0 []
  whole_has (suc d) =
      let more = sym (list_more f kind d) in
      states_grow f kind d (clause_list f kind d) (clause_list f kind (suc d)) (whole_has d)
      (subst (λ cs. All (Contains cs) (clause_list f kind d)) more
      (All-weaker (Contains (clause_list f kind d)) (Contains (clause_list f kind d ++ signed_clauses f kind (step_clauses f kind (suc d))))
      (λ c m. Contains-append_left (clause_list f kind d) (signed_clauses f kind (step_clauses f kind (suc d))) c m)
      (clause_list f kind d) (All-contains_itself (clause_list f kind d))))
      (subst (λ cs. All (Contains cs) (signed_clauses f kind (state_clauses f (suc d)))) more (in_step (suc d) (clause_list f kind d)))

  pub whole_of : (d : ℕ) → AreOfList f kind d (clause_list f kind d)
  whole_of d = All-contains_itself (clause_list f kind d)
