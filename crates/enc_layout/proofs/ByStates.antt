-- What an assignment that makes the clauses of the states true says of the run that its letters give.
use Rattle.std.proofs.Common.{◌≡◌, ℕ, zero, suc, ◌≤◌, Bool, IsTrue, inl, inr, refl, arith, ◌∙◌, subst, ◌++◌, Contains, flat_map}
use Rattle.std.specs.List.{AllByRecursion as Each}
use Rattle.std.proofs.lemmas.Bool.{cases_lt}
use Rattle.ltl_syntax.specs.Formula.{Formula}
use Rattle.ltl_closure.specs.Norm.{Norm, NYesterday, NWeakYesterday, pos_of}
use Rattle.ltl_closure.specs.Closure.{closure, nexts, yesterdays, argument, is_yesterday}
use Rattle.ltl_closure.specs.Run.{States, IsRun, val}
use Rattle.ltl_closure.proofs.Lists.{Contains-filter}
use Rattle.ltl_closure.proofs.Entries.{closure_root}
use Rattle.ltl_closure.proofs.Known.{next_in, yesterday_in}
use Rattle.enc_layout.specs.Letters.{Meaning, Here, below}
use Rattle.enc_layout.specs.Clauses.{letter_of, chain_part, gates_part, start, next_clauses, before_clauses, links_part, state_clauses}
use Rattle.enc_layout.proofs.Each.{Each-left, Each-right, below-Each, flat_map-Each}
use Rattle.enc_layout.proofs.Gates.{IsTrueClause, gate_value}
use Rattle.enc_layout.proofs.Carries.{argument_in, then1, then_not, agree}

module _ (f : Formula) (d : ℕ) (v : Meaning → Bool)
    (holds : Each (IsTrueClause v) (below (suc d) (state_clauses f))) where
  at_step : (i : ℕ) → i ≤ d → Each (IsTrueClause v) (state_clauses f i)
  at_step i le = below-Each (IsTrueClause v) (suc d) (state_clauses f) holds i (omega arith)

  late : (i : ℕ) → i ≤ d → Each (IsTrueClause v) (gates_part f i ++ links_part f i)
  late i le = Each-right (IsTrueClause v) (chain_part i) (gates_part f i ++ links_part f i) (at_step i le)

  in_a : (i : ℕ) → i ≤ d → Each (IsTrueClause v) (chain_part i)
  in_a i le = Each-left (IsTrueClause v) (chain_part i) (gates_part f i ++ links_part f i) (at_step i le)

  in_b : (i : ℕ) → i ≤ d → Each (IsTrueClause v) (gates_part f i)
  in_b i le = Each-left (IsTrueClause v) (gates_part f i) (links_part f i) (late i le)

  in_c : (i : ℕ) → i ≤ d → Each (IsTrueClause v) (links_part f i)
  in_c i le = Each-right (IsTrueClause v) (gates_part f i) (links_part f i) (late i le)

  -- the states that the letters give
  abbrev pub given : States
  given i e = v (letter_of f i e)

  pub state_value : (i : ℕ) → i ≤ d → (e : Norm) → Contains (closure f) e → v (letter_of f i e) ≡ val (given i) e
  state_value i le e m = gate_value f i v (in_b i le) e m

  here_down : (k i : ℕ) → k ≤ d → IsTrue (v (Here k)) → i ≤ k → IsTrue (v (Here i))
  here_down zero i le h ik = let e : zero ≡ i = omega arith in subst (λ n. IsTrue (v (Here n))) e h
  here_down (suc k) i le h ik = elim (cases_lt i (suc k)) [
    | inl before ↦ here_down k i (omega arith) (then1 (v (Here (suc k))) (v (Here k)) (in_a (suc k) le).0 h) (omega arith)
    | inr here ↦ let e : suc k ≡ i = omega arith in subst (λ n. IsTrue (v (Here n))) e h
  ]

  pub gives_run : (k : ℕ) → k ≤ d → IsTrue (v (Here k)) → IsRun f k given
  gives_run k le h =
      let first : IsTrue (v (Here 0)) = here_down k 0 le h (omega arith) in
      let c = in_c 0 (omega arith) in
      record {
        root = subst IsTrue (state_value 0 (omega arith) (pos_of f) (closure_root f)) (then1 (v (Here 0)) (v (letter_of f 0 (pos_of f))) c.0 first);
        yesterday = λ a m.
            let in_yesterdays = Contains-filter is_yesterday (closure f) (NYesterday a) m refl in
            then_not (v (Here 0)) (v (letter_of f 0 (NYesterday a)))
            (flat_map-Each (IsTrueClause v) (start f) (yesterdays f) c.1 (NYesterday a) in_yesterdays).0 first;
        weak_yesterday = λ a m.
            let in_yesterdays = Contains-filter is_yesterday (closure f) (NWeakYesterday a) m refl in
            then1 (v (Here 0)) (v (letter_of f 0 (NWeakYesterday a)))
            (flat_map-Each (IsTrueClause v) (start f) (yesterdays f) c.1 (NWeakYesterday a) in_yesterdays).0 first;
        next = λ i lt e m.
            let links =
            Each-left (IsTrueClause v) (flat_map (next_clauses f i) (nexts f)) (flat_map (before_clauses f i) (yesterdays f)) (in_c (suc i) (omega arith)) in
            let c = flat_map-Each (IsTrueClause v) (next_clauses f i) (nexts f) links e m in
            agree (v (Here (suc i))) (v (letter_of f i e)) (v (letter_of f (suc i) (argument e))) c.0 c.1.0 (here_down k (suc i) le h (omega arith))
            ∙ state_value (suc i) (omega arith) (argument e) (argument_in f e (next_in f e m));
        before = λ i lt e m.
            let links =
            Each-right (IsTrueClause v) (flat_map (next_clauses f i) (nexts f)) (flat_map (before_clauses f i) (yesterdays f)) (in_c (suc i) (omega arith)) in
            let c = flat_map-Each (IsTrueClause v) (before_clauses f i) (yesterdays f) links e m in
            agree (v (Here (suc i))) (v (letter_of f (suc i) e)) (v (letter_of f i (argument e))) c.0 c.1.0 (here_down k (suc i) le h (omega arith))
            ∙ state_value i (omega arith) (argument e) (argument_in f e (yesterday_in f e m));
      }
