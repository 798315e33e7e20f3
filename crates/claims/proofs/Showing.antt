-- What makes the list of a step true shows a state and a next one.
use Rattle.std.proofs.Common.{◌≡◌, ℕ, zero, suc, ◌≤◌, Bool, true, IsTrue, refl, sym, ◌∙◌, arith, [], ◌∷◌, ◌++◌, filter, flat_map, Contains}
use Rattle.std.specs.List.{AllByRecursion as Each}
use Rattle.std.proofs.lemmas.List.Elements.{recursion_from_All}
use Rattle.ltl_syntax.specs.declared.node.Kind.TheVariants as Kinds
use Rattle.ltl_syntax.specs.Formula.{Formula}
use Rattle.cnf_base.specs.Meaning.{Satisfies, clause_value}
use Rattle.ltl_closure.specs.Norm.{Norm, NNext, NYesterday, NWeakYesterday, pos_of}
use Rattle.ltl_closure.specs.Closure.{closure, nexts, yesterdays, argument, is_yesterday}
use Rattle.ltl_closure.specs.Run.{val}
use Rattle.ltl_closure.proofs.Lists.{Contains-filter}
use Rattle.ltl_closure.proofs.Entries.{closure_root}
use Rattle.ltl_closure.proofs.Known.{next_in, yesterday_in}
use Rattle.enc_layout.specs.Letters.{Meaning}
use Rattle.enc_layout.specs.Clauses.{Clause, Minus, letter_of, gates_part, links_part, acceptance_part, start, next_clauses, before_clauses, is_strong_next}
use Rattle.enc_layout.proofs.Each.{Each-left, Each-right, flat_map-Each, map-Each}
use Rattle.enc_layout.proofs.Gates.{IsTrueClause, gate_value}
use Rattle.enc_layout.proofs.Carries.{argument_in, then1, then_not, agree}
use Rattle.claims.specs.Between.{after, first, last, step_clauses, step_list}
use Rattle.claims.specs.Sequences.{IsFirst, AreLinked, IsLast, state_in}
use Rattle.claims.specs.Laws.{StepsShowStates}
use Rattle.claims.proofs.Stepping.{meaning_in, by_meaning}

module _ (f : Formula) (v : ℕ → Bool) (holds : Satisfies v (step_list f)) where
  abbrev V : Meaning → Bool
  V = meaning_in f v

  abbrev T : Clause → Type 0
  T = IsTrueClause V

  all : Each T (step_clauses f)
  all = by_meaning f v (step_clauses f) (recursion_from_All (λ c. clause_value v c ≡ true) (step_list f) holds)

  -- what stands behind the gates of both states
  links : Each T (links_part f 1 ++ (links_part f 0 ++ acceptance_part f Kinds.Finite 0))
  links = Each-right T (gates_part f 1) (links_part f 1 ++ (links_part f 0 ++ acceptance_part f Kinds.Finite 0)) (Each-right T (gates_part f 0) _ all)

  ends : Each T (links_part f 0 ++ acceptance_part f Kinds.Finite 0)
  ends = Each-right T (links_part f 1) (links_part f 0 ++ acceptance_part f Kinds.Finite 0) links

  gates : (i : ℕ) → i ≤ 1 → Each T (gates_part f i)
  gates zero le = Each-left T (gates_part f 0) (gates_part f 1 ++ (links_part f 1 ++ (links_part f 0 ++ acceptance_part f Kinds.Finite 0))) all
  gates (suc zero) le =
      Each-left T (gates_part f 1) (links_part f 1 ++ (links_part f 0 ++ acceptance_part f Kinds.Finite 0)) (Each-right T (gates_part f 0) _ all)
  gates (suc (suc i)) le = absurd (omega arith)

  value : (i : ℕ) → i ≤ 1 → (e : Norm) → Contains (closure f) e → V (letter_of f i e) ≡ val (state_in f v i) e
  value i le e m = gate_value f i V (gates i le) e m

  linked : IsTrue (V after) → AreLinked f (state_in f v 0) (state_in f v 1)
  linked h =
      let both : Each T (links_part f 1) = Each-left T (links_part f 1) (links_part f 0 ++ acceptance_part f Kinds.Finite 0) links in
      let front = Each-left T (flat_map (next_clauses f 0) (nexts f)) (flat_map (before_clauses f 0) (yesterdays f)) both in
      let back = Each-right T (flat_map (next_clauses f 0) (nexts f)) (flat_map (before_clauses f 0) (yesterdays f)) both in
      record {
        next = λ e m.
            let c = flat_map-Each T (next_clauses f 0) (nexts f) front e m in
            agree (V after) (V (letter_of f 0 e)) (V (letter_of f 1 (argument e))) c.0 c.1.0 h
            ∙ value 1 (omega arith) (argument e) (argument_in f e (next_in f e m));
        before = λ e m.
            let c = flat_map-Each T (before_clauses f 0) (yesterdays f) back e m in
            agree (V after) (V (letter_of f 1 e)) (V (letter_of f 0 (argument e))) c.0 c.1.0 h
            ∙ value 0 (omega arith) (argument e) (argument_in f e (yesterday_in f e m));
      }

  begins : IsTrue (V first) → IsFirst f (state_in f v 0)
  begins h =
      let c : Each T (links_part f 0) = Each-left T (links_part f 0) (acceptance_part f Kinds.Finite 0) ends in
      record {
        root = sym (value 0 (omega arith) (pos_of f) (closure_root f)) ∙ then1 (V first) (V (letter_of f 0 (pos_of f))) c.0 h;
        yesterday = λ a m.
            then_not (V first) (V (letter_of f 0 (NYesterday a)))
            (flat_map-Each T (start f) (yesterdays f) c.1 (NYesterday a) (Contains-filter is_yesterday (closure f) (NYesterday a) m refl)).0 h;
        weak_yesterday = λ a m.
            then1 (V first) (V (letter_of f 0 (NWeakYesterday a)))
            (flat_map-Each T (start f) (yesterdays f) c.1 (NWeakYesterday a) (Contains-filter is_yesterday (closure f) (NWeakYesterday a) m refl)).0 h;
      }

  finishes : IsTrue (V last) → IsLast f (state_in f v 0)
  finishes h a m =
      let c = Each-right T (links_part f 0) (acceptance_part f Kinds.Finite 0) ends in
      then_not (V last) (V (letter_of f 0 (NNext a)))
      (map-Each T (λ t. Minus last ∷ Minus (letter_of f 0 t) ∷ []) (filter is_strong_next (closure f)) c (NNext a)
      (Contains-filter is_strong_next (closure f) (NNext a) m refl)) h

pub steps_show_states : StepsShowStates
steps_show_states f v holds = record { values = value f v holds; linked = linked f v holds; first = begins f v holds; last = finishes f v holds }
