-- A state and the next one make the list of a step true.
use Rattle.std.proofs.Common.{◌≡◌, ℕ, Bool, true, ◌||◌, IsTrue, IsFalse, refl, ap₂, sym, ◌∙◌, List, [], ◌∷◌, ◌++◌, map, flat_map, filter, Contains}
use Rattle.std.specs.List.{AllByRecursion as Each}
use Rattle.std.proofs.lemmas.List.Elements.{All-from_recursion}
use Rattle.ltl_syntax.specs.declared.node.Kind.TheVariants as Kinds
use Rattle.ltl_syntax.specs.Formula.{Formula}
use Rattle.cnf_base.specs.Meaning.{Satisfies, literal_value, clause_value}
use Rattle.ltl_closure.specs.Norm.{Norm, NNext, NYesterday, NWeakYesterday, pos_of}
use Rattle.ltl_closure.specs.Closure.{closure, nexts, yesterdays, argument, is_next, is_yesterday}
use Rattle.ltl_closure.specs.Run.{RunState, val}
use Rattle.ltl_closure.proofs.Lists.{Contains-from_filter}
use Rattle.ltl_closure.proofs.Entries.{closure_root}
use Rattle.ltl_closure.proofs.Known.{next_in, yesterday_in}
use Rattle.enc_layout.specs.Letters.{Meaning}
use Rattle.enc_layout.specs.Clauses.{Literal, Plus, Minus, Clause, literal_true, clause_true, letter_of, gates_part, links_part, acceptance_part, start}
use Rattle.enc_layout.specs.Clauses.{next_clauses, before_clauses, is_strong_next}
use Rattle.enc_layout.proofs.Each.{Each-append, Each-flat_map, Each-map}
use Rattle.enc_layout.proofs.Gates.{IsTrueClause}
use Rattle.enc_layout.proofs.Carries.{next_value, argument_in}
use Rattle.claims.specs.Between.{after, first, last, width, number_of, signed, step_clauses, step_list}
use Rattle.claims.specs.Sequences.{IsFirst, AreLinked, IsLast, step_values}
use Rattle.claims.specs.Laws.{StatesMakeSteps}
use Rattle.claims.proofs.Values.{meaning_value, entry_here, entry_next, after_value, first_value, last_value}
use Rattle.claims.proofs.Gating.{imp, unless, only, agree_true, gates_true}

yesterday_value : (s : RunState) (e : Norm) → IsTrue (is_yesterday e) → val s e ≡ s e
yesterday_value s (NYesterday a) h = refl
yesterday_value s (NWeakYesterday a) h = refl
yesterday_value s e h = cc

module _ (f : Formula) (v : ℕ → Bool) where
  -- the value of a letter, by what it stands for
  abbrev pub meaning_in : Meaning → Bool
  meaning_in p = v (number_of (width f) p)

  literal_same : (l : Literal) → literal_value v (signed f l) ≡ literal_true meaning_in l
  literal_same (Plus p) = refl
  literal_same (Minus p) = refl

  clause_same : (c : Clause) → clause_value v (map (signed f) c) ≡ clause_true meaning_in c
  clause_same [] = refl
  clause_same (l ∷ ls) = ap₂ ◌||◌ (literal_same l) (clause_same ls)

  by_number : (cs : List Clause) → Each (IsTrueClause meaning_in) cs → Each (λ c. clause_value v c ≡ true) (map (map (signed f)) cs)
  by_number [] h = tt
  by_number (c ∷ cs) h = (clause_same c ∙ h.0, by_number cs h.1)

  pub by_meaning : (cs : List Clause) → Each (λ c. clause_value v c ≡ true) (map (map (signed f)) cs) → Each (IsTrueClause meaning_in) cs
  by_meaning [] h = tt
  by_meaning (c ∷ cs) h = (sym (clause_same c) ∙ h.0, by_meaning cs h.1)

module _ (f : Formula) (s u : RunState) (has_next is_first is_last : Bool) where
  module _ (linked : IsTrue has_next → AreLinked f s u) (begins : IsTrue is_first → IsFirst f s) (ends : IsTrue is_last → IsLast f s) where
    abbrev V : Meaning → Bool
    V = meaning_value f s u has_next is_first is_last

    abbrev T : Clause → Type 0
    T = IsTrueClause V

    here : (e : Norm) → Contains (closure f) e → V (letter_of f 0 e) ≡ val s e
    here e m = entry_here f s u has_next is_first is_last e m

    next : (e : Norm) → Contains (closure f) e → V (letter_of f 1 e) ≡ val u e
    next e m = entry_next f s u has_next is_first is_last e m

    next_true : (e : Norm) → Contains (nexts f) e → Each T (next_clauses f 0 e)
    next_true e m = agree_true (V after) (V (letter_of f 0 e)) (V (letter_of f 1 (argument e))) (λ h.
        let links = linked (sym (after_value f s u has_next is_first is_last) ∙ h) in
        let t = (Contains-from_filter is_next (closure f) e m).1 in
        here e (next_in f e m) ∙ (next_value s e t ∙ (links.next e m ∙ sym (next (argument e) (argument_in f e (next_in f e m))))))

    before_true : (e : Norm) → Contains (yesterdays f) e → Each T (before_clauses f 0 e)
    before_true e m = agree_true (V after) (V (letter_of f 1 e)) (V (letter_of f 0 (argument e))) (λ h.
        let links = linked (sym (after_value f s u has_next is_first is_last) ∙ h) in
        let t = (Contains-from_filter is_yesterday (closure f) e m).1 in
        next e (yesterday_in f e m) ∙ (yesterday_value u e t ∙ (links.before e m ∙ sym (here (argument e) (argument_in f e (yesterday_in f e m))))))

    links_true : Each T (links_part f 1)
    links_true = Each-append T (flat_map (next_clauses f 0) (nexts f)) (flat_map (before_clauses f 0) (yesterdays f))
        (Each-flat_map T (next_clauses f 0) (nexts f) next_true) (Each-flat_map T (before_clauses f 0) (yesterdays f) before_true)

    on_first : IsTrue (V first) → IsFirst f s
    on_first h = begins (sym (first_value f s u has_next is_first is_last) ∙ h)

    start_true : (e : Norm) → Contains (closure f) e → Each T (start f e)
    start_true (NYesterday a) m =
        (imp (V first) _ (λ h. unless (V (letter_of f 0 (NYesterday a))) (here (NYesterday a) m ∙ (on_first h).yesterday a m)), tt)
    start_true (NWeakYesterday a) m =
        (imp (V first) _ (λ h. only (V (letter_of f 0 (NWeakYesterday a))) (here (NWeakYesterday a) m ∙ (on_first h).weak_yesterday a m)), tt)
    start_true e m = tt

    first_true : Each T (links_part f 0)
    first_true = (
      imp (V first) _ (λ h. only (V (letter_of f 0 (pos_of f))) (here (pos_of f) (closure_root f) ∙ (on_first h).root)),
      Each-flat_map T (start f) (yesterdays f) (λ e m. start_true e (yesterday_in f e m)),
    )

    strong_false : (e : Norm) → Contains (closure f) e → IsTrue (is_strong_next e) → IsTrue (V last) → IsFalse (V (letter_of f 0 e))
    strong_false (NNext a) m t h = here (NNext a) m ∙ ends (sym (last_value f s u has_next is_first is_last) ∙ h) a m
    strong_false e m t h = cc

    last_true : Each T (acceptance_part f Kinds.Finite 0)
    last_true = Each-map T (λ t. Minus last ∷ Minus (letter_of f 0 t) ∷ []) (filter is_strong_next (closure f)) (λ e m.
        let w = Contains-from_filter is_strong_next (closure f) e m in
        imp (V last) _ (λ h. unless (V (letter_of f 0 e)) (strong_false e w.0 w.1 h)))

    clauses_true : Each T (step_clauses f)
    clauses_true =
        Each-append T (gates_part f 0) (gates_part f 1 ++ (links_part f 1 ++ (links_part f 0 ++ acceptance_part f Kinds.Finite 0)))
        (gates_true f (letter_of f 0) V s here)
        (Each-append T (gates_part f 1) (links_part f 1 ++ (links_part f 0 ++ acceptance_part f Kinds.Finite 0)) (gates_true f (letter_of f 1) V u next)
        (Each-append T (links_part f 1) (links_part f 0 ++ acceptance_part f Kinds.Finite 0) links_true
        (Each-append T (links_part f 0) (acceptance_part f Kinds.Finite 0) first_true last_true)))

    pub step_true : Satisfies (step_values f s u has_next is_first is_last) (step_list f)
    step_true =
        let v : ℕ → Bool = step_values f s u has_next is_first is_last in
        All-from_recursion (λ c. clause_value v c ≡ true) (step_list f) (by_number f v (step_clauses f) clauses_true)

pub states_make_steps : StatesMakeSteps
states_make_steps f s u has_next is_first is_last linked begins ends = step_true f s u has_next is_first is_last linked begins ends
