-- The states that are read are those of the assignment, at the letters and the requests of the closure.
use Rattle.std.proofs.Common.{◌≡◌, ℕ, zero, suc, ◌+◌, ◌-◌, ◌<◌, ◌≤◌, Bool, false, IsTrue, refl, arith, ap, sym, ◌∙◌, subst, List, [], ◌∷◌, length, map, Some}
use Rattle.std.proofs.Common.{slice_get, Contains}
use Rattle.std.proofs.lemmas.List.{get_or-map}
use Rattle.std.proofs.lemmas.Simd.{map-map}
use Rattle.ltl_syntax.specs.declared.node.Kind.{Kind}
use Rattle.ltl_syntax.specs.Formula.{Formula}
use Rattle.ltl_closure.specs.Norm.{Norm, NConst, NLetter, NNext, NWeakNext, NYesterday, NWeakYesterday}
use Rattle.ltl_closure.specs.Closure.{closure, nexts, yesterdays, is_next, is_yesterday}
use Rattle.ltl_closure.specs.Entries.{place_in, numbers_of, ClosureValue}
use Rattle.ltl_closure.specs.Run.{IsRun}
use Rattle.ltl_closure.proofs.Lists.{Contains-filter, Contains-from_filter}
use Rattle.ltl_closure.proofs.Places.{place_from_one, place_within, entry_place}
use Rattle.ltl_run.specs.States.{is_letter, letters, value_among, value_in, value_if, run_of}
use Rattle.ltl_run.specs.declared.run_state.RunState.{RunState}
use Rattle.ltl_run.specs.declared.run_state.Close.{Close}
use Rattle.ltl_run.specs.TraceOf.{Accepts, GivesTrace}
use Rattle.ltl_word.specs.declared.trace.Trace.{Trace}
use Rattle.enc_layout.specs.Letters.{LayoutValue, EntryAt, number_of}
use Rattle.enc_layout.specs.Clauses.{counts, layout_of}
use Rattle.enc_layout.specs.Assigned.{states_of}
use Rattle.unravel.specs.Values.{values_at, IsRead, AreRead}
use Rattle.unravel.specs.Decision.{IsTraceOfRun}
use Rattle.unravel.proofs.Agreeing.{Agree, same_run, same_rule}

-- the value of a member
value_read : (es : List Norm) (g : Norm → Bool) (e : Norm) → Contains es e → value_among es (map g es) e ≡ g e
value_read es g e m =
    let from = place_from_one es e in
    let upto = place_within es e m in
    get_or-map g es (place_in es e - 1) (NConst false) false (omega arith) ∙ ap g (entry_place es e (NConst false) m)

next_among : (f : Formula) (s : RunState) (e : Norm) → IsTrue (is_next e) → value_in f s e ≡ value_among (nexts f) s.nexts.items e
next_among f s (NNext a) h = refl
next_among f s (NWeakNext a) h = refl
next_among f s e h = cc

yesterday_among : (f : Formula) (s : RunState) (e : Norm) → IsTrue (is_yesterday e) → value_in f s e ≡ value_among (yesterdays f) s.yesterdays.items e
yesterday_among f s (NYesterday a) h = refl
yesterday_among f s (NWeakYesterday a) h = refl
yesterday_among f s e h = cc

-- the values of the entries of a list's numbers are those of the assignment's state
pub values_are : (layout : LayoutValue) (c : ClosureValue) → layout ≡ layout_of c
    → (v : ℕ → Bool) (i : ℕ) (es : List Norm) (numbers : List ℕ) (values : List Bool)
    → values ≡ values_at layout v i numbers → numbers ≡ numbers_of c.formula es → values ≡ map (states_of c.formula c.kind v i) es
values_are layout c own v i es numbers values is are =
    is ∙ (ap (λ (m : LayoutValue). values_at m v i numbers) own ∙ (ap (values_at (layout_of c) v i) are
    ∙ map-map (λ t. v (number_of c.kind (counts c.formula) (EntryAt i t))) (place_in (closure c.formula)) es))

some_at : {X : Type 0} (xs : List X) (i : ℕ) → i < length xs → (x : X) × (slice_get xs i ≡ Some x)
some_at [] i lt = absurd (omega arith)
some_at (x ∷ xs) zero lt = (x, refl)
some_at (x ∷ xs) (suc i) lt = some_at xs i (omega arith)

module _ (f : Formula) (kind : Kind) (v : ℕ → Bool) where
  module _ (i : ℕ) (s : RunState) (read : IsRead f kind v i s) where
    agree_read : Agree f (states_of f kind v i) (value_in f s)
    agree_read = record {
      letter = λ p m. sym (ap (λ vs. value_among (letters f) vs (NLetter p)) read.letters
          ∙ value_read (letters f) (states_of f kind v i) (NLetter p) (Contains-filter is_letter (closure f) (NLetter p) m refl));
      next = λ e m. sym (next_among f s e (Contains-from_filter is_next (closure f) e m).1
          ∙ (ap (λ vs. value_among (nexts f) vs e) read.nexts ∙ value_read (nexts f) (states_of f kind v i) e m));
      before = λ e m. sym (yesterday_among f s e (Contains-from_filter is_yesterday (closure f) e m).1
          ∙ (ap (λ vs. value_among (yesterdays f) vs e) read.yesterdays ∙ value_read (yesterdays f) (states_of f kind v i) e m));
    }

  module _ (k : ℕ) (states : List RunState) (read : AreRead f kind v (k + 1) states) where
    last_is : length states - 1 ≡ k
    last_is = let e = read.count in omega arith

    -- the run of the states agrees with that of the assignment
    pub agree_all : (i : ℕ) → i ≤ k → Agree f (states_of f kind v i) (run_of f states i)
    agree_all i le =
        let long = read.count in
        let w = some_at states i (omega arith) in
        subst (λ o. Agree f (states_of f kind v i) (value_if f o)) (sym w.1) (agree_read i w.0 (read.each i w.0 w.1))

    module _ (run : IsRun f k (states_of f kind v)) where
      is_run : IsRun f k (run_of f states)
      is_run = same_run f k (states_of f kind v) (run_of f states) agree_all run

      pub read_run : IsRun f (length states - 1) (run_of f states)
      read_run = subst (λ n. IsRun f n (run_of f states)) (sym last_is) is_run

      module _ (close : Close) (accepts : Accepts close f (states_of f kind v) k kind) where
        is_rule : Accepts close f (run_of f states) k kind
        is_rule = same_rule f k (states_of f kind v) (run_of f states) agree_all close kind accepts

        pub read_rule : Accepts close f (run_of f states) (length states - 1) kind
        read_rule = subst (λ n. Accepts close f (run_of f states) n kind) (sym last_is) is_rule

        pub read_trace : (t : Trace) → GivesTrace f (run_of f states) (length states - 1) close t → IsTraceOfRun f kind k t
        read_trace t gives = (run_of f states, is_run, close, is_rule, subst (λ n. GivesTrace f (run_of f states) n close t) last_is gives)
