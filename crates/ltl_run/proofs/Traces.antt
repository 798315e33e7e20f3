-- An accepted run has a trace, and so a verdict of SAT has one that satisfies the formula.
use Rattle.std.proofs.Common.{◌≡◌, ℕ, suc, ◌≤◌, ◌↔◌, inl, inr, List, [], ◌∷◌, map, filter, Bool, ◌&&◌, Contains, IsTrue, sym, ◌∙◌, ap, subst, arith}
use Rattle.std.specs.List.{range_with_len}
use Rattle.std.proofs.lemmas.Bool.{and_parts}
use Rattle.std.proofs.lemmas.List.FromFn.{length-map-range_with_len, get_or-map-range_with_len}
use Rattle.ltl_syntax.specs.declared.node.Kind.{Kind}
use Rattle.ltl_syntax.specs.Formula.{Atom, Formula}
use Rattle.ltl_word.specs.declared.trace.Trace.{Trace}
use Rattle.ltl_word.specs.Trace.{Names, IsTrace, IsOfKind}
use Rattle.ltl_word.specs.Holds.{name_of, Satisfies}
use Rattle.ltl_closure.specs.Norm.{Norm, NLetter}
use Rattle.ltl_closure.specs.Closure.{closure}
use Rattle.ltl_closure.specs.Run.{RunState, States, HasAccepted, IsVerdict, accepted, Verdict, Sat, bound}
use Rattle.ltl_closure.proofs.Lists.{Contains-nil, Contains-cons_cases, Contains-here, Contains-there, Contains-filter, Contains-from_filter}
use Rattle.ltl_run.specs.declared.run_state.Close.{Close}
use Rattle.ltl_run.specs.Plain.{HasPlainNames}
use Rattle.ltl_run.specs.States.{is_letter}
use Rattle.ltl_run.specs.TraceOf.{Accepts, Shows, AreShown, GivesTrace, closed_by}
use Rattle.ltl_run.proofs.PlainNames.{closure_letter}
use Rattle.ltl_run.proofs.Naming.{the_name, one_name}
use Rattle.ltl_run.proofs.Choosing.{letter_of}
use Rattle.ltl_run.proofs.Closed.{shown_gives}
use Rattle.ltl_run.proofs.Closing.{rule_of, run_satisfies}
use Rattle.ltl_run.proofs.Least.{found_at_bound}

contains_map : {X Y : Type 0} (f : X → Y) (xs : List X) (x : X) → Contains xs x → Contains (map f xs) (f x)
contains_map f [] x c = absurd (Contains-nil x c)
contains_map f (y ∷ ys) x c = elim (Contains-cons_cases y ys x c) [
  | inl e ↦ subst (λ z. Contains (map f (y ∷ ys)) (f z)) e (Contains-here (f y) (map f ys))
  | inr d ↦ Contains-there (f y) (map f ys) (f x) (contains_map f ys x d)
]

map_contains : {X Y : Type 0} (f : X → Y) (xs : List X) (y : Y) → Contains (map f xs) y → (x : X) × Contains xs x × (f x ≡ y)
map_contains f [] y c = absurd (Contains-nil y c)
map_contains f (x ∷ xs) y c = elim (Contains-cons_cases (f x) (map f xs) y c) [
  | inl e ↦ (x, Contains-here x xs, e)
  | inr d ↦ let w = map_contains f xs y d in (w.0, Contains-there x xs w.0 w.1, w.2)
]

-- whether it is a letter that is true
abbrev is_true_letter : RunState → Norm → Bool
is_true_letter s e = is_letter e && s e

module _ (f : Formula) (plain : HasPlainNames f) where
  -- the names of the letters that are true in a state
  abbrev names_in : RunState → Names
  names_in s = map the_name (filter (is_true_letter s) (closure f))

  letter_named : (s : RunState) (name : List ℕ) → Contains (names_in s) name
      → (p : Atom) × Contains (closure f) (NLetter p) × IsTrue (s (NLetter p)) × (name ≡ name_of p)
  letter_named s name c =
      let w = map_contains the_name (filter (is_true_letter s) (closure f)) name c in
      let v = Contains-from_filter (is_true_letter s) (closure f) w.0 w.1 in
      let t = and_parts (is_letter w.0) (s w.0) v.1 in
      let p = letter_of w.0 t.0 in
      (p.0, subst (Contains (closure f)) p.1 v.0, subst (λ e. IsTrue (s e)) p.1 t.1, sym w.2 ∙ ap the_name p.1)

  names_show : (s : RunState) → Shows f s (names_in s)
  names_show s = record {
    letters = λ p c. (
      λ t. contains_map the_name (filter (is_true_letter s) (closure f)) (NLetter p) (Contains-filter (is_true_letter s) (closure f) (NLetter p) c t),
      λ d.
          let w = letter_named s (name_of p) d in
          subst (λ q. IsTrue (s (NLetter q))) (sym (one_name p w.0 (plain p (closure_letter f p c)) (plain w.0 (closure_letter f w.0 w.1)) w.3)) w.2,
    );
    only = λ name c. let w = letter_named s name c in (w.0, w.1, w.3);
  }

  -- the states 0 to k
  abbrev shown : States → ℕ → List Names
  shown r k = map (λ i. names_in (r i)) (range_with_len 0 (suc k))

  shown_are : (r : States) (k : ℕ) → AreShown f r k (shown r k)
  shown_are r k = record {
    states_length = length-map-range_with_len (λ i. names_in (r i)) 0 (suc k);
    first =
        λ i le. subst (Shows f (r i)) (sym (get_or-map-range_with_len (λ i. names_in (r i)) 0 (suc k) i i [] (omega arith) (omega arith))) (names_show (r i));
  }

  pub accepted_has_trace : (kind : Kind) (k : ℕ) (r : States) (close : Close) → Accepts close f r k kind → (t : Trace) × GivesTrace f r k close t
  accepted_has_trace kind k r close acc = (closed_by close (shown r k), shown_gives f r k kind close (shown r k) acc (shown_are r k))

  pub accepted_satisfied : (kind : Kind) (k : ℕ) → HasAccepted f kind k → (t : Trace) × IsTrace t × IsOfKind t kind × Satisfies t f
  accepted_satisfied kind k (r, run, acc) =
      let rule = rule_of f kind k r acc in
      let w = accepted_has_trace kind k r rule.0 rule.1 in
      let v = run_satisfies f kind k r rule.0 w.0 run rule.1 w.1 in
      (w.0, v.0, v.1, v.2)

  pub sat_satisfied : (kind : Kind) (limit k : ℕ) → IsVerdict f kind limit (Sat k) → (t : Trace) × IsTrace t × IsOfKind t kind × Satisfies t f
  sat_satisfied kind limit k (accepted le open' has) = accepted_satisfied kind k has

  pub sat_exact : (kind : Kind) (limit : ℕ) (v : Verdict) → bound f kind ≤ limit → IsVerdict f kind limit v
      → ((k : ℕ) × (v ≡ Sat k)) ↔ ((t : Trace) × IsTrace t × IsOfKind t kind × Satisfies t f)
  sat_exact kind limit v le is = (
    λ w. sat_satisfied kind limit w.0 (subst (IsVerdict f kind limit) w.1 is),
    λ w. found_at_bound f kind limit v w.0 le is w.1 w.2 w.3,
  )
