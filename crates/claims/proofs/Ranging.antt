-- The letters of the list of a step are from 1 to the greatest.
use Rattle.std.proofs.Common.{◌≤◌, true, false, arith, List, [], ◌∷◌, ◌++◌, map, flat_map, filter, All, Contains}
use Rattle.std.specs.List.{AllByRecursion as Each}
use Rattle.std.proofs.lemmas.List.Elements.{All-from_recursion}
use Rattle.ltl_syntax.specs.declared.node.Kind.TheVariants as Kinds
use Rattle.ltl_syntax.specs.Formula.{Formula}
use Rattle.cnf_base.specs.Known.{IsKnown}
use Rattle.ltl_closure.specs.Norm.{Norm, NConst, NLetter, NNotLetter, NAnd, NOr, NNext, NWeakNext, NYesterday, NWeakYesterday, NUntil, NRelease, NSince}
use Rattle.ltl_closure.specs.Norm.{NTrigger, pos_of}
use Rattle.ltl_closure.specs.Closure.{closure, nexts, yesterdays, argument}
use Rattle.ltl_closure.specs.Keys.{needs}
use Rattle.ltl_closure.proofs.Lists.{Contains-from_filter}
use Rattle.ltl_closure.proofs.Entries.{closure_root}
use Rattle.ltl_closure.proofs.Places.{place_from_one, place_within}
use Rattle.ltl_closure.proofs.Known.{next_in, yesterday_in}
use Rattle.enc_layout.specs.Letters.{Meaning}
use Rattle.enc_layout.specs.Clauses.{Literal, Plus, Minus, Clause, letter_of, strong_gate, weak_gate, gate, gates_part, links_part, acceptance_part, start}
use Rattle.enc_layout.specs.Clauses.{next_clauses, before_clauses, is_strong_next}
use Rattle.enc_layout.proofs.Each.{Each-append, Each-flat_map, Each-map}
use Rattle.enc_layout.proofs.Carries.{argument_in}
use Rattle.enc_layout.proofs.Within.{letter_in}
use Rattle.claims.specs.Between.{after, first, last, width, number_of, greatest, signed, step_clauses, step_list}
use Rattle.claims.specs.Laws.{LettersAreKnown}
use Rattle.claims.proofs.Gating.{of_needed}

module _ (f : Formula) where
  -- the letter has a number
  abbrev Numbered : Meaning → Type 0
  Numbered p = (1 ≤ number_of (width f) p) × (number_of (width f) p ≤ greatest f)

  abbrev Ranges : Clause → Type 0
  Ranges c = Each (λ l. Numbered (letter_in l)) c

  strong_ranges : (g a b r : Meaning) → Numbered g → Numbered a → Numbered b → Numbered r → Each Ranges (strong_gate g a b r)
  strong_ranges g a b r hg ha hb hr = ((hg, (hb, tt)), ((hg, (ha, (hr, tt))), ((hg, (hb, (ha, tt))), ((hg, (hb, (hr, tt))), tt))))

  weak_ranges : (g a b r : Meaning) → Numbered g → Numbered a → Numbered b → Numbered r → Each Ranges (weak_gate g a b r)
  weak_ranges g a b r hg ha hb hr = ((hg, (hb, tt)), ((hg, (ha, (hr, tt))), ((hg, (hb, (ha, tt))), ((hg, (hb, (hr, tt))), tt))))

  module _ (v : Norm → Meaning) (entry : (e : Norm) → Contains (closure f) e → Numbered (v e)) where
    needed : (e : Norm) → Contains (closure f) e → Each (λ x. Numbered (v x)) (needs e)
    needed e m = of_needed f (λ x. Numbered (v x)) entry e m

    gate_ranges : (e : Norm) → Contains (closure f) e → Each Ranges (gate v e)
    gate_ranges (NConst true) m = ((entry (NConst true) m, tt), tt)
    gate_ranges (NConst false) m = ((entry (NConst false) m, tt), tt)
    gate_ranges (NLetter p) m = tt
    gate_ranges (NNotLetter p) m =
        let g = entry (NNotLetter p) m in
        let n = needed (NNotLetter p) m in
        ((g, (n.0, tt)), ((g, (n.0, tt)), tt))
    gate_ranges (NAnd a b) m =
        let g = entry (NAnd a b) m in
        let n = needed (NAnd a b) m in
        ((g, (n.0, tt)), ((g, (n.1.0, tt)), ((g, (n.0, (n.1.0, tt))), tt)))
    gate_ranges (NOr a b) m =
        let g = entry (NOr a b) m in
        let n = needed (NOr a b) m in
        ((g, (n.0, tt)), ((g, (n.1.0, tt)), ((g, (n.0, (n.1.0, tt))), tt)))
    gate_ranges (NNext a) m = tt
    gate_ranges (NWeakNext a) m = tt
    gate_ranges (NYesterday a) m = tt
    gate_ranges (NWeakYesterday a) m = tt
    gate_ranges (NUntil a b) m =
        let n = needed (NUntil a b) m in
        strong_ranges (v (NUntil a b)) (v a) (v b) (v (NNext (NUntil a b))) (entry (NUntil a b) m) n.0 n.1.0 n.1.1.0
    gate_ranges (NSince a b) m =
        let n = needed (NSince a b) m in
        strong_ranges (v (NSince a b)) (v a) (v b) (v (NYesterday (NSince a b))) (entry (NSince a b) m) n.0 n.1.0 n.1.1.0
    gate_ranges (NRelease a b) m =
        let n = needed (NRelease a b) m in
        weak_ranges (v (NRelease a b)) (v a) (v b) (v (NWeakNext (NRelease a b))) (entry (NRelease a b) m) n.0 n.1.0 n.1.1.0
    gate_ranges (NTrigger a b) m =
        let n = needed (NTrigger a b) m in
        weak_ranges (v (NTrigger a b)) (v a) (v b) (v (NWeakYesterday (NTrigger a b))) (entry (NTrigger a b) m) n.0 n.1.0 n.1.1.0

    gates_range : Each Ranges (flat_map (gate v) (closure f))
    gates_range = Each-flat_map Ranges (gate v) (closure f) gate_ranges

  here : (e : Norm) → Contains (closure f) e → Numbered (letter_of f 0 e)
  here e m =
      let one = place_from_one (closure f) e in
      let most = place_within (closure f) e m in
      (omega (arith, one), omega (arith, most))

  next : (e : Norm) → Contains (closure f) e → Numbered (letter_of f 1 e)
  next e m =
      let one = place_from_one (closure f) e in
      let most = place_within (closure f) e m in
      (omega (arith, one), omega (arith, most))

  after_range : Numbered after
  after_range = (omega arith, omega arith)

  first_range : Numbered first
  first_range = (omega arith, omega arith)

  last_range : Numbered last
  last_range = (omega arith, omega arith)

  next_ranges : (e : Norm) → Contains (nexts f) e → Each Ranges (next_clauses f 0 e)
  next_ranges e m =
      let x = here e (next_in f e m) in
      let y = next (argument e) (argument_in f e (next_in f e m)) in
      ((after_range, (x, (y, tt))), ((after_range, (x, (y, tt))), tt))

  before_ranges : (e : Norm) → Contains (yesterdays f) e → Each Ranges (before_clauses f 0 e)
  before_ranges e m =
      let x = next e (yesterday_in f e m) in
      let y = here (argument e) (argument_in f e (yesterday_in f e m)) in
      ((after_range, (x, (y, tt))), ((after_range, (x, (y, tt))), tt))

  start_ranges : (e : Norm) → Contains (closure f) e → Each Ranges (start f e)
  start_ranges (NYesterday a) m = ((first_range, (here (NYesterday a) m, tt)), tt)
  start_ranges (NWeakYesterday a) m = ((first_range, (here (NWeakYesterday a) m, tt)), tt)
  start_ranges e m = tt

  links_range : Each Ranges (links_part f 1)
  links_range = Each-append Ranges (flat_map (next_clauses f 0) (nexts f)) (flat_map (before_clauses f 0) (yesterdays f))
      (Each-flat_map Ranges (next_clauses f 0) (nexts f) next_ranges) (Each-flat_map Ranges (before_clauses f 0) (yesterdays f) before_ranges)

  starts_range : Each Ranges (links_part f 0)
  starts_range =
      ((first_range, (here (pos_of f) (closure_root f), tt)), Each-flat_map Ranges (start f) (yesterdays f) (λ e m. start_ranges e (yesterday_in f e m)))

  ends_range : Each Ranges (acceptance_part f Kinds.Finite 0)
  ends_range = Each-map Ranges (λ t. Minus last ∷ Minus (letter_of f 0 t) ∷ []) (filter is_strong_next (closure f))
      (λ e m. (last_range, (here e (Contains-from_filter is_strong_next (closure f) e m).0, tt)))

  clauses_range : Each Ranges (step_clauses f)
  clauses_range =
      Each-append Ranges (gates_part f 0) (gates_part f 1 ++ (links_part f 1 ++ (links_part f 0 ++ acceptance_part f Kinds.Finite 0)))
      (gates_range (letter_of f 0) here)
      (Each-append Ranges (gates_part f 1) (links_part f 1 ++ (links_part f 0 ++ acceptance_part f Kinds.Finite 0)) (gates_range (letter_of f 1) next)
      (Each-append Ranges (links_part f 1) (links_part f 0 ++ acceptance_part f Kinds.Finite 0) links_range
      (Each-append Ranges (links_part f 0) (acceptance_part f Kinds.Finite 0) starts_range ends_range)))

  literal_known : (l : Literal) → Numbered (letter_in l) → IsKnown (greatest f) (signed f l)
  literal_known (Plus p) h = record { from_one = h.0; within = h.1 }
  literal_known (Minus p) h = record { from_one = h.0; within = h.1 }

  literals_known : (ls : List Literal) → Ranges ls → Each (IsKnown (greatest f)) (map (signed f) ls)
  literals_known [] h = tt
  literals_known (l ∷ ls) h = (literal_known l h.0, literals_known ls h.1)

  clauses_known : (cs : List Clause) → Each Ranges cs → Each (λ c. All (IsKnown (greatest f)) c) (map (map (signed f)) cs)
  clauses_known [] h = tt
  clauses_known (c ∷ cs) h = (All-from_recursion (IsKnown (greatest f)) (map (signed f) c) (literals_known c h.0), clauses_known cs h.1)

pub letters_known : LettersAreKnown
letters_known f = All-from_recursion (λ c. All (IsKnown (greatest f)) c) (step_list f) (clauses_known f (step_clauses f) (clauses_range f))
