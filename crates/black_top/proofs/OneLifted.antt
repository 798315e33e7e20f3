-- A trace has one lifted trace whose states are sets, as those of a text that reads back are.
use Rattle.std.proofs.Common.{◌≡◌, ◌∙◌, ℕ, suc, ◌+◌, ◌-◌, ◌%◌, ◌<◌, ◌↔◌, inl, inr, Bool, true, false, List, [], ◌∷◌, length, slice_index_or, Contains, Result}
use Rattle.std.proofs.Common.{Ok, refl, sym, ap, subst, arith, lt-ltb, le-ltb}
use Rattle.std.specs.Bool.{Decides}
use Rattle.std.specs.Str.{bytes_eq}
use Rattle.std.proofs.lemmas.Bool.{cond-true, cond-false}
use Rattle.std.proofs.lemmas.Slice.Eq.{bytes_eq-Decides}
use Rattle.std.proofs.Math.Nat.{mod-eq_of_lt}
use Rattle.ltl_syntax.specs.Formula.{Formula}
use Rattle.ltl_word.specs.declared.trace.Trace.{Trace}
use Rattle.ltl_word.specs.declared.trace.Trace.TheVariants.{Infinite, Finite}
use Rattle.ltl_word.specs.declared.json.TraceFault.{TraceFault}
use Rattle.ltl_word.specs.Trace.{Names, IsTrace, IsPosition, state_at}
use Rattle.ltl_word.specs.Json.{trace_text, AreSetsOf, IsTraceOf, IsReading}
use Rattle.ltl_word.specs.Laws.{IsOneReading}
use Rattle.ltl_word.proofs.Search.{first_or_none}
use Rattle.depast.specs.Names.{most_leading, new_name}
use Rattle.depast.specs.Depast.{taken}
use Rattle.depast.specs.Lifting.{IsLifted}

pub text_decided : (xs ys : List ℕ) → Dec (xs ≡ ys)
text_decided xs ys = turn (bytes_eq xs ys) (bytes_eq-Decides xs ys) where
  turn : (b : Bool) → Decides b (xs ≡ ys) → Dec (xs ≡ ys)
  turn true d = yes (d.0 refl)
  turn false d = no (λ e. let f : false ≡ true = d.1 e in cc)

-- each name is new or old, so both have the same names at each position
same_names : (f : Formula) (t u v : Trace) → IsLifted f t u → IsLifted f t v → (i : ℕ) → IsPosition t i → (name : List ℕ)
    → Contains (state_at v i) name ↔ Contains (state_at u i) name
same_names f t u v h k i at name =
    elim (first_or_none (λ n. name ≡ new_name (most_leading f) n) (λ n. text_decided name (new_name (most_leading f) n)) (taken f)) [
      | inl w ↦
          let a = h.new_names i at w.0 w.1 in
          let b = k.new_names i at w.0 w.1 in
          subst (λ n. Contains (state_at v i) n ↔ Contains (state_at u i) n) (sym w.2) (λ c. a.1 (b.0 c), λ c. b.1 (a.0 c))
      | inr old ↦
          let a = h.old_names i at name old in
          let b = k.old_names i at name old in
          (λ c. a.1 (b.0 c), λ c. b.1 (a.0 c))
    ]

-- sets with the same names are sets of the same written names
sets_moved : (ws us ws' vs : List Names) → AreSetsOf ws us → AreSetsOf ws' vs → length us ≡ length vs
    → ((i : ℕ) → i < length us → (name : List ℕ) → Contains (slice_index_or vs i []) name ↔ Contains (slice_index_or us i []) name) → AreSetsOf ws vs
sets_moved [] [] ws' [] h k long same = tt
sets_moved [] [] ws' (v ∷ vs) h k long same = absurd (omega (arith, long))
sets_moved [] (u ∷ us) ws' vs h k long same = absurd h
sets_moved (w ∷ ws) [] ws' vs h k long same = absurd h
sets_moved (w ∷ ws) (u ∷ us) ws' [] h k long same = absurd (omega (arith, long))
sets_moved (w ∷ ws) (u ∷ us) [] (v ∷ vs) h k long same = absurd k
sets_moved (w ∷ ws) (u ∷ us) (w' ∷ ws') (v ∷ vs) h k long same = (
  (k.0.0, λ name. let s = same 0 (omega arith) name in let a = h.0.1 name in (λ c. a.0 (s.0 c), λ c. s.1 (a.1 c))),
  sets_moved ws us ws' vs h.1 k.1 (omega (arith, long)) (λ i lt name. same (suc i) (omega (arith, lt)) name),
)

pub in_stem : (stem loop_part : List Names) (i : ℕ) → i < length stem → state_at (Infinite stem loop_part) i ≡ slice_index_or stem i []
in_stem stem loop_part i lt = cond-true _ _ _ (lt-ltb i (length stem) lt)

pub in_loop : (stem loop_part : List Names) (j : ℕ) → j < length loop_part
    → state_at (Infinite stem loop_part) (length stem + j) ≡ slice_index_or loop_part j []
in_loop stem loop_part j lt =
    let behind : (length stem + j) - length stem ≡ j = omega arith in
    cond-false _ _ _ (le-ltb (length stem + j) (length stem) (omega arith))
    ∙ ap (λ n. slice_index_or loop_part n []) (ap (λ n. n % length loop_part) behind ∙ mod-eq_of_lt lt)

moved : (f : Formula) (t u v w w' : Trace) → IsLifted f t u → IsLifted f t v → IsTraceOf w u → IsTraceOf w' v → IsTraceOf w v
moved f (Infinite s l) (Finite us) v w w' h k a b = absurd h.shape
moved f (Finite s) (Infinite us ul) v w w' h k a b = absurd h.shape
moved f (Infinite s l) (Infinite us ul) (Finite vs) w w' h k a b = absurd k.shape
moved f (Finite s) (Finite us) (Infinite vs vl) w w' h k a b = absurd k.shape
moved f (Infinite s l) (Infinite us ul) (Infinite vs vl) (Finite ws) w' h k a b = absurd a
moved f (Finite s) (Finite us) (Finite vs) (Infinite ws wl) w' h k a b = absurd a
moved f (Infinite s l) (Infinite us ul) (Infinite vs vl) (Infinite ws wl) (Finite ws') h k a b = absurd b
moved f (Finite s) (Finite us) (Finite vs) (Finite ws) (Infinite ws' wl') h k a b = absurd b
moved f (Finite s) (Finite us) (Finite vs) (Finite ws) (Finite ws') h k a b =
    sets_moved ws us ws' vs a b (h.shape ∙ sym k.shape)
    (λ i lt name. let n = h.shape in same_names f (Finite s) (Finite us) (Finite vs) h k i (omega (arith, lt, n)) name)
moved f (Infinite s l) (Infinite us ul) (Infinite vs vl) (Infinite ws wl) (Infinite ws' wl') h k a b =
    let t = Infinite s l in
    let u = Infinite us ul in
    let v = Infinite vs vl in
    let stems : length us ≡ length vs = h.shape.0 ∙ sym k.shape.0 in
    let loops : length ul ≡ length vl = h.shape.1 ∙ sym k.shape.1 in (
      sets_moved ws us ws' vs a.0 b.0 stems (λ i lt name.
          let lt' : i < length vs = omega (arith, lt, stems) in
          subst (λ x. Contains x name ↔ Contains (slice_index_or us i []) name) (in_stem vs vl i lt')
          (subst (λ x. Contains (state_at v i) name ↔ Contains x name) (in_stem us ul i lt) (same_names f t u v h k i tt name))),
      sets_moved wl ul wl' vl a.1 b.1 loops (λ j lt name.
          let lt' : j < length vl = omega (arith, lt, loops) in
          let place : state_at v (length us + j) ≡ slice_index_or vl j [] = ap (λ n. state_at v (n + j)) stems ∙ in_loop vs vl j lt' in
          subst (λ x. Contains x name ↔ Contains (slice_index_or ul j []) name) place
          (subst (λ x. Contains (state_at v (length us + j)) name ↔ Contains x name) (in_loop us ul j lt) (same_names f t u v h k (length us + j) tt name))),
    )

same_trace : (u v : Trace) → ◌≡◌ {A = Result Trace TraceFault} (Ok u) (Ok v) → u ≡ v
same_trace u v e = cc

-- two lifted traces whose texts read back are one
pub one_lifted : IsOneReading → (f : Formula) (t u v : Trace) → IsLifted f t u → IsLifted f t v → IsReading (trace_text u) (Ok u)
    → IsReading (trace_text v) (Ok v) → u ≡ v
one_lifted one f t u v h k (w, json, is, a) (w', json', is', b) =
    same_trace u v (one (trace_text u) (Ok u) (Ok v) (w, json, is, a) (w, json, is, moved f t u v w w' h k a b) (λ e. absurd (cc)) (λ e. absurd (cc)))

-- a lifted trace is one
pub lifted_trace : (f : Formula) (t u : Trace) → IsTrace t → IsLifted f t u → IsTrace u
lifted_trace f (Infinite s l) (Infinite us ul) good h = let n = h.shape.1 in omega (arith, good, n)
lifted_trace f (Infinite s l) (Finite us) good h = absurd h.shape
lifted_trace f (Finite s) (Infinite us ul) good h = absurd h.shape
lifted_trace f (Finite s) (Finite us) good h = let n = h.shape in omega (arith, good, n)
