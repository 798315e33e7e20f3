-- An accepted run of least length is unpruned, and what a verdict says of traces.
use Rattle.std.proofs.Common.{◌≡◌, ℕ, zero, suc, ◌-◌, ◌<◌, ◌≤◌, inl, inr, arith, refl, length, Contains, IsTrue, true}
use Rattle.ltl_syntax.specs.declared.node.Kind.{Kind}
use Rattle.ltl_syntax.specs.declared.node.Kind.TheVariants as Kinds
use Rattle.std.proofs.lemmas.Bool.{cases_lt}
use mathlib.Core.Bool.{Bool-discrete}
use mathlib.Core.List.{List-discrete}
use Rattle.ltl_syntax.specs.Formula.{Formula}
use Rattle.ltl_word.specs.declared.trace.Trace.TheVariants.{Infinite, Finite}
use Rattle.ltl_word.specs.declared.trace.Trace.{Trace}
use Rattle.ltl_word.specs.Trace.{IsTrace, IsOfKind}
use Rattle.ltl_word.specs.Holds.{Satisfies}
use Rattle.ltl_closure.specs.Norm.{Norm}
use Rattle.ltl_closure.specs.Closure.{eventualities}
use Rattle.ltl_closure.specs.Run.{RunState, States, IsRun, carry, is_pending, IsFulfilledIn, IsAccepted, IsPrunedAt, Triple, Pair, IsUnpruned, HasAccepted}
use Rattle.ltl_closure.specs.Run.{IsVerdict, no_run, all_pruned, Verdict, Sat, Unsat, Undecided, bound}
use Rattle.ltl_word.proofs.Search.{first_or_none, ×_decided, →_decided, IsTrue_decided, mapped}
use Rattle.ltl_run.proofs.Splicing.{run_prefix}
use Rattle.ltl_run.proofs.Shorter.{shorter}
use Rattle.ltl_run.proofs.Bounds.{member_or_all, fulfilled_decided, settled}
use Rattle.ltl_run.proofs.Tableau.{trace_accepted, finite_accepted}
use Rattle.ltl_run.proofs.Normal.{norm_holds}

pub carry_decided : (f : Formula) (s u : RunState) → Dec (carry f s ≡ carry f u)
carry_decided f s u = List-discrete Bool-discrete (carry f s) (carry f u)

module _ (f : Formula) (r : States) (i : ℕ) where
  abbrev Prunes : ℕ → ℕ → Type 0
  Prunes l j = (e : Norm) → Contains (eventualities f) e → IsTrue (is_pending (r i) e) → IsFulfilledIn r j i e → IsFulfilledIn r l j e

  prunes_decided : (l j : ℕ) → Dec (Prunes l j)
  prunes_decided l j = elim (member_or_all
      (λ e. IsTrue (is_pending (r i) e) → IsFulfilledIn r j i e → IsFulfilledIn r l j e)
      (λ e. →_decided (IsTrue_decided (is_pending (r i) e)) (→_decided (fulfilled_decided r j i e) (fulfilled_decided r l j e)))
      (eventualities f)) [
        | inl w ↦ no (λ all. w.2 (all w.0 w.1))
        | inr all ↦ yes all
      ]

  abbrev PrunesAt : ℕ → ℕ → Type 0
  PrunesAt j l = (carry f (r l) ≡ carry f (r j)) × ((carry f (r j) ≡ carry f (r i)) × Prunes l j)

  triple_decided : Dec ((j : ℕ) × (j < i) × ((l : ℕ) × (l < j) × PrunesAt j l))
  triple_decided = elim (first_or_none (λ j. (l : ℕ) × (l < j) × PrunesAt j l)
      (λ j. elim (first_or_none (PrunesAt j) (λ l. ×_decided (carry_decided f (r l) (r j)) (×_decided (carry_decided f (r j) (r i)) (prunes_decided l j))) j) [
        | inl w ↦ yes w
        | inr none ↦ no (λ w. none w.0 w.1 w.2)
      ])
      i) [
        | inl w ↦ yes w
        | inr none ↦ no (λ w. none w.0 w.1 w.2)
      ]

  to_triple : ((j : ℕ) × (j < i) × ((l : ℕ) × (l < j) × PrunesAt j l)) → IsPrunedAt f r i Kinds.Infinite
  to_triple w = Triple w.2.0 w.0 w.2.1 w.1 w.2.2.0 w.2.2.1.0 w.2.2.1.1

  from_triple : IsPrunedAt f r i Kinds.Infinite → (j : ℕ) × (j < i) × ((l : ℕ) × (l < j) × PrunesAt j l)
  from_triple (Triple l j a b one two pruned) = (j, b, (l, a, (one, (two, pruned))))

  from_pair : IsPrunedAt f r i Kinds.Finite → (j : ℕ) × (j < i) × (carry f (r j) ≡ carry f (r i))
  from_pair (Pair j a one) = (j, a, one)

  pub pruned_decided : (kind : Kind) → Dec (IsPrunedAt f r i kind)
  pruned_decided Kinds.Infinite = mapped to_triple from_triple triple_decided
  pruned_decided Kinds.Finite = elim (first_or_none (λ j. carry f (r j) ≡ carry f (r i)) (λ j. carry_decided f (r j) (r i)) i) [
    | inl w ↦ yes (Pair w.0 w.1 w.2)
    | inr none ↦ no (λ p. let w = from_pair p in none w.0 w.1 w.2)
  ]

-- from an accepted run one that is unpruned too, and no longer
pub unpruned_from : (f : Formula) (kind : Kind) (fuel k : ℕ) → k ≤ fuel → HasAccepted f kind k
    → (m : ℕ) × (m ≤ k) × (r : States) × IsRun f m r × IsAccepted f r m kind × IsUnpruned f r m kind
unpruned_from f kind zero k le (r, run, acc) = elim (first_or_none (λ i. IsPrunedAt f r i kind) (λ i. pruned_decided f r i kind) (suc k)) [
  | inr none ↦ (k, omega arith, r, run, acc, λ i h p. none i (omega arith) p)
  | inl w ↦ let v = shorter f k r run kind acc w.0 (omega arith) w.2 in absurd (omega arith)
]
unpruned_from f kind (suc fuel) k le (r, run, acc) = elim (first_or_none (λ i. IsPrunedAt f r i kind) (λ i. pruned_decided f r i kind) (suc k)) [
  | inr none ↦ (k, omega arith, r, run, acc, λ i h p. none i (omega arith) p)
  | inl w ↦
      let v = shorter f k r run kind acc w.0 (omega arith) w.2 in
      let u = unpruned_from f kind fuel v.0 (omega arith) (v.2, v.3, v.4) in
      (u.0, omega arith, u.2, u.3, u.4, u.5)
]

pub unsat_sound : (f : Formula) (kind : Kind) (limit k n : ℕ) → IsVerdict f kind limit (Unsat k) → HasAccepted f kind n → ⊥
unsat_sound f kind limit k n (no_run le open' none) acc =
    let w = unpruned_from f kind n n (omega arith) acc in
    elim (cases_lt w.0 k) [
      | inl lt ↦ (open' w.0 lt).rejected (w.2, w.3, w.4)
      | inr ge ↦ none (w.2, run_prefix f w.0 w.2 w.3 k ge)
    ]
unsat_sound f kind limit k n (all_pruned le open' rejected none) acc =
    let w = unpruned_from f kind n n (omega arith) acc in
    elim (cases_lt w.0 k) [
      | inl lt ↦ (open' w.0 lt).rejected (w.2, w.3, w.4)
      | inr ge ↦ none (w.2, run_prefix f w.0 w.2 w.3 k ge, λ i h. w.5 i (omega arith))
    ]

-- a trace of the kind that satisfies the formula gives an accepted run
pub trace_runs : (f : Formula) (kind : Kind) (t : Trace) → IsTrace t → IsOfKind t kind → Satisfies t f → (k : ℕ) × HasAccepted f kind k
trace_runs f Kinds.Infinite (Infinite stem loop_part) good is h =
    trace_accepted f stem loop_part good ((norm_holds (Infinite stem loop_part) good f true).back 0 tt h)
trace_runs f Kinds.Finite (Infinite stem loop_part) good is h = absurd is
trace_runs f Kinds.Infinite (Finite states) good is h = absurd is
trace_runs f Kinds.Finite (Finite states) good is h =
    let e : length states ≡ suc (length states - 1) = omega arith in
    (length states - 1, finite_accepted f states (length states - 1) e ((norm_holds (Finite states) good f true).back 0 good h))

pub unsat_has_no_trace : (f : Formula) (kind : Kind) (limit k : ℕ) (t : Trace) → IsVerdict f kind limit (Unsat k) → IsTrace t → IsOfKind t kind
    → Satisfies t f → ⊥
unsat_has_no_trace f kind limit k t v good is h = let w = trace_runs f kind t good is h in unsat_sound f kind limit k w.0 v w.1

-- an accepted run of least length is unpruned
pub least_unpruned : (f : Formula) (kind : Kind) (k : ℕ) (r : States) → IsRun f k r → IsAccepted f r k kind → ((m : ℕ) → m < k → HasAccepted f kind m → ⊥)
    → IsUnpruned f r k kind
least_unpruned f kind k r run acc least i le p = let w = shorter f k r run kind acc i le p in least w.0 w.1 (w.2, w.3, w.4)

-- at the bound a trace that satisfies the formula leaves no verdict but SAT
pub found_at_bound : (f : Formula) (kind : Kind) (limit : ℕ) (v : Verdict) (t : Trace) → bound f kind ≤ limit → IsVerdict f kind limit v → IsTrace t
    → IsOfKind t kind → Satisfies t f → (k : ℕ) × (v ≡ Sat k)
found_at_bound f kind limit (Sat k) t le v good is h = (k, refl)
found_at_bound f kind limit (Unsat k) t le v good is h = absurd (unsat_has_no_trace f kind limit k t v good is h)
found_at_bound f kind limit (Undecided k) t le v good is h = absurd (settled f kind limit k le v)
