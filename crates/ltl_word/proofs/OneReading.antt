-- Bytes have one reading, apart from want of memory: the faults exclude each other and a trace, and the trace is determined.
use Rattle.std.proofs.Common.{◌≡◌, ℕ, ◌⊎◌, inl, inr, List, [], Some, Ok, Err, refl, subst, ap, ◌∙◌, sym, arith, Result}
use Rattle.serde_json.specs.Data.{Data}
use Rattle.serde_json.specs.Read.{read}
use Rattle.ltl_word.specs.declared.trace.Trace.{Trace}
use Rattle.ltl_word.specs.declared.trace.Trace.TheVariants.{Infinite, Finite}
use Rattle.ltl_word.specs.declared.json.TraceFault.{TraceFault}
use Rattle.ltl_word.specs.declared.json.TraceFault.TheVariants.{NotJson, NotTrace, EmptyLoop, EmptyStates, NoMemory}
use Rattle.ltl_word.specs.Trace.{IsTrace}
use Rattle.ltl_word.specs.Json.{trace_data, IsJson, IsTraceOf, IsReading, IsTraceReading}
use Rattle.ltl_word.proofs.Sets.{one_trace, one_written}

one_value : (bytes : List ℕ) (d e : Data) → IsJson bytes d → IsJson bytes e → d ≡ e
one_value bytes d e h k = let a : read bytes ≡ Some d = h.1 in let b : read bytes ≡ Some e = k.1 in cc

-- ---- a reading is one

not_empty : (t u : Trace) → trace_data t ≡ trace_data u → IsTrace t → (IsTrace u → ⊥) → ⊥
not_empty t u e good empty = empty (subst IsTrace (one_written t u e) good)

abbrev IsMemory : Result Trace TraceFault → Type 0
IsMemory r = r ≡ Err NoMemory

one_of_value : (d : Data) (r s : Result Trace TraceFault) → IsTraceReading d r → IsTraceReading d s → (IsMemory r → ⊥) → (IsMemory s → ⊥) → r ≡ s
one_of_value d (Err NotJson) s h k m n = absurd h
one_of_value d (Err NoMemory) s h k m n = absurd (m refl)
one_of_value d r (Err NotJson) h k m n = absurd k
one_of_value d r (Err NoMemory) h k m n = absurd (n refl)
one_of_value d (Ok t) (Ok u) h k m n =
    ap Ok (one_trace h.0 t u h.3 (subst (λ w. IsTraceOf w u) (one_written k.0 h.0 (sym k.1 ∙ h.1)) k.3))
one_of_value d (Ok t) (Err NotTrace) h k m n = absurd (k h.0 h.1)
one_of_value d (Ok t) (Err EmptyLoop) h k m n = absurd (not_empty h.0 (Infinite k.0 []) (sym h.1 ∙ k.1) h.2 (λ some. omega arith))
one_of_value d (Ok t) (Err EmptyStates) h k m n = absurd (not_empty h.0 (Finite []) (sym h.1 ∙ k) h.2 (λ some. omega arith))
one_of_value d (Err NotTrace) (Ok u) h k m n = absurd (h k.0 k.1)
one_of_value d (Err NotTrace) (Err NotTrace) h k m n = refl
one_of_value d (Err NotTrace) (Err EmptyLoop) h k m n = absurd (h (Infinite k.0 []) k.1)
one_of_value d (Err NotTrace) (Err EmptyStates) h k m n = absurd (h (Finite []) k)
one_of_value d (Err EmptyLoop) (Ok u) h k m n = absurd (not_empty k.0 (Infinite h.0 []) (sym k.1 ∙ h.1) k.2 (λ some. omega arith))
one_of_value d (Err EmptyLoop) (Err NotTrace) h k m n = absurd (k (Infinite h.0 []) h.1)
one_of_value d (Err EmptyLoop) (Err EmptyLoop) h k m n = refl
one_of_value d (Err EmptyLoop) (Err EmptyStates) h k m n = let e = one_written (Infinite h.0 []) (Finite []) (sym h.1 ∙ k) in cc
one_of_value d (Err EmptyStates) (Ok u) h k m n = absurd (not_empty k.0 (Finite []) (sym k.1 ∙ h) k.2 (λ some. omega arith))
one_of_value d (Err EmptyStates) (Err NotTrace) h k m n = absurd (k (Finite []) h)
one_of_value d (Err EmptyStates) (Err EmptyLoop) h k m n = let e = one_written (Infinite k.0 []) (Finite []) (sym k.1 ∙ h) in cc
one_of_value d (Err EmptyStates) (Err EmptyStates) h k m n = refl

abbrev OfValue : List ℕ → Result Trace TraceFault → Type 0
OfValue bytes r = (d : Data) × IsJson bytes d × IsTraceReading d r

of_value : (bytes : List ℕ) (r : Result Trace TraceFault) → IsReading bytes r → (IsMemory r → ⊥)
    → ((r ≡ Err NotJson) × ((d : Data) → IsJson bytes d → ⊥)) ⊎ OfValue bytes r
of_value bytes (Ok t) h m = inr (trace_data h.0, h.1, (h.0, refl, h.2, h.3))
of_value bytes (Err NotJson) h m = inl (refl, h)
of_value bytes (Err NotTrace) h m = inr (h.0, h.1, h.2)
of_value bytes (Err EmptyLoop) h m = inr (trace_data (Infinite h.0 []), h.1, (h.0, refl))
of_value bytes (Err EmptyStates) h m = inr (trace_data (Finite []), h, refl)
of_value bytes (Err NoMemory) h m = absurd (m refl)

pub one_reading : (bytes : List ℕ) (r s : Result Trace TraceFault) → IsReading bytes r → IsReading bytes s → (IsMemory r → ⊥) → (IsMemory s → ⊥) → r ≡ s
one_reading bytes r s h k m n = elim (of_value bytes r h m) [
  | inl a ↦ elim (of_value bytes s k n) [ inl b ↦ a.0 ∙ sym b.0 | inr b ↦ absurd (a.1 b.0 b.1) ]
  | inr a ↦ elim (of_value bytes s k n) [
    | inl b ↦ absurd (b.1 a.0 a.1)
    | inr b ↦ one_of_value a.0 r s a.2 (subst (λ d. IsTraceReading d s) (one_value bytes b.0 a.0 b.1 a.1) b.2) m n
  ]
]
