-- The gates over the numbers of entries are those of the formula, and their counts.
use Rattle.std.proofs.Common.{◌≡◌, ℕ, zero, suc, ◌+◌, ◌-◌, ◌*◌, ◌<◌, ◌≤◌, arith, refl, true, false, ap, sym, ◌∙◌, List, length, get_or, length-append}
use Rattle.ltl_syntax.specs.Formula.{Formula, Name, Fresh}
use Rattle.ltl_closure.specs.Norm.{Norm, NConst, NLetter, NNotLetter, NAnd, NOr, NNext, NWeakNext, NYesterday, NWeakYesterday, NUntil, NRelease, NSince}
use Rattle.ltl_closure.specs.Norm.{NTrigger}
use Rattle.ltl_closure.specs.Closure.{closure}
use Rattle.ltl_closure.specs.Entries.{place_in, StandsFor, AreEntries, IsNumber, entry_at}
use Rattle.ltl_closure.specs.declared.entry.Entry.{Entry}
use Rattle.ltl_closure.specs.declared.entry.Entry.TheVariants as Is
use Rattle.ltl_closure.proofs.Places.{closure_placed}
use Rattle.enc_layout.specs.Letters.{LayoutValue, below}
use Rattle.enc_layout.specs.Clauses.{Clause, letter_of, gate, gates_part}
use Rattle.enc_layout.proofs.ByIndex.{below_same, flat_map_below}
use Rattle.clause_index.specs.Rows.{row_at}
use Rattle.clause_index.specs.ByNumber.{entry_gate, gate_size, gates_before}
use Rattle.clause_index.proofs.Rows.{row_below}

-- the gate of the entry at place k
abbrev pub gates_by : List Entry → ℕ → ℕ → List Clause
gates_by entries i k = entry_gate i (suc k) (get_or entries k Is.True)

gate_long : (i g : ℕ) (x : Entry) → length (entry_gate i g x) ≡ gate_size x
gate_long i g Is.True = refl
gate_long i g Is.False = refl
gate_long i g (Is.Letter n) = refl
gate_long i g (Is.Fresh n) = refl
gate_long i g (Is.NotLetter p) = refl
gate_long i g (Is.And a b) = refl
gate_long i g (Is.Or a b) = refl
gate_long i g (Is.Until a b r) = refl
gate_long i g (Is.Since a b r) = refl
gate_long i g (Is.Release a b r) = refl
gate_long i g (Is.Trigger a b r) = refl
gate_long i g (Is.Next a w) = refl
gate_long i g (Is.Yesterday a w) = refl

gates_long : (entries : List Entry) (i k : ℕ) → length (below k (gates_by entries i)) ≡ gates_before entries k
gates_long entries i zero = refl
gates_long entries i (suc k) =
    let ih = gates_long entries i k in
    let one = gate_long i (suc k) (get_or entries k Is.True) in
    let a = length-append (below k (gates_by entries i)) (gates_by entries i k) in
    omega arith

gate_few : (x : Entry) → gate_size x ≤ 4
gate_few Is.True = omega arith
gate_few Is.False = omega arith
gate_few (Is.Letter n) = omega arith
gate_few (Is.Fresh n) = omega arith
gate_few (Is.NotLetter p) = omega arith
gate_few (Is.And a b) = omega arith
gate_few (Is.Or a b) = omega arith
gate_few (Is.Until a b r) = omega arith
gate_few (Is.Since a b r) = omega arith
gate_few (Is.Release a b r) = omega arith
gate_few (Is.Trigger a b r) = omega arith
gate_few (Is.Next a w) = omega arith
gate_few (Is.Yesterday a w) = omega arith

pub gates_few : (entries : List Entry) (k : ℕ) → gates_before entries k ≤ 4 * k
gates_few entries zero = omega arith
gates_few entries (suc k) = let ih = gates_few entries k in let one = gate_few (get_or entries k Is.True) in omega arith

module _ (names : List (List ℕ)) (f : Formula) (entries : List Entry) (are : AreEntries names f entries) where
  pub gate_same : (i : ℕ) (e : Norm) (x : Entry) → StandsFor names f e x → entry_gate i (place_in (closure f) e) x ≡ gate (letter_of f i) e
  gate_same i (NConst true) x s = ap (entry_gate i (place_in (closure f) (NConst true))) s
  gate_same i (NConst false) x s = ap (entry_gate i (place_in (closure f) (NConst false))) s
  gate_same i (NLetter (Name bytes)) x s = ap (entry_gate i (place_in (closure f) (NLetter (Name bytes)))) s.1
  gate_same i (NLetter (Fresh n)) x s = ap (entry_gate i (place_in (closure f) (NLetter (Fresh n)))) s
  gate_same i (NNotLetter p) x s = ap (entry_gate i (place_in (closure f) (NNotLetter p))) s
  gate_same i (NAnd a b) x s = ap (entry_gate i (place_in (closure f) (NAnd a b))) s
  gate_same i (NOr a b) x s = ap (entry_gate i (place_in (closure f) (NOr a b))) s
  gate_same i (NNext a) x s = ap (entry_gate i (place_in (closure f) (NNext a))) s
  gate_same i (NWeakNext a) x s = ap (entry_gate i (place_in (closure f) (NWeakNext a))) s
  gate_same i (NYesterday a) x s = ap (entry_gate i (place_in (closure f) (NYesterday a))) s
  gate_same i (NWeakYesterday a) x s = ap (entry_gate i (place_in (closure f) (NWeakYesterday a))) s
  gate_same i (NUntil a b) x s = ap (entry_gate i (place_in (closure f) (NUntil a b))) s
  gate_same i (NRelease a b) x s = ap (entry_gate i (place_in (closure f) (NRelease a b))) s
  gate_same i (NSince a b) x s = ap (entry_gate i (place_in (closure f) (NSince a b))) s
  gate_same i (NTrigger a b) x s = ap (entry_gate i (place_in (closure f) (NTrigger a b))) s

  gates_same : (i : ℕ) → below (length entries) (gates_by entries i) ≡ gates_part f i
  gates_same i =
      ap (λ n. below n (gates_by entries i)) are.long
      ∙ (below_same (length (closure f)) (gates_by entries i) (λ k. gate (letter_of f i) (get_or (closure f) k (NConst false))) (λ k lt.
      ap (λ n. entry_gate i n (get_or entries k Is.True)) (sym (closure_placed f k (NConst false) lt))
      ∙ gate_same i (get_or (closure f) k (NConst false)) (get_or entries k Is.True) (are.each k lt))
      ∙ sym (flat_map_below (gate (letter_of f i)) (closure f) (NConst false)))

  -- how many gates' clauses there are
  pub gates_total : (i : ℕ) → length (gates_part f i) ≡ gates_before entries (length entries)
  gates_total i = sym (ap length (gates_same i)) ∙ gates_long entries i (length entries)

  -- a clause of the gates is one of an entry's gate
  pub gate_row : (layout : LayoutValue) (i t rest index : ℕ) → IsNumber (length entries) t
      → gates_before entries (t - 1) + rest ≡ index → rest < gate_size (entry_at entries t)
      → row_at layout (entry_gate i t (entry_at entries t)) rest ≡ row_at layout (gates_part f i) index
  gate_row layout i t rest index number is lt =
      let x = entry_at entries t in
      let again : suc (t - 1) ≡ t = omega (arith, number.0) in
      let inside : t - 1 < length entries = omega (arith, number.0, number.1) in
      let long = gate_long i (suc (t - 1)) (entry_at entries t) in
      ap (λ n. row_at layout (entry_gate i n x) rest) (sym again)
      ∙ (sym (row_below layout.kind layout.counts (length entries) (gates_by entries i) (t - 1) rest (gates_before entries (t - 1)) inside (omega arith)
      (gates_long entries i (t - 1)))
      ∙ (ap (λ z. row_at layout z (gates_before entries (t - 1) + rest)) (gates_same i) ∙ ap (row_at layout (gates_part f i)) is))
