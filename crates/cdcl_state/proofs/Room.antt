-- Room for more letters keeps what holds of a state; the values of all letters.
use Rattle.std.proofs.Common.{◌≡◌, ◌↔◌, ◌⊎◌, ℕ, ◌<◌, ◌≤◌, ◌+◌, ◌*◌, ◌^◌, inl, inr, take, replicate, List, [], ◌∷◌, ◌++◌, Bool, true, Contains, length, get_or}
use Rattle.std.proofs.Common.{sym, ap, ◌∙◌, subst, arith}
use mathlib.Core.Bool.{false, false≢true}
use Rattle.std.proofs.lemmas.Bool.{cases_lt}
use Rattle.std.proofs.lemmas.List.{get_or_past, get_or-replicate, length-replicate, take_more, map-append}
use Rattle.std.proofs.lemmas.List.Elements.{Contains-append_left, Contains-push, Contains-push_cases}
use Rattle.cnf_base.specs.declared.literal.Literal.{Literal}
use Rattle.cnf_base.specs.Known.{IsKnown, AreKnown}
use Rattle.cdcl_trail.specs.Trail.{literals_of, literal_at, blank_entry}
use Rattle.cdcl_state.specs.StateValue.{positive}
use Rattle.cdcl_watches.specs.Watching.{WatchValue}
use Rattle.cdcl_trail.specs.Assigned.{AssignedValue}
use Rattle.cdcl_state.specs.State.{Parts, IsState}
use Rattle.cdcl_trail.specs.declared.assigned.TrailEntry.{TrailEntry}

pub state_widened : {s : Parts} (b : AssignedValue) (v : WatchValue) (wide : ℕ) → IsState s → b.trail ≡ s.assigned.trail → v.clauses ≡ s.watches.clauses
    → v.names ≡ s.watches.names → length v.lists ≡ 2 * length b.values → length s.assigned.values ≤ length b.values
    → length b.values ≤ 2 ^ 32 → length b.values ≤ wide → IsState (record s { assigned = b; watches = v; marked = wide })
state_widened b v wide state trail clauses names sized more few marks =
    rw (trail, clauses, names) (record {
      ready = record {
        is_trail = state.ready.is_trail;
        stored = state.ready.stored;
        guarded = state.ready.guarded;
        within = state.ready.within;
        sized = sized;
      };
      low = state.low;
      is_lasting = state.is_lasting;
      all = state.all;
      long = state.long;
      short = state.short;
      ones = state.ones;
      units_done_in = state.units_done_in;
      units_trail_in = state.units_trail_in;
      are_firm = state.are_firm;
      known_inputs = state.known_inputs;
      known_lines = state.known_lines;
      decided = state.decided;
      room = λ x from_one within. omega (arith, state.room x from_one within, more);
      few = few;
      size = marks;
    })

known_wider : (letters count : ℕ) → letters ≤ count → (l : Literal) → IsKnown letters l → IsKnown count l
known_wider letters count more l known = record { from_one = known.from_one; within = omega (arith, known.within, more) }

clauses_wider : (letters count : ℕ) → letters ≤ count → (clauses : List (List Literal)) → AreKnown letters clauses → AreKnown count clauses
clauses_wider letters count more clauses known i d below j e low = known_wider letters count more (get_or (get_or clauses i d) j e) (known i d below j e low)

-- more letters are known
pub state_lettered : {s : Parts} (count : ℕ) → IsState s → s.letters ≤ count → count < length s.assigned.values → IsState (record s { letters = count })
state_lettered {s} count state more room = record {
  ready = state.ready;
  low = state.low;
  is_lasting = state.is_lasting;
  all = state.all;
  long = state.long;
  short = state.short;
  ones = state.ones;
  units_done_in = state.units_done_in;
  units_trail_in = state.units_trail_in;
  are_firm = state.are_firm;
  known_inputs = clauses_wider s.letters count more s.log.inputs state.known_inputs;
  known_lines = clauses_wider s.letters count more s.log.lines state.known_lines;
  decided = λ k d below free. known_wider s.letters count more (get_or s.assigned.trail k d).literal (state.decided k d below free);
  room = λ x from_one within. omega (arith, room, within);
  few = state.few;
  size = state.size;
}

-- the values of the letters of one entry more
pub model_more : (trail : List TrailEntry) (old new : List Bool) (k n : ℕ) → k < length trail
    → ((x : ℕ) → x < n → (get_or new x false ≡ true) ↔ ((get_or old x false ≡ true) ⊎ (literal_at trail k ≡ positive x)))
    → ((x : ℕ) → x < n → (get_or old x false ≡ true) ↔ Contains (literals_of (take k trail)) (positive x))
    → (x : ℕ) → x < n → (get_or new x false ≡ true) ↔ Contains (literals_of (take (k + 1) trail)) (positive x)
model_more trail old new k n below set told x low =
    let front = literals_of (take k trail) in
    let last = literal_at trail k in
    let e : literals_of (take (k + 1) trail) ≡ front ++ last ∷ [] =
    ap literals_of (take_more trail k blank_entry below) ∙ map-append (λ (e : TrailEntry). e.literal) (take k trail) (get_or trail k blank_entry ∷ []) in
    subst (λ ls. (get_or new x false ≡ true) ↔ Contains ls (positive x)) (sym e) (
      (λ is. elim ((set x low).0 is) [
        | inl before ↦ Contains-append_left front (last ∷ []) (positive x) ((told x low).0 before)
        | inr here ↦ subst (Contains (front ++ last ∷ [])) here (Contains-push front last)
      ]),
      (λ there. (set x low).1 (elim (Contains-push_cases front last (positive x) there) [
        | inl before ↦ inl ((told x low).1 before)
        | inr here ↦ inr here
      ])),
    )

-- no letter is true yet
pub model_none : (trail : List TrailEntry) (n x : ℕ) → (get_or (replicate n false) x false ≡ true) ↔ Contains (literals_of (take 0 trail)) (positive x)
model_none trail n x = (
  (λ is. absurd (false≢true (sym (none (cases_lt x n)) ∙ is))),
  (λ there. absurd (omega (arith, there.1))),
)
  where
    none : (x < n) ⊎ (n ≤ x) → get_or (replicate n false) x false ≡ false
    none (inl low) = get_or-replicate n x false false low
    none (inr high) = get_or_past (replicate n false) x false (omega (arith, length-replicate n false, high))
