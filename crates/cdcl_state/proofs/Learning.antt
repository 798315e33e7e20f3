-- A learnt clause is attached where it forces its first literal.
use Rattle.std.proofs.Common.{◌≡◌, ℕ, ◌<◌, ◌≤◌, ◌+◌, inl, inr, List, [], ◌∷◌, ◌++◌, Bool, Option, map, All, AllPairs, Contains, length, get_or, refl, sym, ap}
use Rattle.std.proofs.Common.{◌∙◌, subst, arith}
use Rattle.std.proofs.lemmas.Bool.{cases_lt, cases_eq}
use Rattle.std.proofs.lemmas.List.{get_or_append_left, get_or_at, length_push, get_or-map, length-map}
use Rattle.std.proofs.lemmas.List.Elements.{Contains-get_or}
use Rattle.cnf_base.specs.declared.literal.Literal.{Literal}
use Rattle.cnf_base.specs.Literal.{opposite}
use Rattle.cnf_base.proofs.SameLiteral.{opposite_opposite}
use Rattle.cdcl_state.specs.StateValue.{StateValue, IsBack}
use Rattle.cdcl_trail.specs.Trail.{AreValues, IsTrail, blank_entry, literal_at, IsInside, IsDecision}
use Rattle.cdcl_state.specs.Turns.{IsTarget, IsAsserting}
use Rattle.cdcl_watches.specs.Watching.{blank}
use Rattle.cdcl_propagate.specs.Lasting.{IsLasting}
use Rattle.cdcl_state.specs.State.{Parts, IsState}
use Rattle.cdcl_trail.specs.declared.assigned.TrailEntry.{TrailEntry}
use Rattle.cdcl_watches.proofs.Moves.{first_two}
use Rattle.cdcl_trail.proofs.Standing.{places_apart}
use Rattle.cdcl_trail.proofs.Levels.{level_at, decision_level}
use Rattle.cdcl_state.proofs.Back.{kept_at, low_kept}
use Rattle.cdcl_propagate.proofs.Lasting.{guarded_lasting}
use Rattle.cdcl_state.proofs.States.{lasting_push}
use Rattle.cdcl_state.proofs.Attach.{lasting_added}

-- the level to go back to is below that of the first literal
pub target_below : (trail : List TrailEntry) (places : List ℕ) (b : ℕ) → IsAsserting trail places → IsTarget trail places b
    → b < level_at trail (get_or places 0 0)
target_below trail places b asserting target = elim (cases_lt 1 (length places)) [
  | inl more ↦ omega (arith, target.second more, asserting.second more)
  | inr lone ↦ omega (arith, target.lone lone, asserting.lone lone)
]

-- a clause of decisions is asserting
pub decisions_asserting : (inputs lines : List (List Literal)) (trail : List TrailEntry) (places : List ℕ) → IsTrail inputs lines trail
    → All (IsDecision trail) places → AllPairs (λ p q. q < p) places → 0 < length places → IsAsserting trail places
decisions_asserting inputs lines trail places is_trail decisions falling some = record {
  some = some;
  lone = λ few. omega (arith, decision_level inputs lines trail is_trail (get_or places 0 0) (decisions 0 0 some));
  second = λ more.
      omega (
        arith,
        decision_level inputs lines trail is_trail (get_or places 0 0) (decisions 0 0 some),
        decision_level inputs lines trail is_trail (get_or places 1 0) (decisions 1 0 more),
        falling 0 1 0 (omega arith) more,
      );
}

-- the same parts with `propagated` and `lasting` put elsewhere
pub state_raise : {s : Parts} (m : ℕ) → IsState s → m ≤ length s.assigned.trail → IsLasting s.watches.clauses s.assigned.trail m
    → IsState (record s { propagated = m; lasting = m })
state_raise {s} m state fits is_lasting = record {
  ready = record {
    is_trail = state.ready.is_trail;
    stored = state.ready.stored;
    guarded = guarded_lasting s.watches.clauses s.assigned.trail m is_lasting;
    within = fits;
    sized = state.ready.sized;
  };
  low = omega arith;
  is_lasting = is_lasting;
  all = state.all;
  long = state.long;
  short = state.short;
  ones = state.ones;
  units_done_in = state.units_done_in;
  units_trail_in = state.units_trail_in;
  are_firm = state.are_firm;
  known_inputs = state.known_inputs;
  known_lines = state.known_lines;
  decided = state.decided;
  room = state.room;
  few = state.few;
  size = state.size;
}

-- where the second literal of the clause became false
pub record IsSecond (trail : List TrailEntry) (l : Literal) (level : ℕ) : Type 0 where
  pub place : ℕ
  pub within : place < length trail
  pub is : literal_at trail place ≡ opposite l
  pub same : level_at trail place ≡ level

pub second_kept : (old new : StateValue) (b : ℕ) (clause : List Literal) (places : List ℕ) → IsTrail old.log.inputs old.log.lines old.trail → IsBack old new b
    → IsTarget old.trail places b
    → clause ≡ map (λ p. opposite (literal_at old.trail p)) places → All (IsInside old.trail) places → 2 ≤ length clause
    → IsSecond new.trail (get_or clause 1 blank) b
second_kept old new b clause places is_trail back target clause_is inside long =
    let f : ℕ → Literal = λ p. opposite (literal_at old.trail p) in
    let more : 1 < length places = omega (arith, long, ap length clause_is, length-map places f) in
    let p = get_or places 1 0 in
    let level : level_at old.trail p ≡ b = sym (target.second more) in
    let kept = low_kept old new b is_trail back p (inside 1 0 more) (omega (arith, level)) in
    let same = kept_at old new b is_trail back p kept in
    let at : get_or clause 1 blank ≡ opposite (literal_at old.trail p) = ap (λ c. get_or c 1 blank) clause_is ∙ get_or-map f places 1 0 blank more in
    record {
      place = p;
      within = kept;
      is = ap (λ (e : TrailEntry). e.literal) same ∙ sym (ap opposite at ∙ opposite_opposite (literal_at old.trail p));
      same = ap (λ (e : TrailEntry). e.level) same ∙ level;
    }

-- behind the trail stands the first literal, on the level of the second: the rule holds of the new clause
pub learnt_lasting : (values : List (Option Bool)) (clauses : List (List Literal)) (r : List Literal) (trail : List TrailEntry) (e : TrailEntry) (m : ℕ)
    → AreValues values (trail ++ e ∷ []) → m ≤ length trail → IsLasting clauses trail m
    → 0 < length r → e.literal ≡ get_or r 0 blank → IsSecond trail (get_or r 1 blank) e.level → IsLasting (clauses ++ r ∷ []) (trail ++ e ∷ []) m
learnt_lasting values clauses r trail e m are fits lasting some first second =
    let t = trail ++ e ∷ [] in
    let n = length trail in
    let longer : length t ≡ n + 1 = length_push trail e in
    let last : get_or t n blank_entry ≡ e = get_or_at trail e [] blank_entry n refl in
    let p = second.place in
    let p_at : get_or t p blank_entry ≡ get_or trail p blank_entry = get_or_append_left trail (e ∷ []) blank_entry p second.within in
    let u_in : Contains r (literal_at t n) = subst (Contains r) (sym (ap (λ (f : TrailEntry). f.literal) last ∙ first)) (Contains-get_or r 0 blank some) in
    lasting_added clauses r t m (lasting_push clauses trail (e ∷ []) m fits lasting) (λ k x watch below is. elim (first_two r x watch.0 blank watch.1) [
      | inl one ↦ absurd (places_apart values t are k n (omega (arith, below, longer)) (omega (arith, longer)) (λ same. omega (arith, same, below))
          (ap (λ (l : Literal). l.letter.0) (is ∙ ap opposite (one.0 ∙ sym first)) ∙ ap (λ (f : TrailEntry). f.literal.letter.0) (sym last)))
      | inr two ↦
          let same : k ≡ p = elim (cases_eq k p) [
            | inl equal ↦ equal
            | inr differ ↦ absurd (places_apart values t are k p (omega (arith, below, longer)) (omega (arith, longer, second.within)) differ
                (ap (λ (l : Literal). l.letter.0) (is ∙ ap opposite two.0 ∙ sym second.is) ∙ ap (λ (f : TrailEntry). f.literal.letter.0) (sym p_at)))
          ] in
          let level : level_at t k ≡ e.level = ap (level_at t) same ∙ ap (λ (f : TrailEntry). f.level) p_at ∙ second.same in
          (n, omega (arith, longer), u_in, omega (arith, level, ap (λ (f : TrailEntry). f.level) last))
    ])
