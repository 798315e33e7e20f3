-- A trail up to a place, and then the decision that the literal there is false: its reason is a conflict.
use Rattle.std.proofs.Common.{◌≡◌, ℕ, zero, suc, ◌<◌, ◌≤◌, ◌+◌, ◌-◌, inl, inr, List, [], ◌∷◌, ◌++◌, Bool, not, Option, Some, None, take, set, All, Contains}
use Rattle.std.proofs.Common.{length, get_or, refl, sym, ap, ◌∙◌, subst, arith, length-take-le, length-set}
use Rattle.std.proofs.lemmas.List.{map-append, take_all, take_more, get_or-take, get_or_append_left, get_or_at, length_push, get_or_default}
use Rattle.std.proofs.lemmas.List.Elements.{All-push, Contains-append_left, Contains-push}
use Rattle.cnf_base.specs.declared.literal.Literal.{Literal}
use Rattle.cnf_base.specs.declared.literal.Hint.{Hint}
use Rattle.cnf_base.specs.Literal.{opposite}
use Rattle.cdcl_trail.specs.Trail.{literals_of, IsReason, IsUnset, StandsAt, AreValues, blank_entry, literal_at}
use Rattle.cdcl_analyze.specs.Analysis.{AreFromOne, IsLike, refuted_at}
use Rattle.cdcl_analyze.specs.Graph.{GraphValue, IsGraph}
use Rattle.cdcl_trail.specs.declared.assigned.TrailEntry.{TrailEntry}
use Rattle.cdcl_trail.proofs.Assign.{values_push, values_pop, trail_push, trail_take}
use Rattle.cdcl_trail.proofs.Standing.{true_place, places_apart}
use Rattle.cdcl_trail.proofs.Levels.{level_bound}

-- values of a front of the trail
pub record HasValues (letters : ℕ) (trail : List TrailEntry) : Type 0 where
  pub values : List (Option Bool)
  pub told : AreValues values trail
  pub size : length values ≡ letters

pub values_take : (values : List (Option Bool)) (trail : List TrailEntry) → AreValues values trail → (d n : ℕ) → n + d ≡ length trail
    → HasValues (length values) (take n trail)
values_take values trail are zero n is =
    record { values = values; told = subst (AreValues values) (sym (take_all n trail (omega (arith, is)))) are; size = refl }
values_take values trail are (suc d) n is =
    let more = values_take values trail are d (n + 1) (omega (arith, is)) in
    let e = get_or trail n blank_entry in
    let split : take (n + 1) trail ≡ take n trail ++ e ∷ [] = take_more trail n blank_entry (omega (arith, is)) in
    record {
      values = set more.values e.literal.letter.0 None;
      told = values_pop more.values (take n trail) e (subst (AreValues more.values) split more.told);
      size = length-set more.values e.literal.letter.0 None ∙ more.size;
    }

module _ (graph : GraphValue) (sound : IsGraph graph) (p : ℕ) (low : p < length graph.trail) where
  front_length : length (take p graph.trail) ≡ p
  front_length = length-take-le p graph.trail (omega arith)

  pub refuted_length : length (refuted_at graph.trail p) ≡ p + 1
  refuted_length =
      omega (arith, length_push (take p graph.trail) (record { literal = opposite (literal_at graph.trail p); level = p + 1; reason = None }), front_length)

  pub refuted_last : get_or (refuted_at graph.trail p) p blank_entry ≡ record { literal = opposite (literal_at graph.trail p); level = p + 1; reason = None }
  refuted_last =
      get_or_at (take p graph.trail) (record { literal = opposite (literal_at graph.trail p); level = p + 1; reason = None }) [] blank_entry p front_length

  foreign : (m : Literal) → m.letter.0 ≡ (literal_at graph.trail p).letter.0 → ¬ Contains (literals_of (take p graph.trail)) m
  foreign m same there =
      let at = true_place graph.trail p m (omega arith) there in
      places_apart graph.values graph.trail sound.told at.0 p (omega (arith, at.1)) low (λ e. omega (arith, at.1, e))
      (ap (λ (l : Literal). l.letter.0) at.2 ∙ same)

  refuted_stands : StandsAt graph.log.inputs graph.log.lines (take p graph.trail)
      (record { literal = opposite (literal_at graph.trail p); level = p + 1; reason = None })
  refuted_stands = record {
    reason = tt;
    decision = λ _. ap (λ n. n + 1) (sym front_length);
    rising = λ k d below.
        let k_low : k < p = omega (arith, below, front_length) in
        let level = level_bound graph.log.inputs graph.log.lines graph.trail sound.is_trail k p k_low (omega arith)
        (get_or graph.trail k blank_entry).level refl in
        let same : get_or (take p graph.trail) k d ≡ get_or graph.trail k blank_entry =
        get_or-take p graph.trail k d k_low ∙ get_or_default graph.trail k d blank_entry (omega arith) in
        subst (λ (e : TrailEntry). e.level ≤ p + 1) (sym same) (omega (arith, level));
  }

  -- the graph.trail with the decision is like the one that is read
  pub refuted_like : IsLike graph (refuted_at graph.trail p) p
  refuted_like =
      let e : TrailEntry = record { literal = opposite (literal_at graph.trail p); level = p + 1; reason = None } in
      let less = values_front in
      let unset : IsUnset (literals_of (take p graph.trail)) e.literal =
      record { not_true = foreign e.literal refl; not_false = foreign (opposite e.literal) refl } in
      let known : e.literal.letter.0 < length less.values = omega (arith, sound.told.known p blank_entry low, less.size) in
      record {
        same = λ k k_low. get_or_append_left (take p graph.trail) (e ∷ []) blank_entry k (omega (arith, front_length))
            ∙ get_or-take p graph.trail k blank_entry k_low;
        long = omega (arith, refuted_length);
        is_trail = trail_push graph.log.inputs graph.log.lines (take p graph.trail) e
            (trail_take graph.log.inputs graph.log.lines graph.trail p (omega arith) sound.is_trail) refuted_stands;
        values = set less.values e.literal.letter.0 (Some (not e.literal.negated));
        told = values_push less.values (take p graph.trail) e less.told unset known;
        few = omega (arith, sound.few, less.size, length-set less.values e.literal.letter.0 (Some (not e.literal.negated)));
      }
    where
      rest : (n : ℕ) → p ≤ n → (d : ℕ) × (p + d ≡ n)
      rest n fits = (n - p, omega arith)

      values_front : HasValues (length graph.values) (take p graph.trail)
      values_front = let d = rest (length graph.trail) (omega arith) in values_take graph.values graph.trail sound.told d.0 p d.1

  pub refuted_from_one : AreFromOne graph.trail → AreFromOne (refuted_at graph.trail p)
  refuted_from_one from_one =
      All-push (λ e. 1 ≤ e.literal.letter.0) (take p graph.trail) (record { literal = opposite (literal_at graph.trail p); level = p + 1; reason = None })
      (λ k d below.
      let k_low : k < p = omega (arith, below, front_length) in
      subst (λ (e : TrailEntry). 1 ≤ e.literal.letter.0) (sym (get_or-take p graph.trail k d k_low)) (from_one k d (omega (arith, low))))
      (from_one p blank_entry low)

  -- its reason is false on it
  pub refuted_false : (hint : Hint) → (reason : IsReason graph.log.inputs graph.log.lines (literals_of (take p graph.trail)) (literal_at graph.trail p) hint)
      → All (λ l. Contains (literals_of (refuted_at graph.trail p)) (opposite l)) reason.clause
  refuted_false hint reason i d below =
      let u = literal_at graph.trail p in
      let e : TrailEntry = record { literal = opposite u; level = p + 1; reason = None } in
      let pushed : literals_of (refuted_at graph.trail p) ≡ literals_of (take p graph.trail) ++ opposite u ∷ [] =
      map-append (λ (f : TrailEntry). f.literal) (take p graph.trail) (e ∷ []) in
      subst (λ ls. Contains ls (opposite (get_or reason.clause i d))) (sym pushed) (elim (reason.others i d below) [
        | inl is ↦ subst (λ l. Contains (literals_of (take p graph.trail) ++ opposite u ∷ []) (opposite l)) (sym is)
            (Contains-push (literals_of (take p graph.trail)) (opposite u))
        | inr there ↦ Contains-append_left (literals_of (take p graph.trail)) (opposite u ∷ []) (opposite (get_or reason.clause i d)) there
      ])
