-- The steps of the walk down the trail, said of each trail that is like the one that is read.
use Rattle.std.proofs.Common.{◌≡◌, ℕ, ◌<◌, ◌≤◌, ◌+◌, ◌⊎◌, ◌↔◌, inl, inr, List, [], ◌∷◌, ◌++◌, Some, None, All, length, get_or, refl, sym, ap, ◌∙◌, subst, arith}
use Rattle.std.proofs.lemmas.List.{get_or_default}
use Rattle.std.proofs.lemmas.List.Elements.{All-push}
use Rattle.cnf_base.specs.declared.literal.Literal.{Literal}
use Rattle.cnf_base.specs.declared.literal.Hint.{Hint}
use Rattle.cnf_base.specs.Literal.{opposite}
use Rattle.cnf_base.specs.Step.{named}
use Rattle.cdcl_trail.specs.Trail.{blank_entry, literal_at, IsDecision}
use Rattle.cdcl_trail.specs.Values.{IsBelow}
use Rattle.cdcl_propagate.specs.Visit.{HaveSame}
use Rattle.cdcl_analyze.specs.Graph.{GraphValue, IsGraph}
use Rattle.cdcl_analyze.specs.Analysis.{AreWaiting, IsLike, IsWalk}
use Rattle.cdcl_analyze.specs.Marks.{MarksValue, IsMarked, FoundSame, IsUnasked}
use Rattle.cdcl_analyze.specs.Waiting.{IsWaiting, IsNext}
use Rattle.cdcl_trail.specs.declared.assigned.TrailEntry.{TrailEntry}
use Rattle.cdcl_trail.proofs.Bridge.{named_has}
use Rattle.cdcl_analyze.proofs.Walk.{walk_pass, walk_keep, walk_resolve}
use Rattle.cdcl_trail.proofs.Standing.{reason_at}
use Rattle.cdcl_analyze.proofs.Outcomes.{outcome_same}
use Rattle.cdcl_analyze.proofs.Sameness.{clause_has}

-- what was found out stays through two turns
pub found_again : (one two three : MarksValue) → FoundSame one two → FoundSame two three → FoundSame one three
found_again one two three first second = record {
  stamp = second.stamp ∙ first.stamp;
  outcomes = second.outcomes ∙ first.outcomes;
  consequences = second.consequences ∙ first.consequences;
}

-- where nothing is known of letters, nothing is known once more places were gone over
pub found_unasked : (old new : MarksValue) → FoundSame old new → IsUnasked old → IsUnasked new
found_unasked old new found none =
    record { unasked = λ x. outcome_same old new found x ∙ none.unasked x; none_follows = found.consequences ∙ none.none_follows }

-- a trail is like itself
pub like_itself : (graph : GraphValue) → IsGraph graph → (from : ℕ) → from ≤ length graph.trail → IsLike graph graph.trail from
like_itself graph sound from fits =
    record { same = λ k low. refl; long = fits; is_trail = sound.is_trail; values = graph.values; told = sound.told; few = sound.few }

-- what waits below the next place waits on
pub still_waiting : (trail : List TrailEntry) (end place : ℕ) (old new : MarksValue) → AreWaiting trail end old → ((x : ℕ) → IsMarked new x ↔ IsMarked old x)
    → IsNext old.waiting new.waiting end place → end ≤ length trail → AreWaiting trail place new
still_waiting trail end place old new waits same next fits j low inside is =
    elim (next.before j (omega (arith, low, next.low)) (waits j (omega (arith, low, next.low)) inside ((same _).0 is))) [
      | inl same_place ↦ absurd (omega (arith, same_place, low))
      | inr rest ↦ rest.1
    ]

-- a letter that is marked anew waits at its place
pub waiting_marked : (trail : List TrailEntry) (letter place end : ℕ) (old new : MarksValue)
    → ((k : ℕ) → k < length trail → (literal_at trail k).letter.0 ≡ letter → place ≡ k)
    → ((x : ℕ) → IsMarked new x → (x ≡ letter) ⊎ IsMarked old x) → ((p : ℕ) → (p ≡ place) ⊎ IsWaiting old.waiting p → IsWaiting new.waiting p)
    → AreWaiting trail end old → AreWaiting trail end new
waiting_marked trail letter place end old new place_is only more waits j low inside is = elim (only (literal_at trail j).letter.0 is) [
  | inl same ↦ more j (inl (sym (place_is j inside same)))
  | inr was ↦ more j (inr (waits j low inside was))
]

-- the walk over a trail that is like the graph's
module _ (graph : GraphValue) (t : List TrailEntry) (from end : ℕ) (old new : MarksValue) (like : IsLike graph t from) (fits : end ≤ from)
    (inside : from ≤ length graph.trail) (waits : AreWaiting graph.trail end old) where
  marked_waits : (j : ℕ) → j < end → IsMarked old (literal_at t j).letter.0 → IsWaiting old.waiting j
  marked_waits j low is =
      waits j low (omega (arith, low, fits, inside)) (subst (λ (e : TrailEntry). IsMarked old e.literal.letter.0) (like.same j (omega (arith, low, fits))) is)

  -- where nothing waits the walk is at its end
  pub like_ended : ((p : ℕ) → p < end → ¬ IsWaiting old.waiting p) → (clause : List Literal) (hints : List Hint) (places : List ℕ)
      → IsWalk graph.log.inputs graph.log.lines t end (IsMarked old) clause hints places
      → IsWalk graph.log.inputs graph.log.lines t 0 (IsMarked new) clause hints places
  like_ended none clause hints places walk =
      walk_pass graph.log.inputs graph.log.lines t end 0 (IsMarked old) (IsMarked new) clause hints places (omega arith)
      (λ j low is. absurd (none j low (marked_waits j low is))) walk

  -- a place that waits is the next to be gone over
  module _ (place : ℕ) (e : TrailEntry) (same : (x : ℕ) → IsMarked new x ↔ IsMarked old x) (next : IsNext old.waiting new.waiting end place)
      (is : e ≡ get_or graph.trail place e) where
    entry_is : get_or t place blank_entry ≡ e
    entry_is =
        like.same place (omega (arith, next.low, fits)) ∙ sym (is ∙ get_or_default graph.trail place e blank_entry (omega (arith, next.low, fits, inside)))

    pub like_decided : (places more : List ℕ) → e.reason ≡ None → more ≡ places ++ place ∷ [] → All (IsDecision t) places → All (IsDecision t) more
    like_decided places more free more_is decided =
        rw more_is (All-push (IsDecision t) places place decided (record {
          within = omega (arith, next.low, fits, like.long);
          free = ap (λ (f : TrailEntry). f.reason) entry_is ∙ free;
        }))

    module _ (clause : List Literal) (hints : List Hint) (places : List ℕ)
        (walk : IsWalk graph.log.inputs graph.log.lines t end (IsMarked old) clause hints places) where
      here : IsWalk graph.log.inputs graph.log.lines t (place + 1) (IsMarked new) clause hints places
      here =
          walk_pass graph.log.inputs graph.log.lines t end (place + 1) (IsMarked old) (IsMarked new) clause hints places (omega (arith, next.low))
          (λ j low marked. (below j (next.before j low (marked_waits j low marked)), (same _).1 marked)) walk
        where
          below : (j : ℕ) → (j ≡ place) ⊎ ((j < place) × IsWaiting new.waiting j) → j < place + 1
          below j (inl at) = omega (arith, at)
          below j (inr rest) = omega (arith, rest.0)

      -- what stands there is kept or resolved away
      pub like_keep : (l : Literal) (c : List Literal) (hs : List Hint) (ps : List ℕ) → l ≡ opposite e.literal
          → c ≡ clause ++ l ∷ [] → hs ≡ hints → ps ≡ places ++ place ∷ []
          → IsWalk graph.log.inputs graph.log.lines t place (IsMarked new) c hs ps
      like_keep l c hs ps l_is c_is hs_is ps_is =
          let kept : l ≡ opposite (literal_at t place) = l_is ∙ ap (λ (f : TrailEntry). opposite f.literal) (sym entry_is) in
          rw (c_is, hs_is, ps_is, kept) (walk_keep _ _ _ place _ _ _ _ here)

      pub like_resolve : IsGraph graph → (more : ℕ → Type 0) (hint : Hint) (read : List Literal) (c : List Literal) (hs : List Hint) (ps : List ℕ)
          → e.reason ≡ Some hint
          → ((named_clause : List Literal) → named graph.log.inputs graph.log.lines hint ≡ Some named_clause → HaveSame named_clause read)
          → ((x : ℕ) → IsMarked new x → more x) → All (λ l. more l.letter.0) read
          → c ≡ clause → hs ≡ hints ++ hint ∷ [] → ps ≡ places → IsWalk graph.log.inputs graph.log.lines t place more c hs ps
      like_resolve sound more hint read c hs ps forced reads kept all c_is hs_is ps_is =
          let letters = length graph.values in
          let in_t : place < length t = omega (arith, here.within) in
          let reason = reason_at graph.log.inputs graph.log.lines t place hint like.is_trail in_t (ap (λ (f : TrailEntry). f.reason) entry_is ∙ forced) in
          let known = named_has (All (IsBelow letters)) graph.log.inputs graph.log.lines hint reason.clause sound.known_inputs sound.known_lines reason.is in
          rw (c_is, hs_is, ps_is)
          (walk_resolve _ _ _ place _ _ _ _ here letters like.values more hint reason like.told known sound.few kept
          (clause_has (λ l. more l.letter.0) reason.clause read (reads reason.clause reason.is) all))
