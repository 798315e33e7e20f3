-- The decisions that stay when the first one that is none of some literals is taken back.
use Rattle.std.proofs.Common.{◌≡◌, ℕ, ◌+◌, ◌<◌, ◌≤◌, inl, inr, List, None, take, length, All, Contains, get_or, sym, ap, ◌∙◌, subst, arith}
use Rattle.std.proofs.lemmas.Bool.{cases_lt}
use Rattle.std.proofs.lemmas.List.{get_or-take, get_or_default, length-take-le}
use Rattle.cnf_base.specs.declared.literal.Literal.{Literal}
use Rattle.cdcl_trail.specs.Trail.{IsTrail, blank_entry, literal_at, IsDecision}
use Rattle.cdcl_trail.specs.declared.assigned.TrailEntry.{TrailEntry}

-- below the place each decision is one of the literals
abbrev pub AreKeptBelow : List Literal → List TrailEntry → ℕ → Type 0
AreKeptBelow kept trail place = (k : ℕ) → k < place → (get_or trail k blank_entry).reason ≡ None → Contains kept (literal_at trail k)

module _ (kept : List Literal) (trail : List TrailEntry) (place : ℕ) (before : AreKeptBelow kept trail place) where
  pub kept_whole : length trail ≤ place → All (λ e. e.reason ≡ None → Contains kept e.literal) trail
  kept_whole all k d below =
      subst (λ (e : TrailEntry). e.reason ≡ None → Contains kept e.literal) (get_or_default trail k blank_entry d below) (before k (omega (arith, below, all)))

  pub kept_front : (inputs lines : List (List Literal)) (new : List TrailEntry) → IsTrail inputs lines trail → IsDecision trail place
      → new ≡ take (length new) trail
      → length new ≤ length trail → All (λ e. e.level ≤ place) new
      → All (λ e. e.reason ≡ None → Contains kept e.literal) new
  kept_front inputs lines new is_trail decision front short low k d below =
      let at : (j : ℕ) (e : TrailEntry) → j < length new → get_or new j e ≡ get_or trail j blank_entry =
      λ j e lt. ap (λ t. get_or t j e) front ∙ get_or-take (length new) trail j e lt ∙ get_or_default trail j e blank_entry (omega (arith, lt, short)) in
      let stands = is_trail place blank_entry decision.within in
      let level : (get_or trail place blank_entry).level ≡ place + 1 =
      stands.decision decision.free ∙ ap (λ n. n + 1) (length-take-le place trail (omega (arith, decision.within))) in
      let ends : length new ≤ place = elim (cases_lt place (length new)) [
        | inl inside ↦ let lower : (get_or trail place blank_entry).level ≤ place =
            subst (λ (e : TrailEntry). e.level ≤ place) (at place blank_entry inside) (low place blank_entry inside) in absurd (omega (arith, lower, level))
        | inr outside ↦ outside
      ] in
      subst (λ (e : TrailEntry). e.reason ≡ None → Contains kept e.literal) (sym (at k d below)) (before k (omega (arith, below, ends)))
