-- The letters of the trail and of what is learnt are known.
use Rattle.std.proofs.Common.{◌≡◌, ℕ, ◌<◌, ◌≤◌, ◌+◌, List, Option, Some, None, All, length, get_or, refl, sym, ap, ◌∙◌, subst, arith, Bool, take}
use Rattle.std.proofs.Common.{length-take-le}
use Rattle.std.proofs.lemmas.List.{get_or_default, get_or-map, length-map, get_or-take}
use Rattle.std.proofs.lemmas.List.Elements.{All-contains, All-push}
use Rattle.cnf_base.specs.declared.literal.Literal.{Literal}
use Rattle.cnf_base.specs.declared.literal.Hint.{Hint}
use Rattle.cnf_base.specs.Literal.{opposite}
use Rattle.cnf_base.specs.Known.{IsKnown, AreKnown}
use Rattle.clause_log.specs.LogValue.{LogValue}
use Rattle.cdcl_trail.specs.Trail.{IsTrail, AreValues, blank_entry, literal_at}
use Rattle.cdcl_analyze.specs.Learnt.{IsLearnt}
use Rattle.cdcl_analyze.specs.Analysis.{AreFromOne, refuted_at}
use Rattle.cdcl_state.specs.State.{AreKnownDecisions}
use Rattle.cdcl_trail.specs.declared.assigned.TrailEntry.{TrailEntry}
use Rattle.cdcl_analyze.specs.declared.analyze.Learnt.{Learnt}
use Rattle.cdcl_trail.proofs.Bridge.{named_has}
use Rattle.cdcl_trail.proofs.Bound.{bounded_by}
use Rattle.cdcl_trail.proofs.Standing.{reason_at}

pub opposite_known : (letters : ℕ) (l : Literal) → IsKnown letters l → IsKnown letters (opposite l)
opposite_known letters l known = record { from_one = known.from_one; within = known.within }

pub trail_known : (letters : ℕ) (inputs lines : List (List Literal)) (trail : List TrailEntry) → IsTrail inputs lines trail → AreKnown letters inputs
    → AreKnown letters lines → AreKnownDecisions letters trail → All (λ e. IsKnown letters e.literal) trail
trail_known letters inputs lines trail is_trail known_inputs known_lines decided k d below =
    subst (λ (e : TrailEntry). IsKnown letters e.literal) (get_or_default trail k blank_entry d below) (go (get_or trail k blank_entry).reason refl)
  where
    go : (o : Option Hint) → (get_or trail k blank_entry).reason ≡ o → IsKnown letters (literal_at trail k)
    go None free = decided k blank_entry below free
    go (Some hint) forced =
        let reason = reason_at inputs lines trail k hint is_trail below forced in
        All-contains (IsKnown letters) reason.clause (literal_at trail k)
        (named_has (All (IsKnown letters)) inputs lines hint reason.clause known_inputs known_lines reason.is) reason.there

pub known_from_one : (letters : ℕ) (trail : List TrailEntry) → All (λ e. IsKnown letters e.literal) trail → AreFromOne trail
known_from_one letters trail known k d below = (known k d below).from_one

pub learnt_known : (letters : ℕ) (log : LogValue) (trail : List TrailEntry) (learnt : Learnt) → IsLearnt log trail learnt
    → All (λ e. IsKnown letters e.literal) trail → All (IsKnown letters) learnt.clause.items
learnt_known letters log trail learnt is known i d below =
    let f : ℕ → Literal = λ p. opposite (literal_at trail p) in
    let low : i < length learnt.places.items = omega (arith, below, ap length is.clause_is, length-map learnt.places.items f) in
    let at : get_or learnt.clause.items i d ≡ f (get_or learnt.places.items i 0) =
    ap (λ c. get_or c i d) is.clause_is ∙ get_or-map f learnt.places.items i 0 d low in
    let p = get_or learnt.places.items i 0 in
    subst (IsKnown letters) (sym at) (opposite_known letters (literal_at trail p) (known p blank_entry (is.inside i 0 low)))

pub trail_short : (letters : ℕ) (values : List (Option Bool)) (trail : List TrailEntry) → AreValues values trail → All (λ e. IsKnown letters e.literal) trail
    → length trail ≤ letters + 1
trail_short letters values trail are known = bounded_by values trail (letters + 1) are (λ k d below. omega (arith, (known k d below).within))

-- the letters of a trail on which a literal was refuted are known
pub refuted_known : (letters : ℕ) (trail : List TrailEntry) (p : ℕ) → p < length trail → All (λ e. IsKnown letters e.literal) trail
    → All (λ e. IsKnown letters e.literal) (refuted_at trail p)
refuted_known letters trail p low known =
    All-push (λ e. IsKnown letters e.literal) (take p trail) (record { literal = opposite (literal_at trail p); level = p + 1; reason = None })
    (λ k d below.
    let k_low : k < p = omega (arith, below, length-take-le p trail (omega arith)) in
    subst (λ (e : TrailEntry). IsKnown letters e.literal) (sym (get_or-take p trail k d k_low)) (known k d (omega (arith, low))))
    (opposite_known letters (literal_at trail p) (known p blank_entry low))
