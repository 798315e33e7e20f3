-- The clause that forced a letter and the literals that are read for it: what holds of the ones holds of the others.
use Rattle.std.proofs.Common.{◌≡◌, ◌≢◌, ℕ, ◌<◌, List, Bool, Option, Some, All, map, length, get_or, sym, ap, ◌∙◌, subst, arith}
use Rattle.std.proofs.lemmas.List.{get_or-map, length-map}
use Rattle.std.proofs.lemmas.List.Elements.{All-contains}
use Rattle.cnf_base.specs.declared.literal.Literal.{Literal}
use Rattle.cnf_base.specs.declared.literal.Hint.{Hint}
use Rattle.cnf_base.specs.Step.{named}
use Rattle.cdcl_trail.specs.Trail.{IsTrail, AreValues, literal_at}
use Rattle.cdcl_trail.specs.declared.assigned.TrailEntry.{TrailEntry}
use Rattle.cdcl_trail.specs.Entries.{hint_of}
use Rattle.cdcl_watches.specs.Heads.{ArenaValue}
use Rattle.cdcl_watches.specs.Watching.{clause_of}
use Rattle.cdcl_propagate.specs.Visit.{HaveSame, IsStored, blank_hint}
use Rattle.cdcl_analyze.specs.Consequences.{StandsBelow, HasReason}
use Rattle.cdcl_analyze.proofs.Growth.{other_stands, reason_named}

pub read_has : (P : Literal → Type 0) (clause read : List Literal) → HaveSame clause read → All P clause → All P read
read_has P clause read same all = λ i d below. All-contains P clause _ all (same.back i d below)

pub clause_has : (P : Literal → Type 0) (clause read : List Literal) → HaveSame clause read → All P read → All P clause
clause_has P clause read same all = λ i d below. All-contains P read _ all (same.there i d below)

-- the clause that the buffer notes under the name of a hint is read in place of the one that the hint names
pub noted_read : (inputs lines : List (List Literal)) (arena : ArenaValue) (hint : Hint) (name : ℕ) (read : List Literal)
    → IsStored inputs lines arena.clauses (map hint_of arena.names) → hint_of name ≡ hint
    → (c : ℕ) × (c < length arena.clauses) × (get_or arena.names c 0 ≡ name) × (read ≡ clause_of arena.clauses c)
    → (clause : List Literal) × (named inputs lines hint ≡ Some clause) × HaveSame clause read
noted_read inputs lines arena hint name read stored name_is (c, below, there, read_is) =
    let from = stored.from_log c below in
    let low : c < length arena.names = omega (arith, below, stored.paired, length-map arena.names hint_of) in
    let hint_is : get_or (map hint_of arena.names) c blank_hint ≡ hint = get_or-map hint_of arena.names c 0 blank_hint low ∙ ap hint_of there ∙ name_is in
    (from.0, subst (λ h. named inputs lines h ≡ Some from.0) hint_is from.1, subst (HaveSame from.0) (sym read_is) from.2)

-- the other letters that are read stand before the letter that is forced
pub read_stands : (inputs lines : List (List Literal)) (trail : List TrailEntry) (base : ℕ) (values : List (Option Bool)) (letter : ℕ) (reason : Hint)
    → AreValues values trail → IsTrail inputs lines trail
    → HasReason trail base letter reason → (read : List Literal) → ((clause : List Literal) → named inputs lines reason ≡ Some clause → HaveSame clause read)
    → (i other : ℕ) (d : Literal) → i < length read → other ≡ (get_or read i d).letter.0 → other ≢ letter
    → (place : ℕ) → place < length trail → (literal_at trail place).letter.0 ≡ letter → StandsBelow trail place other
read_stands inputs lines trail base values letter reason are_values is_trail why read same i other d low other_is differ place inside place_is =
    let named_is = reason_named inputs lines trail base values letter reason are_values is_trail why in
    let stand : All (λ (l : Literal). l.letter.0 ≢ letter → StandsBelow trail place l.letter.0) named_is.0 = λ k e below apart.
    other_stands inputs lines trail base values letter reason are_values is_trail why named_is.0 named_is.1 k e below apart place inside place_is in
    subst (λ (x : ℕ). StandsBelow trail place x) (sym other_is)
    (read_has (λ (l : Literal). l.letter.0 ≢ letter → StandsBelow trail place l.letter.0) named_is.0 read (same named_is.0 named_is.1) stand i d low
    (λ e. differ (other_is ∙ e)))
