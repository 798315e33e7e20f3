-- A visit of the next clause of a walk, once the false literal is its second.
use Rattle.std.proofs.Common.{◌≡◌, ℕ, ◌<◌, ◌≤◌, ◌+◌, ◌*◌, inl, inr, List, [], Contains, length, get_or, refl, sym, ap, subst, arith}
use Rattle.std.proofs.lemmas.List.Elements.{All-contains}
use Rattle.cnf_base.specs.declared.literal.Literal.{Literal}
use Rattle.cdcl_trail.specs.Trail.{literals_of}
use Rattle.cdcl_trail.specs.Assigned.{AssignedValue}
use Rattle.cdcl_trail.specs.declared.assigned.TrailEntry.{TrailEntry}
use Rattle.cdcl_watches.specs.Watching.{code, clause_of, list_of, WatchValue}
use Rattle.cdcl_watches.specs.Heads.{ArenaValue, number_of}
use Rattle.cdcl_watches.specs.Watchers.{blocker_of, clause_number, numbers, AreWatchers}
use Rattle.cdcl_watches.specs.Watchers.{ListWalk, row_of, next_of, closed, IsWalked, walked}
use Rattle.cdcl_watches.proofs.Gap.{gap_length, closed_at}
use Rattle.cdcl_watches.proofs.Numbers.{length_at}
use Rattle.cdcl_watches.proofs.Kept.{turned_watchers}
use Rattle.cdcl_watches.proofs.Walks.{number_in, stayed, next_blocking, next_number, stayed_walked, stayed_same, next_listed, next_is, next_watched, next_long}
use Rattle.cdcl_propagate.specs.Lasting.{IsLasting}
use Rattle.cdcl_propagate.specs.Visit.{HasTrue, watcher_at, IsVisiting, IsPassed, IsFaced, false_at, watched_by}
use Rattle.cdcl_propagate.proofs.Guard.{visit_kept}
use Rattle.cdcl_propagate.proofs.At.{IsAt, at_faced}
use Rattle.cdcl_propagate.proofs.LastingVisit.{lasting_faced}

-- the walk among these clauses
abbrev pub with_arena : ListWalk → ArenaValue → ListWalk
with_arena w new = record w { arena = new }

module _ {w : ListWalk} {head : ℕ} (new : ArenaValue) (is : IsWalked w) (there : w.at.next < length (row_of w)) (head_is : head ≡ (next_of w).head)
    (heads_are : new.heads ≡ w.arena.heads)
    (faced : (ls : List (List ℕ)) → IsFaced (watched_by w.arena ls) (watched_by new ls) (number_in w head) w.literal) where
  faced_there : IsFaced (walked w) (walked (with_arena w new)) (number_in w head) w.literal
  faced_there = subst (λ hs. IsFaced (walked w) (watched_by new (numbers hs (closed w))) (number_in w head) w.literal) (sym heads_are)
      (faced (numbers w.arena.heads (closed w)))

  pub faced_walked : IsWalked (with_arena w new)
  faced_walked = record {
    known = is.known;
    order = is.order;
    inside = is.inside;
    watchers = subst (λ hs. AreWatchers hs new.clauses (closed w)) (sym heads_are) (elim (faced []).same [
      | inl same ↦ subst (λ (u : WatchValue). AreWatchers w.arena.heads u.clauses (closed w)) (sym same) is.watchers
      | inr turned ↦ subst (λ cs. AreWatchers w.arena.heads cs (closed w)) (sym turned.0)
          (turned_watchers w.arena.heads w.arena.clauses (closed w) (number_in w head) (next_watched is there head_is).0 (next_long is there head_is)
          is.watchers)
    ]);
  }

  pub faced_lasting : (trail : List TrailEntry) (n : ℕ) → IsLasting w.arena.clauses trail n → IsLasting new.clauses trail n
  faced_lasting trail n =
      lasting_faced (walked w) (walked (with_arena w new)) trail n (number_in w head) w.literal (next_watched is there head_is).0 faced_there

  pub walk_at : {inputs lines : List (List Literal)} {k : ℕ} {a : AssignedValue} → w.literal ≡ false_at a.trail k
      → IsVisiting inputs lines k w.at.kept a (walked w)
      → IsAt inputs lines k w.at.kept a (walked (with_arena w new)) (number_of new.heads head)
  walk_at {inputs} {lines} {k} {a} l_is visiting =
      subst (λ hs. IsAt inputs lines k w.at.kept a (walked (with_arena w new)) (number_of hs head)) (sym heads_are)
      (at_faced inputs lines k w.at.kept a (walked w) (walked (with_arena w new)) (number_in w head) w.literal l_is faced_walked.watchers.watching
      (subst (λ f. w.at.kept < length (list_of (walked w).lists f)) l_is (next_listed is there))
      (subst (λ f. get_or (list_of (walked w).lists f) w.at.kept 0 ≡ number_in w head) l_is (next_is is there head_is))
      (next_watched is there head_is).0 faced_there visiting)

-- the walk went on by a watcher that it kept
pub kept_passed : {inputs lines : List (List Literal)} {k : ℕ} {a : AssignedValue} (w new : ListWalk) (v : WatchValue) → walked new ≡ v
    → new.at.kept ≡ w.at.kept + 1 → new.at.next ≡ w.at.next + 1 → length (row_of new) ≡ length (row_of w)
    → IsVisiting inputs lines k (w.at.kept + 1) a v → IsPassed inputs lines k a w new
kept_passed {inputs} {lines} {k} {a} w new v same kept on length_is done = record {
  visiting = subst (λ m. IsVisiting inputs lines k m a (walked new)) (sym kept) (subst (IsVisiting inputs lines k (w.at.kept + 1) a) (sym same) done);
  on = on;
  same = length_is;
}

-- the next watcher's blocker is true: it stays
module _ {w : ListWalk} (is : IsWalked w) (there : w.at.next < length (row_of w)) where
  next_blocks : Contains (clause_of w.arena.clauses (clause_number w.arena.heads (next_of w))) (blocker_of (next_of w))
  next_blocks = (next_blocking is there).blocks

  pub next_letter : (n : ℕ) → length (walked w).lists ≡ 2 * n → (blocker_of (next_of w)).letter.0 < n
  next_letter n sized =
      let c = clause_number w.arena.heads (next_of w) in
      let known = (next_watched is there {head = (next_of w).head} refl).0 in
      let fits = All-contains (λ (m : Literal). code m < length (walked w).lists) (clause_of w.arena.clauses c) (blocker_of (next_of w))
      (is.watchers.watching.fits c known) next_blocks in
      omega (arith, fits, sized, at_bit (blocker_of (next_of w)))
    where
      at_bit : (m : Literal) → 2 * m.letter.0 ≤ code m
      at_bit m = omega arith

  pub passed_walked : IsWalked (stayed w (next_of w))
  passed_walked = stayed_walked is there (next_of w) refl (next_blocking is there)

  pub passed_visiting : {inputs lines : List (List Literal)} {k : ℕ} {a : AssignedValue} → w.literal ≡ false_at a.trail k
      → IsVisiting inputs lines k w.at.kept a (walked w) → Contains (literals_of a.trail) (blocker_of (next_of w))
      → IsVisiting inputs lines k (w.at.kept + 1) a (walked (stayed w (next_of w)))
  passed_visiting {inputs} {lines} {k} {a} l_is visiting true_one =
      let told : HasTrue (literals_of a.trail) (watcher_at (walked w) w.literal w.at.kept) =
      subst (λ n. HasTrue (literals_of a.trail) (clause_of w.arena.clauses n)) (sym (next_number is there))
      (blocker_of (next_of w), next_blocks, true_one) in
      subst (IsVisiting inputs lines k (w.at.kept + 1) a) (sym (stayed_same is there (next_of w) refl (next_blocking is there)))
      (visit_kept inputs lines k w.at.kept a (walked w)
      (subst (λ f. HasTrue (literals_of a.trail) (watcher_at (walked w) f w.at.kept)) l_is told) visiting)

-- nothing is still to come
pub walk_ended : {w : ListWalk} → IsWalked w → length (row_of w) ≤ w.at.next → length (list_of (walked w).lists w.literal) ≤ w.at.kept
walk_ended {w} is end =
    omega (
      arith,
      end,
      is.order,
      is.inside,
      length_at w.arena.heads is.watchers.none (closed w) (code w.literal),
      ap length (closed_at w.lists (code w.literal) w.at.kept w.at.next is.known is.order is.inside),
      gap_length (row_of w) w.at.kept w.at.next is.order is.inside,
    )
