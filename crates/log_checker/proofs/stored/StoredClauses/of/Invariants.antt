use Rattle.std.proofs.Common.{◌≡◌, ℕ, ◌<◌, [], length, slice_index_or}
use Rattle.log_checker.specs.Shorts.{IsShort}
use Rattle.log_checker.specs.declared.stored.Short.{Short}
use Rattle.log_checker.proofs.stored.StoredClauses.of.Given as goal

abbrev pub invariant-clauses : goal.invariant-clauses
invariant-clauses l =
    (length l.shorts.items ≡ l.index) × ((k : ℕ) (d : Short) → k < l.index → IsShort (slice_index_or l.shorts.items k d) (slice_index_or l.fn.list k []))
