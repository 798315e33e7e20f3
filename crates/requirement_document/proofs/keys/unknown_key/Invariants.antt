use Rattle.std.proofs.Common.{◌≡◌}
use Rattle.toml.specs.View.{members_view}
use Rattle.requirement_document.specs.Keys.{knows_at, unknown_in}
use Rattle.requirement_document.proofs.keys.unknown_key.Given as goal

abbrev pub invariant-loop-key : goal.invariant-loop-key
invariant-loop-key l = unknown_in (knows_at l.section) (members_view l.table.entries) ≡ unknown_in (knows_at l.section) (members_view l.key-iterator)
