use Rattle.std.proofs.Common.{◌≡◌, ◌<◌, ℕ, Some, slice_get}
use Rattle.std.specs.Global.{Box}
use Rattle.requirement_questions.specs.declared.leaving.Because.{Because}
use Rattle.requirement_certificate.specs.Chosen.{IsAbout}
use Rattle.requirement_certificate.proofs.choosing.first_conflict.Given as goal

abbrev pub invariant-conflicts : goal.invariant-conflicts
invariant-conflicts l =
    record { before : (j : ℕ) (c : Box Because) → j < l.place → slice_get l.report.conflicts.items j ≡ Some c → ¬ IsAbout l.scope c.value.members.items }
