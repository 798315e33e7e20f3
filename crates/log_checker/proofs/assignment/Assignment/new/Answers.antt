use Rattle.std.proofs.Common.{◌+◌}
use Rattle.log_checker.proofs.Setting.{set_made}
use Rattle.log_checker.proofs.assignment.Assignment.new.Goals as goal

pub invariant_of-result : goal.invariant_of-result
invariant_of-result c =
    set_made _ _ (c.args.letters + 1) (c.in_ok-values.ensures.items_if_clones_equal (λ y h. h)) (c.in_ok-trail.ensures.items_if_clones_equal (λ y h. h))
