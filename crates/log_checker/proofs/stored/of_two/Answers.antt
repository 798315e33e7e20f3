use Rattle.std.proofs.Common.{[], ◌∷◌}
use Rattle.log_checker.specs.Shorts.{literal_of}
use Rattle.log_checker.proofs.stored.of_two.Goals as goal

pub returns : goal.returns
returns c = c.with_number.ensures (literal_of c.args.a ∷ []) c.of_one.ensures
