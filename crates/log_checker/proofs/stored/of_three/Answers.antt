use Rattle.std.proofs.Common.{[], ◌∷◌}
use Rattle.log_checker.specs.Shorts.{literal_of}
use Rattle.log_checker.proofs.stored.of_three.Goals as goal

pub returns : goal.returns
returns c = c.with_number.ensures (literal_of c.args.a ∷ literal_of c.args.b ∷ []) c.of_two.ensures
