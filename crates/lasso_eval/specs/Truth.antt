-- Truth values of the connectives.
use Rattle.std.specs.Prelude.{Bool, ◌&&◌, ◌||◌, not}
use Rattle.lasso_eval.specs.declared.local.Connective.{Connective}
use Rattle.lasso_eval.specs.declared.local.Connective.TheVariants as connectives

abbrev pub connected : Connective → Bool → Bool → Bool
connected connectives.And a b = a && b
connected connectives.Or a b = a || b
connected connectives.Implies a b = not a || b
connected connectives.Iff a b = (not a || b) && (not b || a)
