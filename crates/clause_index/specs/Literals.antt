-- The literals of a clause that was found.
use Rattle.std.specs.Prelude.{List, [], ◌∷◌}
use Rattle.cnf_base.specs.declared.literal.Literal.{Literal}
use Rattle.clause_index.specs.declared.found.Found.{Found}
use Rattle.clause_index.specs.declared.found.Found.TheVariants as founds

abbrev pub literals : Found → List Literal
literals (founds.One a) = a ∷ []
literals (founds.Two a b) = a ∷ b ∷ []
literals (founds.Three a b c) = a ∷ b ∷ c ∷ []
literals (founds.OneAnd a more) = a ∷ more
literals (founds.TwoAnd a b more) = a ∷ b ∷ more
literals (founds.ThreeAnd a b c more) = a ∷ b ∷ c ∷ more
