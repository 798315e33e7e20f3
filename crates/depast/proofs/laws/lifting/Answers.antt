use Rattle.depast.proofs.Raising.{lifted}
use Rattle.depast.proofs.Lifted.{lifted_part, lifted_axiom, lifted_satisfies}
use Rattle.depast.proofs.laws.lifting.Goals as goal

pub returns-clause-residues : goal.returns-clause-residues
returns-clause-residues c f g m t u i good l part at = lifted_part f t u good l g m part i at

pub returns-clause-axioms : goal.returns-clause-axioms
returns-clause-axioms c f x t u good l = lifted_axiom f t u good l x

pub returns-clause-lifted : goal.returns-clause-lifted
returns-clause-lifted c f t kind few good is = lifted f few t kind good is

pub returns-clause-satisfies : goal.returns-clause-satisfies
returns-clause-satisfies c f t u good l = lifted_satisfies f t u good l
