use Rattle.std.specs.Prelude.{refl}
use Rattle.ltl_syntax.specs.Table.{trees_of}
use Rattle.ltl_syntax.proofs.laws.worked_table.Goals as goal

pub returns : goal.returns
unfolding trees_of
returns c = record { tree = refl; text = refl }
