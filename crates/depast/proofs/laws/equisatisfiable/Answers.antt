use Rattle.depast.proofs.Raising.{lifted, lowered}
use Rattle.depast.proofs.Lifted.{lifted_satisfies, lowered_satisfies}
use Rattle.depast.proofs.laws.equisatisfiable.Goals as goal

pub returns : goal.returns
returns c f kind few = (
  λ w. let v = lifted f few w.0 kind w.1 w.2 in (v.0, v.1, v.2, lifted_satisfies f w.0 v.0 w.1 v.3 w.3),
  λ w. let v = lowered f w.0 kind w.1 w.2 in (v.0, v.1, v.2, lowered_satisfies f w.0 v.0 w.1 v.3 w.3),
)
