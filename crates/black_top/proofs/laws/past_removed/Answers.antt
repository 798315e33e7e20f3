use Rattle.black_top.proofs.NewNames.{read_again}
use Rattle.black_top.proofs.laws.past_removed.Goals as goal

pub returns-clause-sound : goal.returns-clause-sound
returns-clause-sound c f few =
    let names = c.few_names.ensures.small f few in
    record {
      future = c.without_past.ensures f;
      same = λ kind. c.equisatisfiable.ensures f kind names;
      back = λ u t good is. c.lowering.ensures.satisfies f u t good is;
    }

pub returns-clause-kept : goal.returns-clause-kept
returns-clause-kept c f t u good is = record {
  residues = λ g number i part at. c.lifting.ensures.residues f g number t u i good is part at;
  each_axiom = λ x among. c.lifting.ensures.axioms f x t u good is among;
  satisfies = c.lifting.ensures.satisfies f t u good is;
}

pub returns-clause-reads : goal.returns-clause-reads
returns-clause-reads c part f read = read_again part f read
