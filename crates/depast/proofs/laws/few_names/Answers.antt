use Rattle.depast.proofs.Few.{taken_few, few_names}
use Rattle.depast.specs.Depast.{letter_for}
use Rattle.depast.proofs.Numbering.{length-axioms, names_counted, few_where_small}
use Rattle.depast.proofs.laws.few_names.Goals as goal

pub returns-clause-size : goal.returns-clause-size
returns-clause-size c = taken_few

pub returns-clause-few : goal.returns-clause-few
returns-clause-few c = few_names

pub returns-clause-counted : goal.returns-clause-counted
returns-clause-counted c f = (length-axioms (letter_for f) f 0, names_counted f)

pub returns-clause-small : goal.returns-clause-small
returns-clause-small c = few_where_small
