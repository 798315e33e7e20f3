use Rattle.claims.proofs.Ranging.{letters_known}
use Rattle.claims.proofs.Knowing.{named_known, opened_known}
use Rattle.claims.proofs.Growing.{lines_grow, layers_grow, layer_lines_grow}
use Rattle.claims.proofs.laws.lists.Goals as goal

pub returns-clause-known : goal.returns-clause-known
returns-clause-known c = letters_known

pub returns-clause-line : goal.returns-clause-line
returns-clause-line c = lines_grow

pub returns-clause-layer : goal.returns-clause-layer
returns-clause-layer c = layers_grow

pub returns-clause-layer_lines : goal.returns-clause-layer_lines
returns-clause-layer_lines c = layer_lines_grow

pub returns-clause-named : goal.returns-clause-named
returns-clause-named c = named_known

pub returns-clause-next : goal.returns-clause-next
returns-clause-next c = opened_known
