use Rattle.std.proofs.Common.{◌∙◌, ap, sym, length}
use Rattle.clause_index.proofs.Evenly.{evenly_long}
use Rattle.clause_index.proofs.run.Run.len.Goals as goal

pub returns-clause-count : goal.returns-clause-count
returns-clause-count c = sym (evenly_long c.self.inside.first c.self.inside.apart c.self.inside.count) ∙ ap length c.self.view_is
