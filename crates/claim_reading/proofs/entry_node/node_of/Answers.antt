use Rattle.std.proofs.Common.{sym, subst}
use Rattle.claim_reading.specs.Shown.{IsNodeOf}
use Rattle.claim_reading.proofs.Shown.{node_is, left_is}
use Rattle.claim_reading.proofs.entry_node.node_of.Goals as goal

pub form_of-requires : goal.form_of-requires
form_of-requires c =
    left_is c.args.closure.now.names c.args.closure.now.formula c.entries-entries.result.now c.entries-entries.ensures.closure c.args.number c.requires

pub returns : goal.returns
returns c = subst (IsNodeOf c.args.closure.now.names c.args.closure.now.formula c.args.number) (sym c.form_of.ensures)
    (node_is c.args.closure.now.names c.args.closure.now.formula c.entries-entries.result.now c.entries-entries.ensures.closure c.args.number c.requires)
