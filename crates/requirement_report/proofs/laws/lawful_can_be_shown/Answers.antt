use Rattle.ltl_syntax.specs.Table.{tree_at}
use Rattle.claim_check.specs.Data.{certificate_in}
use Rattle.requirement_report.proofs.laws.lawful_can_be_shown.Goals as goal

pub returns : goal.returns
returns c b kind there lawful =
    record { there = there; entries = c.nevers_hold.ensures.entries (tree_at b.table b.root) kind (certificate_in b.certificate) lawful.layers }
