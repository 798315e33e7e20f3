use Rattle.ltl_run.proofs.PlainNames.{table_plain}
use Rattle.ltl_run.proofs.laws.plain_names.Goals as goal

pub returns : goal.returns
returns c = table_plain
