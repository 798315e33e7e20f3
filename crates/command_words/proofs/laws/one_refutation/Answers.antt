use Rattle.command_words.proofs.Refuting.{refutation_one}
use Rattle.command_words.proofs.laws.one_refutation.Goals as goal

pub returns : goal.returns
returns c = refutation_one
