use Rattle.command_words.proofs.Decided.{asks_or_not}
use Rattle.command_words.proofs.laws.asks_or_not.Goals as goal

pub returns : goal.returns
returns c = asks_or_not
