use Rattle.command_words.proofs.OneCommand.{command_one}
use Rattle.command_words.proofs.laws.one_command.Goals as goal

pub returns : goal.returns
returns c = command_one
