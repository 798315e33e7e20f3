use Rattle.ltl_word.proofs.OneReading.{one_reading}
use Rattle.ltl_word.proofs.laws.one_reading.Goals as goal

pub returns : goal.returns
returns c = one_reading
