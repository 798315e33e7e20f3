use Rattle.ltl_word.proofs.SomeReading.{some_reading}
use Rattle.ltl_word.proofs.laws.some_reading.Goals as goal

pub returns : goal.returns
returns c = some_reading
