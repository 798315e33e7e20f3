use Rattle.std.proofs.Common.{arith}
use Rattle.std.proofs.lemmas.Str.Pattern.{split_once_first}
use Rattle.black_view.proofs.Reading.{sides}
use Rattle.black_view.proofs.words.sides_of_equals.Goals as goal

pub returns : goal.returns
returns c = sides c.args.word.now c.split_once.result (split_once_first 61 c.args.word.now c.split_once.result c.split_once.ensures.cases (omega arith))
