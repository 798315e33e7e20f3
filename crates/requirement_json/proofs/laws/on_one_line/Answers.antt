use Rattle.requirement_json.specs.Whole.{json_of}
use Rattle.requirement_json.proofs.OneLine.{value_line}
use Rattle.requirement_json.proofs.laws.on_one_line.Goals as goal

pub returns : goal.returns
returns c = λ d r steps. value_line (json_of d r steps)
