use Rattle.ltl_parser.specs.Text.{symbols}
use Rattle.ltl_parser.specs.Standing.{IsUnderWay}
use Rattle.ltl_parser.proofs.build.build.Given as goal

abbrev pub invariant-loop-token : goal.invariant-loop-token
invariant-loop-token l = IsUnderWay (symbols l.text l.tokens) l.token-index l.table l.stack l.operand
