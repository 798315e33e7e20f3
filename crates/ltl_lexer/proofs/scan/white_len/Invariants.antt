use Rattle.std.proofs.Common.{◌≤◌, ◌-◌, length, take}
use Rattle.ltl_lexer.specs.Tokens.{AreWhite}
use Rattle.ltl_lexer.proofs.scan.white_len.Given as goal

abbrev pub invariant-loop-len : goal.invariant-loop-len
invariant-loop-len l = record {
  within : l.len ≤ length l.text;
  white : AreWhite (take l.len l.text);
}

abbrev pub decreases-loop-len : goal.decreases-loop-len
decreases-loop-len l = length l.text - l.len
