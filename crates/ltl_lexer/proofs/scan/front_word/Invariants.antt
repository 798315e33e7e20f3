use Rattle.std.proofs.Common.{◌≤◌, ◌-◌, length, take, drop, false}
use Rattle.ltl_lexer.specs.Tokens.{IsWord}
use Rattle.ltl_lexer.specs.Scanning.{FrontChar}
use Rattle.ltl_lexer.proofs.scan.front_word.Given as goal

abbrev pub invariant-loop-size : goal.invariant-loop-size
invariant-loop-size l = record {
  within : l.len ≤ length l.text;
  word : IsWord (take l.len l.text);
  next : FrontChar false (drop l.len l.text) l.size;
}

abbrev pub decreases-loop-size : goal.decreases-loop-size
decreases-loop-size l = length l.text - l.len
