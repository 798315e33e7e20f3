use Rattle.std.proofs.Common.{ℕ, List, ◌++◌, length}
use Rattle.std.specs.Prelude.{Option}
use Rattle.ltl_lexer.specs.declared.token.Token.{Token}
use Rattle.ltl_lexer.specs.Tokens.{AreTokens}
use Rattle.ltl_lexer.proofs.cursor.tokens.Given as goal

abbrev pub invariant-loop-next : goal.invariant-loop-next
invariant-loop-next l = (ts : List Token) (f : Option ℕ) → AreTokens l.cursor.place l.cursor.rest ts f → AreTokens 0 l.text (l.found.items ++ ts) f

abbrev pub decreases-loop-next : goal.decreases-loop-next
decreases-loop-next l = length l.cursor.rest
