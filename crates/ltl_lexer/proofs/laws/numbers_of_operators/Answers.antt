use Rattle.std.proofs.Common.{refl}
use Rattle.ltl_lexer.specs.declared.token.TokenKind.TheVariants as kinds
use Rattle.ltl_lexer.proofs.Words.{numbers_fit}
use Rattle.ltl_lexer.proofs.laws.numbers_of_operators.Goals as goal

pub returns : goal.returns
returns c bytes word s = numbers_fit bytes (kinds.Unary word) word s refl
