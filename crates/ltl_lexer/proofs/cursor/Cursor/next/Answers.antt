use Rattle.std.proofs.Common.{◌+◌, subst, arith}
use Rattle.std.proofs.Math.ListN.{drop_of_length-le}
use Rattle.ltl_lexer.specs.Tokens.{Remaining, IsLexFault}
use Rattle.ltl_lexer.proofs.Cursors.{fault_at_place}
use Rattle.ltl_lexer.proofs.cursor.Cursor.next.Goals as goal

pub returns-in_default-clause-moves : goal.returns-in_default-clause-moves
returns-in_default-clause-moves c =
    let text = c.self.inside.text.now in (
      subst (λ (r : Remaining). IsLexFault r.place r.rest (c.self.inside.place + c.white_len.result)) c.self.view_is
          (fault_at_place text c.self.inside.place c.white_len.result c.white_len.ensures.within c.white_len.ensures.white c.white_len.ensures.behind
          c.if-start-self.false c.self.invariant.0 c.in_default.ensures.none),
      drop_of_length-le text (omega arith),
    )
