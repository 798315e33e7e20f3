use Rattle.std.proofs.Common.{List, None, sym, subst}
use Rattle.ltl_lexer.specs.declared.token.Token.{Token}
use Rattle.ltl_lexer.specs.Tokens.{AreTokens}
use Rattle.formula_reading.specs.Reading.{HasManyNodes}
use Rattle.formula_reading.proofs.ManyNodes.{nodes_are_many}
use Rattle.formula_reading.proofs.reading.read_formula.Goals as goal

pub returns-in-Err-Nodes : goal.returns-in-Err-Nodes
returns-in-Err-Nodes c =
    let text = c.args.text.now in
    let lexed : AreTokens 0 text c.deref.result.now None =
    subst (λ (ts : List Token). AreTokens 0 text ts None) (sym c.deref.ensures.value) c.in-Ok.ensures.ok in
    let refused = rw c.in-Err-Nodes.field-0-is at c.in-Err-Nodes.ensures.refused in
    let many : HasManyNodes text c.in-Err-Nodes.size = nodes_are_many text c.deref.result.now c.in-Err-Nodes.size c.read_without_fault.ensures
    c.nodes_of_text.ensures.one_count c.nodes_of_text.ensures.nodes lexed refused.0 refused.1 refused.2 in
    (c.if-text-gt-MAX_TEXT.false, many)
