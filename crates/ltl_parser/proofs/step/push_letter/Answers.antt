use Rattle.std.proofs.Common.{sym, subst, arith}
use Rattle.ltl_syntax.specs.Table.{IsPlain}
use Rattle.ltl_syntax.proofs.Sizes.{length-sizes}
use Rattle.ltl_syntax.specs.Formula.{Name, Letter}
use Rattle.ltl_parser.specs.Standing.{AddsLeaf}
use Rattle.ltl_lexer.proofs.Words.{word_utf8}
use Rattle.ltl_parser.proofs.Stepping.{word_plain, letter_added}
use Rattle.ltl_parser.proofs.step.push_letter.Goals as goal

pub unreachable-requires : goal.unreachable-requires
unreachable-requires c = absurd (c.in_default.ensures.cases.0 (word_utf8 c.args.bytes.now c.requires.word))

pub name-requires-clause-room : goal.name-requires-clause-room
name-requires-clause-room c =
    let names = c.requires.names in
    let few = length-sizes c.args.table.now.nodes in
    let room = c.requires.room in
    omega arith

pub name-requires-clause-plain : goal.name-requires-clause-plain
name-requires-clause-plain c = subst IsPlain (sym c.in-Ok.ensures.cases.0) (word_plain c.args.bytes.now c.requires.word)

pub returns-clause-leaf : goal.returns-clause-leaf
returns-clause-leaf c = subst (λ z. AddsLeaf c.args.table.now (Letter (Name z)) c.push.new.self c.in_ok-number.number) c.in-Ok.ensures.cases.0
    (letter_added c.args.table.now c.name.new.self c.push.new.self c.in-Ok.name.now c.in-Ok-name.letter c.in_ok-number.number c.in-Ok-name.ensures.ok
    c.in-Ok-name.ensures.few c.in_ok-number.ensures.ok c.in_ok-number.ensures.root c.in_ok-number.ensures.number)
