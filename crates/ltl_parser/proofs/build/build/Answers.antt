use Rattle.std.proofs.Common.{get_or, arith, subst, None}
use Rattle.std.proofs.lemmas.List.{length-map}
use Rattle.ltl_lexer.specs.declared.token.TokenKind.TheVariants as kinds
use Rattle.ltl_lexer.specs.declared.token.Token.{Token}
use Rattle.ltl_lexer.proofs.Places.{parts_of_text}
use Rattle.ltl_parser.specs.Text.{symbols, symbol_of}
use Rattle.ltl_parser.specs.Standing.{IsUnderWay}
use Rattle.ltl_parser.proofs.Running.{next_symbol, taken_symbols, way_room, way_taken, way_next, way_reads, way_count, way_size, way_names}
use Rattle.ltl_parser.proofs.build.build.Goals as goal

abbrev none : Token
none = record { kind = kinds.True; start = 0; end = 0 }

pub step-requires-clause-fitting : goal.step-requires-clause-fitting
step-requires-clause-fitting c = parts_of_text c.args.text.now c.args.tokens.now None c.requires.tokens c.loop-token.token-index none (omega arith)

pub step-requires-clause-room : goal.step-requires-clause-room
step-requires-clause-room c =
    let ss = symbols c.args.text.now c.args.tokens.now in
    let x = symbol_of c.args.text.now (get_or c.args.tokens.now c.loop-token.token-index none) in
    way_room ss c.loop-token.token-index x (next_symbol c.args.text.now c.args.tokens.now c.loop-token.token-index none (omega arith))
    c.loop-token.table c.loop-token.stack c.loop-token.operand c.loop-token.invariant c.requires.room

pub step-requires-clause-taken : goal.step-requires-clause-taken
step-requires-clause-taken c =
    let ss = symbols c.args.text.now c.args.tokens.now in
    let x = symbol_of c.args.text.now (get_or c.args.tokens.now c.loop-token.token-index none) in
    way_taken ss c.loop-token.token-index x (next_symbol c.args.text.now c.args.tokens.now c.loop-token.token-index none (omega arith))
    c.loop-token.table c.loop-token.stack c.loop-token.operand c.loop-token.invariant

pub loop-token-preserved : goal.loop-token-preserved
loop-token-preserved c =
    let ss = symbols c.args.text.now c.args.tokens.now in
    let x = symbol_of c.args.text.now (get_or c.args.tokens.now c.loop-token.token-index none) in
    way_next ss c.loop-token.token-index x (next_symbol c.args.text.now c.args.tokens.now c.loop-token.token-index none (omega arith))
    c.loop-token.table c.step.new.table c.loop-token.stack c.step.new.stack c.loop-token.operand c.in_ok-operand.operand
    (taken_symbols c.args.text.now c.args.tokens.now c.loop-token.token-index none (omega arith)) c.loop-token.invariant c.in_ok-operand.ensures.steps

pub returns-clause-reads : goal.returns-clause-reads
returns-clause-reads c =
    let ss = symbols c.args.text.now c.args.tokens.now in
    let way = subst (IsUnderWay ss c.loop-token.token-index c.loop-token.table c.loop-token.stack) c.in-Some.is c.loop-token.invariant in
    way_reads ss c.loop-token.token-index c.loop-token.table c.reduce.new.table c.loop-token.stack c.reduce.new.stack c.in-Some.last c.in_ok-root.root
    (let n = length-map c.args.tokens.now (symbol_of c.args.text.now) in omega arith) way c.in_ok-root.ensures.held c.in_ok-root.ensures.stopped

pub returns-clause-count : goal.returns-clause-count
returns-clause-count c =
    let ss = symbols c.args.text.now c.args.tokens.now in
    let way = subst (IsUnderWay ss c.loop-token.token-index c.loop-token.table c.loop-token.stack) c.in-Some.is c.loop-token.invariant in
    way_count ss c.loop-token.token-index c.loop-token.table c.reduce.new.table c.loop-token.stack c.reduce.new.stack c.in-Some.last c.in_ok-root.root
    (let n = length-map c.args.tokens.now (symbol_of c.args.text.now) in omega arith) way c.in_ok-root.ensures.held c.in_ok-root.ensures.stopped

pub returns-clause-size : goal.returns-clause-size
returns-clause-size c =
    let ss = symbols c.args.text.now c.args.tokens.now in
    let way = subst (IsUnderWay ss c.loop-token.token-index c.loop-token.table c.loop-token.stack) c.in-Some.is c.loop-token.invariant in
    way_size ss c.loop-token.token-index c.loop-token.table c.reduce.new.table c.loop-token.stack c.reduce.new.stack c.in-Some.last c.in_ok-root.root
    (let n = length-map c.args.tokens.now (symbol_of c.args.text.now) in omega arith) way c.in_ok-root.ensures.held c.in_ok-root.ensures.stopped

pub returns-clause-names : goal.returns-clause-names
returns-clause-names c =
    let ss = symbols c.args.text.now c.args.tokens.now in
    let way = subst (IsUnderWay ss c.loop-token.token-index c.loop-token.table c.loop-token.stack) c.in-Some.is c.loop-token.invariant in
    way_names ss c.loop-token.token-index c.loop-token.table c.reduce.new.table c.loop-token.stack c.reduce.new.stack c.in-Some.last c.in_ok-root.root
    (let n = length-map c.args.tokens.now (symbol_of c.args.text.now) in omega arith) way c.in_ok-root.ensures.held c.in_ok-root.ensures.stopped
