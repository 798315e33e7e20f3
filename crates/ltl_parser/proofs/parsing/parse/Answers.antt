use Rattle.std.proofs.Common.{None, arith, sym, ◌∙◌}
use Rattle.ltl_lexer.specs.declared.token.TokenKind.TheVariants as kinds
use Rattle.ltl_lexer.proofs.Places.{no_more_tokens}
use Rattle.ltl_syntax.specs.Table.{tree_at}
use Rattle.ltl_parser.proofs.Readings.{nodes_of_tokens, size_of_tokens}
use Rattle.ltl_parser.proofs.Faults.{fault_at, fault_behind}
use Rattle.ltl_parser.proofs.parsing.parse.Goals as goal

pub walk-requires : goal.walk-requires
walk-requires c = let n = no_more_tokens 0 c.args.text.now c.args.tokens.now None c.requires.tokens in omega arith

pub returns-in-Err-clause-refused : goal.returns-in-Err-clause-refused
returns-in-Err-clause-refused c =
    fault_at c.args.text.now c.args.tokens.now c.in-Err.i (record { kind = kinds.True; start = 0; end = 0 }) (c.in-Err.ensures c.args.text.now).0 (omega arith)

pub returns-in-Err-2-clause-refused : goal.returns-in-Err-2-clause-refused
returns-in-Err-2-clause-refused c = fault_behind c.args.text.now c.args.tokens.now c.in-Err.i (c.in-Err.ensures c.args.text.now).0 (omega arith)

pub returns-in-Ok-build-clause-accepted : goal.returns-in-Ok-build-clause-accepted
returns-in-Ok-build-clause-accepted c =
    let text = c.args.text.now in
    let tokens = c.args.tokens.now in
    let tree = tree_at c.in-Ok-build.found.0 c.in-Ok-build.found.1 in
    let count = size_of_tokens text tokens tree c.requires.tokens c.in-Ok-build.ensures.reads in
    let walked = (c.in-Ok.ensures text).1 in
    record {
      short = c.requires.size;
      reads = record { tokens = tokens; lexed = c.requires.tokens; reads = c.in-Ok-build.ensures.reads };
      few = omega arith;
    }

pub returns-in-Ok-build-clause-count : goal.returns-in-Ok-build-clause-count
returns-in-Ok-build-clause-count c =
    let tree = tree_at c.in-Ok-build.found.0 c.in-Ok-build.found.1 in
    c.in-Ok-build.ensures.count ∙ sym (nodes_of_tokens c.args.text.now c.args.tokens.now tree c.requires.tokens c.in-Ok-build.ensures.reads)

pub returns-in-Ok-build-clause-size : goal.returns-in-Ok-build-clause-size
returns-in-Ok-build-clause-size c =
    let tree = tree_at c.in-Ok-build.found.0 c.in-Ok-build.found.1 in
    c.in-Ok-build.ensures.size ∙ sym (size_of_tokens c.args.text.now c.args.tokens.now tree c.requires.tokens c.in-Ok-build.ensures.reads)
