use Rattle.std.proofs.Common.{◌∙◌}
use Rattle.ltl_syntax.specs.Table.{tree_at}
use Rattle.program_input.proofs.OneText.{TextLaws}
use Rattle.black_top.proofs.RingFormula.{ring_accepted}
use Rattle.black_top.proofs.Summing.{not_refused, reads_ring}
use Rattle.black_top.proofs.commands.demo.demo.Goals as goal

pub returns-in-Refused : goal.returns-in-Refused
returns-in-Refused c =
    let one = c.one_outcome.ensures in
    let laws : TextLaws = record {
      one_lexical = one.one_lexical_fault;
      one_grammar = one.one_grammar_fault;
      one_formula = one.one_formula;
      lexical_not_grammar = one.lexical_not_grammar;
      lexical_not_read = one.lexical_not_read;
      grammar_not_read = one.grammar_not_read;
    } in
    let accepted = ring_accepted c.args.number c.requires.high c.printed_text.ensures.reads in
    let refuses = rw c.in-Refused.is at c.in_ok-fault.ensures in
    absurd (not_refused c.args.number c.deref.result.now c.in-Refused.fault laws accepted (c.deref.ensures.value ∙ c.in_ok-text.ensures) refuses)

pub summarize-requires-clause-ring : goal.summarize-requires-clause-ring
summarize-requires-clause-ring c =
    let reading = rw c.in-Formula.is at c.in_ok-fault.ensures in
    let accepted = ring_accepted c.args.number c.requires.high c.printed_text.ensures.reads in
    reads_ring c.args.number c.deref.result.now (tree_at c.in-Formula.table c.in-Formula.root) c.one_outcome.ensures.one_formula accepted
    (c.deref.ensures.value ∙ c.in_ok-text.ensures) reading.1
