use Rattle.ltl_syntax.specs.Table.{tree_at}
use Rattle.program_input.proofs.OneText.{TextLaws}
use Rattle.requirement_certificate.proofs.Judged.{none_so, uncut_not_verified, refused_not_verified, verified_by_parts, also_where}
use Rattle.requirement_certificate.proofs.verifying.is_verified.Goals as goal

pub returns-in_default : goal.returns-in_default
returns-in_default c = none_so (uncut_not_verified c.args.kind c.args.text.now c.in_default.ensures)

pub returns-in-Refused : goal.returns-in-Refused
returns-in-Refused c =
    let parts = c.in-Some.parts in
    let outcome = c.one_outcome.ensures in
    let laws : TextLaws = record {
      one_lexical = outcome.one_lexical_fault;
      one_grammar = outcome.one_grammar_fault;
      one_formula = outcome.one_formula;
      lexical_not_grammar = outcome.lexical_not_grammar;
      lexical_not_read = outcome.lexical_not_read;
      grammar_not_read = outcome.grammar_not_read;
    } in
    let refuses = rw c.in-Refused.is at c.in_ok-read_formula.ensures in
    none_so (refused_not_verified c.args.kind c.args.text.now parts.formula.now parts.second.now c.in-Refused.field-0 laws c.in-Some.ensures refuses)

pub returns-in-Formula : goal.returns-in-Formula
returns-in-Formula c =
    let parts = c.in-Some.parts in
    let outcome = c.one_outcome.ensures in
    let laws : TextLaws = record {
      one_lexical = outcome.one_lexical_fault;
      one_grammar = outcome.one_grammar_fault;
      one_formula = outcome.one_formula;
      lexical_not_grammar = outcome.lexical_not_grammar;
      lexical_not_read = outcome.lexical_not_read;
      grammar_not_read = outcome.grammar_not_read;
    } in
    let reading = rw c.in-Formula.is at c.in_ok-read_formula.ensures in
    also_where c.is_lawful.result
    (verified_by_parts c.args.kind c.args.text.now parts.formula.now parts.second.now (tree_at c.in-Formula.table c.in-Formula.root)
    laws c.in-Some.ensures reading.1) c.is_lawful.ensures
