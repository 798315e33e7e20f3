use Rattle.std.proofs.Common.{refl, map, string_bytes}
use Rattle.command_words.specs.Refutation.{Refute, Verify}
use Rattle.report.specs.declared.status.Status.TheVariants as statuses
use Rattle.program_input.proofs.OneText.{TextLaws}
use Rattle.command_words.proofs.OneCommand.{false_not_true}
use Rattle.refute_top.proofs.Promising.{answered}
use Rattle.refute_top.proofs.Refuted.{refute_broken, refute_kept}
use Rattle.refute_top.proofs.Checked.{CheckLaws, check_broken, check_kept}
use Rattle.refute_top.proofs.top.run.Goals as goal

pub returns-in-Ok-write_whole-clause-refute : goal.returns-in-Ok-write_whole-clause-refute
returns-in-Ok-write_whole-clause-refute g c settings asks =
    let outcome = c.one_outcome.ensures in
    let laws : TextLaws = record {
      one_lexical = outcome.one_lexical_fault;
      one_grammar = outcome.one_grammar_fault;
      one_formula = outcome.one_formula;
      lexical_not_grammar = outcome.lexical_not_grammar;
      lexical_not_read = outcome.lexical_not_read;
      grammar_not_read = outcome.grammar_not_read;
    } in
    refute_kept settings _ (map string_bytes c.args.words.now) _ _ _ _ _ c.one_refutation.ensures c.nothing_satisfies.ensures laws asks
    (answered c.in-Ok.output c.deref.result.now c.in-Ok.ensures.given c.deref.ensures.value c.in-Ok-write_whole.ensures.ok refl)
    (c.in-Ok.ensures.most (Refute settings) asks) (c.in-Ok.ensures.left (Refute settings) asks)

pub returns-clause-refute : goal.returns-clause-refute
returns-clause-refute g c settings asks =
    refute_broken settings _ _ _ _ _ statuses.WriteFault (record { none = refl; cause = λ quiet. absurd (quiet.1 c.in-Err.ensures.cause) })
    (c.in-Ok.ensures.most (Refute settings) asks) (λ e. absurd (cc)) (λ read. c.in-Ok.ensures.left (Refute settings) asks)

pub returns-in-Err-Fault-clause-refute : goal.returns-in-Err-Fault-clause-refute
returns-in-Err-Fault-clause-refute g c settings asks =
    refute_broken settings _ _ _ _ _ statuses.ReadFault (record {
      none = refl;
      cause = λ quiet. absurd (quiet.0 (c.in-Err-Fault.ensures.fault (let e = c.in-Err-Fault.field-0-is in cc)));
    })
    (c.in-Err-Fault.ensures.most (Refute settings) asks)
    (λ e. c.in-Err-Fault.ensures.before_fault (let e = c.in-Err-Fault.field-0-is in cc) (Refute settings) asks) (λ read. absurd (false_not_true read))

pub returns-in-Err-NoMemory-clause-refute : goal.returns-in-Err-NoMemory-clause-refute
returns-in-Err-NoMemory-clause-refute g c settings asks =
    refute_broken settings _ _ _ _ _ statuses.NoMemory (record { none = refl; cause = λ quiet. refl })
    (c.in-Err-NoMemory.ensures.most (Refute settings) asks) (λ e. absurd (cc)) (λ read. absurd (false_not_true read))

pub returns-in-Ok-write_whole-clause-check : goal.returns-in-Ok-write_whole-clause-check
returns-in-Ok-write_whole-clause-check g c settings asks =
    let outcome = c.one_outcome.ensures in
    let laws : TextLaws = record {
      one_lexical = outcome.one_lexical_fault;
      one_grammar = outcome.one_grammar_fault;
      one_formula = outcome.one_formula;
      lexical_not_grammar = outcome.lexical_not_grammar;
      lexical_not_read = outcome.lexical_not_read;
      grammar_not_read = outcome.grammar_not_read;
    } in
    let checking : CheckLaws = record { one_text = c.texts.ensures.one; no_fault = c.texts.ensures.none; one_verdict = c.verdicts.ensures.one } in
    check_kept settings _ (map string_bytes c.args.words.now) _ _ _ _ _ c.one_refutation.ensures c.nothing_satisfies.ensures checking laws asks
    (answered c.in-Ok.output c.deref.result.now c.in-Ok.ensures.given c.deref.ensures.value c.in-Ok-write_whole.ensures.ok refl)
    (c.in-Ok.ensures.left (Verify settings) asks)

pub returns-clause-check : goal.returns-clause-check
returns-clause-check g c settings asks =
    check_broken settings _ _ _ _ _ statuses.WriteFault (record { none = refl; cause = λ quiet. absurd (quiet.1 c.in-Err.ensures.cause) })
    (λ read. c.in-Ok.ensures.left (Verify settings) asks)

pub returns-in-Err-Fault-clause-check : goal.returns-in-Err-Fault-clause-check
returns-in-Err-Fault-clause-check g c settings asks =
    check_broken settings _ _ _ _ _ statuses.ReadFault (record {
      none = refl;
      cause = λ quiet. absurd (quiet.0 (c.in-Err-Fault.ensures.fault (let e = c.in-Err-Fault.field-0-is in cc)));
    })
    (λ read. absurd (false_not_true read))

pub returns-in-Err-NoMemory-clause-check : goal.returns-in-Err-NoMemory-clause-check
returns-in-Err-NoMemory-clause-check g c settings asks =
    check_broken settings _ _ _ _ _ statuses.NoMemory (record { none = refl; cause = λ quiet. refl }) (λ read. absurd (false_not_true read))
