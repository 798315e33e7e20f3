use Rattle.std.proofs.Common.{◌∙◌, refl, get_or, length, map, subst, sym, ap}
use Rattle.std.proofs.lemmas.List.{take_all}
use Rattle.derivation.specs.Steps.{IsDerivation}
use Rattle.log_trim.specs.Kept.{new_number}
use Rattle.log_trim.specs.Marking.{marked}
use Rattle.log_trim.proofs.MarkedLines.{trimmed_steps, ends}
use Rattle.log_trim.proofs.Steps.{table_read, map_on}
use Rattle.log_trim.proofs.trimming.trim.Goals as goal

pub targets-preserved : goal.targets-preserved
targets-preserved c =
    let M = marked c.in_ok-flags.flags.items in
    let i = c.targets.target-index in
    let k = c.in_ok-kept.kept in
    let target = get_or c.args.targets.now i 0 in
    let kept = c.in_ok-kept.ensures in
    let w = c.requires i c.targets-test.true in
    map_on (new_number M c.args.log.lines)
    c.args.targets.now i 0 target c.index.result.now c.targets.numbers.items c.push.new.self.items c.targets-test.true refl
    (table_read M c.args.log.lines (length c.args.log.lines) target c.index.result.now k.table.items w.0 w.1 kept.numbers c.index.ensures)
    c.targets.invariant c.in_ok-push.ensures.items

pub of-requires : goal.of-requires
of-requires c =
    let log = c.args.log in
    let M = marked c.in_ok-flags.flags.items in
    let k = c.in_ok-kept.kept in
    let (list, are) = c.invariant.ensures in
    subst IsDerivation (sym (c.in_ok-kept.ensures.lines_are ∙ ends log M are.paired)) (list, trimmed_steps log M list are c.in_ok-flags.ensures.closed)

pub returns : goal.returns
returns c =
    let log = c.args.log in
    let targets = c.args.targets.now in
    let M = marked c.in_ok-flags.flags.items in
    let k = c.in_ok-kept.kept in
    let (list, are) = c.invariant.ensures in (
      M,
      record {
        marks = c.in_ok-flags.ensures.needed;
        closed = c.in_ok-flags.ensures.closed;
        is = c.of.ensures ∙ (c.in_ok-kept.ensures.lines_are ∙ ends log M are.paired);
        targets_are = c.targets.invariant ∙ ap (map (new_number M log.lines)) (take_all c.targets.target-index targets c.targets-test.false);
      },
    )
