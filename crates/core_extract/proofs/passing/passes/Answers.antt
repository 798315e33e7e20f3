use Rattle.std.proofs.Common.{◌≡◌, arith, length, subst, sym, List, Bool}
use Rattle.ltl_syntax.specs.Replacement.{nowhere}
use Rattle.core_extract.specs.Core.{AreChanging}
use Rattle.core_extract.specs.Testing.{AreMarks, IsSettled, formula_of, test_of, marked}
use Rattle.core_extract.proofs.Rounds.{marks_none, settled_end, changing_none, changing_more, fewer_kept, reached}
use Rattle.core_extract.proofs.passing.passes.Goals as goal

pub passes-init : goal.passes-init
passes-init g c =
    let task = c.args.task.now in
    let items = c.in_ok-marks.ensures.items_if_clones_equal (λ y h. h) in
    let count : c.len.result ≡ length task.order.items = omega (arith, c.len.ensures) in
    let end : c.len-settled.result ≡ length task.order.items = omega (arith, c.len-settled.ensures) in
    record {
      marks = subst (AreMarks task) (sym items) (marks_none task c.requires.task c.len.result count);
      within = omega (arith, end);
      settled = subst (IsSettled task (marked c.in_ok-marks.marks.items)) (sym end) (settled_end task c.requires.task (marked c.in_ok-marks.marks.items));
      changing = (
        0,
        subst (λ (ms : List Bool). AreChanging (test_of task) (formula_of task) 0 nowhere (marked ms)) (sym items)
            (changing_none task c.requires.task c.len.result),
      );
    }

pub passes-preserved : goal.passes-preserved
passes-preserved g c =
    let task = c.args.task.now in
    let passed = rw c.in-Some.is at c.in_ok-passed.ensures.passed in
    record {
      marks = c.in_ok-passed.ensures.marks;
      within = rw c.in-Some.is at c.in_ok-passed.ensures.within;
      settled = passed.2;
      changing =
          changing_more task c.requires.task (marked c.passes.marks.items) (marked c.pass.new.marks.items) c.in-Some.last passed c.passes.invariant.changing;
    }

pub passes-smaller : goal.passes-smaller
passes-smaller g c =
    let passed = rw c.in-Some.is at c.in_ok-passed.ensures.passed in
    fewer_kept c.args.task.now c.requires.task (marked c.passes.marks.items) (marked c.pass.new.marks.items) c.in-Some.last passed

pub returns-in-None-clause-marks : goal.returns-in-None-clause-marks
returns-in-None-clause-marks g c = c.in_ok-passed.ensures.marks

pub returns-in-None-clause-reached : goal.returns-in-None-clause-reached
returns-in-None-clause-reached g c =
    let passed = rw c.in-None.is at c.in_ok-passed.ensures.passed in
    reached c.args.task.now c.requires.task (marked c.passes.marks.items) (marked c.pass.new.marks.items) passed c.passes.invariant.changing
