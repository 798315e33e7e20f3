use Rattle.std.proofs.Common.{◌∙◌, Bool, List, ap, arith, length, subst, sym}
use Rattle.ltl_syntax.specs.Table.{tree_at}
use Rattle.ltl_syntax.specs.Replacement.{IsKept}
use Rattle.ltl_run.specs.Laws.{HasNoTrace}
use Rattle.core_extract.specs.Testing.{AreMarks, formula_of, marked}
use Rattle.core_extract.proofs.Tasks.{places_all}
use Rattle.core_extract.proofs.Marks.{added_marks}
use Rattle.requirement_questions.proofs.replacing.with_one.Goals as goal

pub mark-requires-clause-place : goal.mark-requires-clause-place
mark-requires-clause-place c = omega (arith, c.requires.kept.there, places_all c.args.task.now c.requires.task)

pub mark-requires-clause-long : goal.mark-requires-clause-long
mark-requires-clause-long c = ap length c.in_ok-more.ensures ∙ c.requires.marks.long

pub marked_formula-requires-clause-marks : goal.marked_formula-requires-clause-marks
marked_formula-requires-clause-marks c =
    let same = c.in_ok-more.ensures in
    added_marks c.args.task.now c.requires.task c.in_ok-more.more.items c.mark.new.marks.items c.args.place
    (subst (AreMarks c.args.task.now) (sym same) c.requires.marks)
    (subst (λ (ms : List Bool). IsKept (formula_of c.args.task.now) (marked ms) c.args.place) (sym same) c.requires.kept)
    c.mark.ensures.long c.mark.ensures.added

pub returns : goal.returns
returns c =
    let task = c.args.task.now in
    let more = c.mark.new.marks.items in
    let same = c.in_ok-more.ensures in
    let old : AreMarks task c.in_ok-more.more.items = subst (AreMarks task) (sym same) c.requires.marks in
    let kept = subst (λ (ms : List Bool). IsKept (formula_of task) (marked ms) c.args.place) (sym same) c.requires.kept in
    let are : AreMarks task more =
    added_marks task c.requires.task c.in_ok-more.more.items more c.args.place old kept c.mark.ensures.long c.mark.ensures.added in
    record {
      there = c.in_ok-formula.ensures.there;
      places = marked more;
      apart = are.apart;
      tree = c.in_ok-formula.ensures.tree;
      none = subst (λ r. HasNoTrace task.kind (tree_at r.table r.root)) c.deref.ensures (c.in_ok-refuted.ensures c.if-not-refuted.false);
    }
