use Rattle.std.proofs.Common.{◌∙◌, ap, arith, length, subst, sym, List, Bool, IfOk}
use Rattle.ltl_syntax.specs.Replacement.{AreSame, IsKept, added, rep}
use Rattle.ltl_syntax.proofs.Places.{one_set}
use Rattle.core_extract.specs.Core.{tableau}
use Rattle.core_extract.specs.Testing.{AreMarks, IsTold, formula_of, marked}
use Rattle.core_extract.proofs.Tasks.{places_all}
use Rattle.core_extract.proofs.Marks.{added_marks}
use Rattle.core_extract.proofs.testing.test_place.Goals as goal

pub mark-requires-clause-place : goal.mark-requires-clause-place
mark-requires-clause-place c = omega (arith, c.requires.kept.there, places_all c.args.task.now c.requires.task)

pub mark-requires-clause-long : goal.mark-requires-clause-long
mark-requires-clause-long c = ap length c.in_ok-more.ensures ∙ c.requires.marks.long

pub present-requires-clause-marks : goal.present-requires-clause-marks
present-requires-clause-marks c =
    let same = c.in_ok-more.ensures in
    added_marks c.args.task.now c.requires.task c.in_ok-more.more.items c.mark.new.marks.items c.args.place
    (subst (AreMarks c.args.task.now) (sym same) c.requires.marks)
    (subst (λ (ms : List Bool). IsKept (formula_of c.args.task.now) (marked ms) c.args.place) (sym same) c.requires.kept)
    c.mark.ensures.long c.mark.ensures.added

pub returns : goal.returns
returns c =
    let f = formula_of c.args.task.now in
    let with_it : AreSame (marked c.mark.new.marks.items) (added f (marked c.args.marks.now.items) c.args.place) =
    subst (λ (ms : List Bool). AreSame (marked c.mark.new.marks.items) (added f (marked ms) c.args.place)) c.in_ok-more.ensures c.mark.ensures.added in
    let same = c.in_ok-formula.ensures.tree ∙ ap (rep f)
    (one_set (marked c.mark.new.marks.items) (added f (marked c.args.marks.now.items) c.args.place) with_it) in
    subst (λ g. IfOk c.verdict.result (IsTold (tableau c.args.task.now.kind c.args.task.now.asked) g)) same c.verdict.ensures
