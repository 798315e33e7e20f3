use Rattle.std.proofs.Common.{◌∙◌, length, refl, sym, ap, subst, arith}
use Rattle.std.proofs.lemmas.Option.{slice_get_read, slice_get_within}
use Rattle.requirement_certificate.specs.Chosen.{IsAbout}
use Rattle.requirement_certificate.proofs.First.{before_more}
use Rattle.requirement_certificate.proofs.choosing.first_conflict.Goals as goal

pub returns-then-is_about : goal.returns-then-is_about
returns-then-is_about c =
    let conflicts = c.args.report.now.conflicts.items in
    let conflict = c.index.result.now in
    record {
      place = c.conflicts.place;
      conflict = conflict;
      there = slice_get_read conflicts (length conflicts) c.conflicts.place conflict refl
          (omega (arith, c.len-place-end.ensures, c.conflicts-test.true)) c.index.ensures;
      same = sym c.deref-because.ensures;
      about = subst (IsAbout c.args.scope) c.deref.ensures.value (c.if-is_about.ensures.0 refl);
      first = c.conflicts.invariant.before;
    }

pub conflicts-preserved : goal.conflicts-preserved
conflicts-preserved c =
    let conflicts = c.args.report.now.conflicts.items in
    let conflict = c.index.result.now in
    let there = slice_get_read conflicts (length conflicts) c.conflicts.place conflict refl (omega (arith, c.len-place-end.ensures, c.conflicts-test.true))
    c.index.ensures in
    let same = c.deref.ensures.value ∙ ap (λ b. b.members.items) c.deref-because.ensures in
    let not : ¬ IsAbout c.args.scope conflict.value.members.items = λ about. let e = c.if-is_about.ensures.1 (subst (IsAbout c.args.scope) (sym same) about) in
    absurd (cc) in
    record {
      before = before_more (λ x. ¬ IsAbout c.args.scope x.value.members.items) conflicts c.conflicts.place conflict there not c.conflicts.invariant.before;
    }

pub returns : goal.returns
returns c j conflict there =
    c.conflicts.invariant.before j conflict
    (omega (arith, slice_get_within c.args.report.now.conflicts.items j conflict there, c.len-place-end.ensures, c.conflicts-test.false)) there
