use Rattle.std.proofs.Common.{◌<◌, length, subst, sym, ◌∙◌, get_or, arith}
use mathlib.Core.Bool.{false≢true}
use Rattle.std.proofs.lemmas.List.{take_all}
use Rattle.cdcl_watches.specs.Watching.{AreApart, blank}
use Rattle.cdcl_analyze.specs.Marks.{IsMarked}
use Rattle.cdcl_state.proofs.Marking.{marked_more, apart_more, once_more, before_more, stands_twice}
use Rattle.cdcl_state.specs.State.{HasLettersOnce}
use Rattle.cdcl_state.proofs.repeats.meets_marked.Goals as goal

pub loop-literal-preserved : goal.loop-literal-preserved
loop-literal-preserved c =
    let i = c.loop-literal.literal-index in
    let clause = c.args.clause.now in
    let low : i < length clause = omega (arith, c.loop-literal-test.true) in
    let known : (get_or clause i blank).letter.0 < length c.loop-literal.marks.stamps =
    subst (λ n. (get_or clause i blank).letter.0 < n) (sym c.loop-literal.invariant.size) (c.requires.known i blank low) in
    record {
      size = c.note.ensures.room ∙ c.loop-literal.invariant.size;
      marked = marked_more (IsMarked c.loop-literal.marks) (IsMarked c.note.new.self)
          clause i low c.note.ensures.kept c.note.ensures.marked c.loop-literal.invariant.marked;
      apart = apart_more (IsMarked c.loop-literal.marks) (IsMarked c.note.new.self) clause i low
          (λ h. false≢true (sym c.if-has.false ∙ (c.has.ensures known).1 h)) c.loop-literal.invariant.marked c.loop-literal.invariant.apart;
      once = once_more (IsMarked c.loop-literal.marks) (IsMarked c.note.new.self) clause i low
          (λ h. false≢true (sym c.if-has.false ∙ (c.has.ensures known).1 h)) c.loop-literal.invariant.marked c.loop-literal.invariant.once;
      before = λ x is. before_more (IsMarked c.loop-literal.marks) (IsMarked c.note.new.self) clause i x c.loop-literal.invariant.before c.note.ensures.only is;
    }

pub returns-clause-apart : goal.returns-clause-apart
returns-clause-apart c _ =
    subst AreApart (take_all c.loop-literal.literal-index c.args.clause.now (omega (arith, c.loop-literal-test.false))) c.loop-literal.invariant.apart

pub returns-clause-once : goal.returns-clause-once
returns-clause-once c _ =
    subst HasLettersOnce (take_all c.loop-literal.literal-index c.args.clause.now (omega (arith, c.loop-literal-test.false))) c.loop-literal.invariant.once

pub returns-then-has-clause-twice : goal.returns-then-has-clause-twice
returns-then-has-clause-twice c _ =
    let i = c.loop-literal.literal-index in
    let clause = c.args.clause.now in
    let known : (get_or clause i blank).letter.0 < length c.loop-literal.marks.stamps =
    subst (λ n. (get_or clause i blank).letter.0 < n) (sym c.loop-literal.invariant.size) (c.requires.known i blank c.loop-literal-test.true) in
    stands_twice clause i c.loop-literal-test.true (c.loop-literal.invariant.before _ ((c.has.ensures known).0 c.if-has.true))
