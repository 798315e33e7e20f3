use Rattle.std.proofs.Common.{◌∙◌, take, All, subst, arith}
use Rattle.std.proofs.lemmas.List.{take_all}
use Rattle.std.proofs.lemmas.List.Elements.{All-more, All-weaker}
use Rattle.cdcl_watches.specs.Watching.{blank}
use Rattle.cdcl_analyze.specs.Marks.{IsMarked}
use Rattle.cdcl_analyze.specs.Reason.{read_literals}
use Rattle.cdcl_analyze.proofs.Steps.{found_again}
use Rattle.cdcl_analyze.proofs.analyze.mark.Goals as goal

pub loop-place-preserved : goal.loop-place-preserved
loop-place-preserved c =
    let clause = read_literals c.args.clause.now in
    let i = c.loop-place.place in
    let new = c.mark_letter.new.marks in
    record {
      kept = λ x is. c.in_ok-mark_letter.ensures.kept x (c.loop-place.invariant.kept x is);
      size = c.mark_letter.ensures.size ∙ c.loop-place.invariant.size;
      seen = All-more (λ m. IsMarked new m.letter.0) clause i blank (omega arith)
          (All-weaker (λ m. IsMarked c.loop-place.marks m.letter.0) (λ m. IsMarked new m.letter.0) (λ m is. c.in_ok-mark_letter.ensures.kept m.letter.0 is)
          (take i clause) c.loop-place.invariant.seen)
          (subst (IsMarked new) c.letter.ensures c.in_ok-mark_letter.ensures.marked);
      waiting = λ end waits. c.in_ok-mark_letter.ensures.waiting end (c.loop-place.invariant.waiting end waits);
      found = found_again c.args.marks.now c.loop-place.marks new c.loop-place.invariant.found c.mark_letter.ensures.found;
    }

pub returns-clause-all : goal.returns-clause-all
returns-clause-all c =
    let clause = read_literals c.args.clause.now in
    subst (All (λ m. IsMarked c.loop-place.marks m.letter.0)) (take_all c.loop-place.place clause (omega arith)) c.loop-place.invariant.seen

pub returns-in_err-mark_letter-clause-found : goal.returns-in_err-mark_letter-clause-found
returns-in_err-mark_letter-clause-found c =
    found_again c.args.marks.now c.loop-place.marks c.mark_letter.new.marks c.loop-place.invariant.found c.mark_letter.ensures.found
