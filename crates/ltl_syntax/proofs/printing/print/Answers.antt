use Rattle.std.proofs.Common.{◌++◌, ◌∙◌, ap, arith, append_assoc, sym}
use Rattle.ltl_syntax.specs.Stack.{works_text, works_size}
use Rattle.ltl_syntax.proofs.Works.{works_text_push, works_size_push, are_works_split}
use Rattle.ltl_syntax.proofs.printing.print.Goals as goal

pub step-requires-clause-work : goal.step-requires-clause-work
step-requires-clause-work c =
    (are_works_split c.args.table.now c.pop.new.self.items c.in-Some.work (rw c.in-Some.ensures.items at c.loop-work.invariant.works)).1

pub step-requires-clause-works : goal.step-requires-clause-works
step-requires-clause-works c =
    (are_works_split c.args.table.now c.pop.new.self.items c.in-Some.work (rw c.in-Some.ensures.items at c.loop-work.invariant.works)).0

pub loop-work-smaller : goal.loop-work-smaller
loop-work-smaller c =
    omega (
      arith,
      c.in_ok-step.ensures.size,
      ap (works_size c.args.table.now) c.in-Some.ensures.items ∙ works_size_push c.args.table.now c.pop.new.self.items c.in-Some.work,
    )

pub loop-work-preserved : goal.loop-work-preserved
loop-work-preserved c = record {
  text = c.in_ok-step.ensures.text ∙ append_assoc c.loop-work.out.items _ _ ∙ ap (λ text. c.loop-work.out.items ++ text)
      (sym (ap (works_text c.args.table.now) c.in-Some.ensures.items ∙ works_text_push c.args.table.now c.pop.new.self.items c.in-Some.work))
      ∙ c.loop-work.invariant.text;
  works = c.in_ok-step.ensures.works;
}
