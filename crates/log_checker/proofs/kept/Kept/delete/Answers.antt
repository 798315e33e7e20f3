use Rattle.std.proofs.Common.{sym, ap, ◌∙◌}
use Rattle.log_checker.specs.Kept.{without}
use Rattle.log_checker.proofs.Entries.{without_more, without_none}
use Rattle.log_checker.proofs.kept.Kept.delete.Goals as goal

pub numbers-preserved : goal.numbers-preserved
numbers-preserved c = (
  c.numbers.invariant.0,
  c.numbers.invariant.1,
  ap (λ k. without k c.next.new.self) c.mark.ensures ∙ without_more c.numbers.self c.in-Some.number c.next.new.self
      ∙ ap (without c.numbers.self) (sym c.in-Some.ensures.steps) ∙ c.numbers.invariant.2,
)

pub returns : goal.returns
returns c = c.compact.ensures ∙ sym (without_none c.numbers.self) ∙ ap (without c.numbers.self) (sym c.in_default.ensures.steps.0) ∙ c.numbers.invariant.2
