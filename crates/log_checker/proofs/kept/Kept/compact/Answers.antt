use Rattle.std.proofs.Common.{List, sym, ap, ◌∙◌, subst}
use Rattle.log_checker.specs.Judging.{LiveLine}
use Rattle.log_checker.specs.Kept.{KeptValue, IsKept, live_of}
use Rattle.log_checker.proofs.Entries.{compacted}
use Rattle.log_checker.proofs.kept.Kept.compact.Goals as goal

pub invariant_of-self : goal.invariant_of-self
invariant_of-self c = subst (λ xs. IsKept c.self.inside.lines xs 0) (sym c.drop_marked.ensures) (compacted _ _ _ c.self.invariant).1

pub returns : goal.returns
returns c =
    let value : List LiveLine → KeptValue = λ ls. record { lines = c.self.inside.lines; live = ls } in
    ap value (ap live_of c.drop_marked.ensures ∙ (compacted _ _ _ c.self.invariant).0) ∙ c.self.view_is
