use Rattle.std.proofs.Common.{Some, inl, inr, sym, ap, ◌∙◌, arith}
use Rattle.claim_check.proofs.Naming.{named, not_named}
use Rattle.claim_check.proofs.judging.AllLinesNamedLines.find.Goals as goal

pub returns-then-number-lt1 : goal.returns-then-number-lt1
returns-then-number-lt1 c = not_named c.args.self.now.lines.now c.args.number (inl (omega (arith, c.if-number-lt1.true)))

pub returns-then-number-count : goal.returns-then-number-count
returns-then-number-count c = not_named c.args.self.now.lines.now c.args.number (inr (omega (arith, c.if-number-count.true, c.count.ensures)))

pub returns : goal.returns
returns c =
    named c.args.self.now.lines.now c.args.number (omega (arith, c.if-number-lt1.false)) (omega (arith, c.if-number-count.false, c.count.ensures))
    ∙ ap (λ ls. Some ls) (sym (c.new.ensures ∙ c.clause.ensures))
