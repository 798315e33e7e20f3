use Rattle.std.proofs.Common.{◌-◌, Some, sym, ap, ◌∙◌, arith}
use Rattle.log_checker.proofs.AtLine.{at_zero, at_later, at_past, at_live}
use Rattle.log_checker.proofs.worker.LinesAtNamedLines.find.Goals as goal

pub returns-then-number-lt1 : goal.returns-then-number-lt1
returns-then-number-lt1 c = at_zero c.args.self.now.view.now.parts (c.args.self.now.line - 1) c.args.number c.if-number-lt1.true

pub returns-then-number-self : goal.returns-then-number-self
returns-then-number-self c =
    let at = c.args.self.now in
    at_later at.view.now.parts at.line c.args.number at.from_one at.within c.if-number-lt1.false c.if-number-self.true

pub returns-then-last_user-self : goal.returns-then-last_user-self
returns-then-last_user-self c =
    let at = c.args.self.now in
    at_past at.view.now.parts at.line c.args.number at.from_one at.within c.if-number-lt1.false (omega (arith, c.if-last_user-self.true, c.last_user.ensures))

pub returns : goal.returns
returns c =
    let at = c.args.self.now in
    at_live at.view.now.parts at.line c.args.number at.from_one at.within c.if-number-lt1.false c.if-number-self.false
    (omega (arith, c.if-last_user-self.false, c.last_user.ensures))
    ∙ ap (λ ls. Some ls) (sym c.literals.ensures)
