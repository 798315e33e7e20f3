use Rattle.std.proofs.Common.{rules, ◌+◌, length, sym, ap, ◌∙◌, subst, arith}
use Rattle.cert_text.specs.Items.{item_line, IsReading}
use Rattle.cert_text.proofs.ItemTexts.{front, front_line, front_read, none_left, item_other}
use Rattle.cert_text.proofs.reader.ItemsIterator.next.Goals as goal

pub returns-then-start-self-clause-steps : goal.returns-then-start-self-clause-steps
returns-then-start-self-clause-steps c =
    let none = sym c.self.view_is ∙ none_left c.self.inside.whole.now c.self.inside.at c.self.invariant c.if-start-self.true in
    (none, none)

pub item_in-requires : goal.item_in-requires
item_in-requires c =
    let f = front c.self.inside.whole.now c.self.inside.at c.self.invariant (omega (arith, c.if-start-self.false)) in
    let end = c.find-end.ensures.first f.before (item_line f.item) f.more (item_other f.item f.fits) f.spelled f.place in
    record { item = f.item; fits = f.fits; spelled = front_line c.self.inside.whole.now c.self.inside.at c.find-end.result f end }

pub invariant_of-self : goal.invariant_of-self
invariant_of-self c =
    let f = front c.self.inside.whole.now c.self.inside.at c.self.invariant (omega (arith, c.if-start-self.false)) in
    let end = c.find-end.ensures.first f.before (item_line f.item) f.more (item_other f.item f.fits) f.spelled f.place in
    subst (λ n. IsReading c.self.inside.whole.now (n + 1)) (sym end) f.next

pub returns-clause-steps : goal.returns-clause-steps
returns-clause-steps c =
    let f = front c.self.inside.whole.now c.self.inside.at c.self.invariant (omega (arith, c.if-start-self.false)) in
    let end = c.find-end.ensures.first f.before (item_line f.item) f.more (item_other f.item f.fits) f.spelled f.place in
    let same = c.item_in.ensures f.item f.fits (front_line c.self.inside.whole.now c.self.inside.at c.find-end.result f end) in
    sym c.self.view_is ∙ front_read c.self.inside.whole.now c.self.inside.at c.find-end.result f c.item_in.result end same

pub returns-clause-goes : goal.returns-clause-goes
returns-clause-goes c =
    let f = front c.self.inside.whole.now c.self.inside.at c.self.invariant (omega (arith, c.if-start-self.false)) in
    let end = c.find-end.ensures.first f.before (item_line f.item) f.more (item_other f.item f.fits) f.spelled f.place in
    let same = c.item_in.ensures f.item f.fits (front_line c.self.inside.whole.now c.self.inside.at c.find-end.result f end) in
    let step = sym c.self.view_is ∙ front_read c.self.inside.whole.now c.self.inside.at c.find-end.result f c.item_in.result end same in
    let shorter = ap length step in
    search rules
