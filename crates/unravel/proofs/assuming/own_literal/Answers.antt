use Rattle.std.proofs.Common.{◌≡◌, ap, sym, ◌∙◌, subst}
use Rattle.cnf_base.specs.Literal.{opposite}
use Rattle.enc_layout.specs.Letters.{Unpruned, Accepted}
use Rattle.enc_layout.specs.Assigned.{positive_of}
use Rattle.unravel.specs.Depths.{letter_of}
use Rattle.unravel.proofs.Asking.{of_layout}
use Rattle.unravel.proofs.assuming.own_literal.Goals as goal

pub returns-in-Accepted : goal.returns-in-Accepted
returns-in-Accepted c =
    let here = of_layout c.of-layout.result c.args.closure.now (Accepted c.args.depth) c.positive.result c.of-layout.ensures.layout c.positive.ensures in
    subst (λ q. c.positive.result ≡ positive_of c.args.closure.now.formula c.args.closure.now.kind (letter_of c.args.depth q)) (sym c.in-Accepted.is) here

pub returns-in-Unpruned : goal.returns-in-Unpruned
returns-in-Unpruned c =
    let here = of_layout c.of-layout.result c.args.closure.now Unpruned c.opposite.result c.of-layout.ensures.layout
    (c.opposite.ensures ∙ ap opposite c.may_prune.ensures) in
    subst (λ q. c.opposite.result ≡ positive_of c.args.closure.now.formula c.args.closure.now.kind (letter_of c.args.depth q)) (sym c.in-Unpruned.is) here
