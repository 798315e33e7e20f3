use Rattle.std.proofs.Common.{ap, subst}
use Rattle.requirement_questions.specs.Replacing.{ArePartsOf}
use Rattle.requirement_questions.proofs.Parts.{core_made}
use Rattle.requirement_questions.proofs.parting.core_in.Goals as goal

pub returns : goal.returns
returns c =
    let formula = c.args.formula.value in
    let made = c.in_ok-new.ensures.ok in
    let parts = rw c.in-Some.is at c.in_ok-found.ensures in
    let at_table = rw c.deref.ensures at parts in
    let here = subst (λ n. ArePartsOf formula.table n c.args.count c.in-Some.parts.items) (ap (λ x. x.root) c.deref-2.ensures) at_table in
    core_made c.in_ok-new.field-0.value formula c.into_inner-whole.result c.args.count c.in-Some.parts.items
    (ap (λ x. x.table) made) (ap (λ x. x.parts.items) made) c.into_inner-whole.ensures here
