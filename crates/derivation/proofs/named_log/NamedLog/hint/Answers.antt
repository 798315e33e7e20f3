use Rattle.std.proofs.Common.{◌≡◌, ◌-◌, slice_get, Some, sym, ap, subst, ◌∙◌, arith, refl}
use Rattle.std.proofs.lemmas.List.{get_or_default}
use Rattle.cnf_base.specs.declared.literal.Hint.TheVariants.{Clause, Line}
use Rattle.clause_log.specs.LogValue.{LogValue, hints_at}
use Rattle.derivation.specs.Steps.{DerivationValue}
use Rattle.derivation.proofs.Lines.{named_within, hint_told}
use Rattle.derivation.proofs.named_log.NamedLog.hint.Goals as goal

pub overflow_sub-number : goal.overflow_sub-number
overflow_sub-number c =
    let at = rw (← c.self.view_is) at c.requires in
    let own = c.hints.ensures ∙ ap (λ (l : LogValue). hints_at l.hints c.args.line) c.view-view.ensures.same in
    let (list, are) = c.self.invariant in
    (named_within c.self.inside.log c.self.inside.names.items c.args.line at.from_one at.in_list c.view-view.ensures.steps c.hints.result.now c.args.place
    (Clause c.in-Clause.number) (Clause 0) own at.in_line c.in-Clause.is
    list are c.in-Clause.number refl).0

pub index-requires : goal.index-requires
index-requires c =
    let at = rw (← c.self.view_is) at c.requires in
    let own = c.hints.ensures ∙ ap (λ (l : LogValue). hints_at l.hints c.args.line) c.view-view.ensures.same in
    let (list, are) = c.self.invariant in
    let w = named_within c.self.inside.log c.self.inside.names.items c.args.line at.from_one at.in_list c.view-view.ensures.steps c.hints.result.now
    c.args.place (Clause c.in-Clause.number) (Clause 0) own at.in_line c.in-Clause.is
    list are c.in-Clause.number refl in
    omega (arith, w.0, w.1)

pub returns-in-Clause : goal.returns-in-Clause
returns-in-Clause c =
    let at = rw (← c.self.view_is) at c.requires in
    let own = c.hints.ensures ∙ ap (λ (l : LogValue). hints_at l.hints c.args.line) c.view-view.ensures.same in
    let (list, are) = c.self.invariant in
    let w = named_within c.self.inside.log c.self.inside.names.items c.args.line at.from_one at.in_list c.view-view.ensures.steps c.hints.result.now
    c.args.place (Clause c.in-Clause.number) (Clause 0) own at.in_line c.in-Clause.is
    list are c.in-Clause.number refl in
    let told = hint_told c.self.inside.log c.self.inside.names.items c.args.line at.from_one at.in_list c.view-view.ensures.steps c.hints.result.now
    c.args.place (Clause c.in-Clause.number) (Clause 0) own at.in_line c.in-Clause.is in
    let name = get_or_default c.self.inside.names.items (c.in-Clause.number - 1) 0 c.index.result.now (omega (arith, w.0, w.1)) ∙ sym c.index.ensures in
    subst (λ (d : DerivationValue). slice_get (hints_at d.hints c.args.line) c.args.place ≡ Some (Clause c.index.result.now)) c.self.view_is
    (told ∙ ap (λ n. Some (Clause n)) name)

pub returns-in-Line : goal.returns-in-Line
returns-in-Line c =
    let at = rw (← c.self.view_is) at c.requires in
    let own = c.hints.ensures ∙ ap (λ (l : LogValue). hints_at l.hints c.args.line) c.view-view.ensures.same in
    let told = hint_told c.self.inside.log c.self.inside.names.items c.args.line at.from_one at.in_list c.view-view.ensures.steps c.hints.result.now
    c.args.place (Line c.in-Line.earlier) (Clause 0) own at.in_line c.in-Line.is in
    subst (λ (d : DerivationValue). slice_get (hints_at d.hints c.args.line) c.args.place ≡ Some (Line c.in-Line.earlier)) c.self.view_is told
