use Rattle.std.proofs.Common.{◌+◌, List, [], ◌∷◌, set, sym, ap, ◌∙◌, subst}
use Rattle.log_checker.specs.Judging.{LiveLine}
use Rattle.log_checker.specs.Kept.{KeptValue, IsKept, live_of, without}
use Rattle.log_checker.proofs.Entries.{marked, mark_is, kept_mark, kept_others, read_at}
use Rattle.log_checker.proofs.kept.Kept.mark.Goals as goal

pub invariant_of-self : goal.invariant_of-self
invariant_of-self c =
    let es = c.self.inside.entries.items in
    let e = read_at es c.in-Some.index c.index_mut.result.now c.in-Some.ensures.below c.index_mut.ensures.value in
    subst (λ x. IsKept c.self.inside.lines (set es c.in-Some.index (marked x)) (c.self.inside.dead + 1)) (sym e)
    (kept_mark _ es _ c.args.number c.in-Some.index c.self.invariant c.in-Some.ensures.below c.in-Some.ensures.number c.in-Some.ensures.live)

pub returns-in-Some : goal.returns-in-Some
returns-in-Some c =
    let es = c.self.inside.entries.items in
    let e = read_at es c.in-Some.index c.index_mut.result.now c.in-Some.ensures.below c.index_mut.ensures.value in
    let is = (mark_is 0 es c.args.number c.in-Some.index c.self.invariant.ascends c.in-Some.ensures.below c.in-Some.ensures.number c.in-Some.ensures.live).0 in
    let value : List LiveLine → KeptValue = λ ls. record { lines = c.self.inside.lines; live = ls } in
    ap value (ap (λ x. live_of (set es c.in-Some.index (marked x))) e ∙ is) ∙ ap (λ k. without k (c.args.number ∷ [])) c.self.view_is

pub returns-in_default : goal.returns-in_default
returns-in_default c =
    let value : List LiveLine → KeptValue = λ ls. record { lines = c.self.inside.lines; live = ls } in
    sym c.self.view_is ∙ sym (ap value (kept_others c.self.inside.entries.items c.args.number c.in_default.ensures))
    ∙ ap (λ k. without k (c.args.number ∷ [])) c.self.view_is
