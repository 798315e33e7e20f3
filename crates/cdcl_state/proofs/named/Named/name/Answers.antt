use Rattle.std.proofs.Common.{[], ◌∷◌, ◌++◌, All, Contains, sym, subst}
use Rattle.std.proofs.lemmas.List.Elements.{All-contains_itself}
use Rattle.cdcl_state.proofs.Naming.{kept_push}
use Rattle.cdcl_state.proofs.named.Named.name.Goals as goal

pub returns-then-has-clause-kept : goal.returns-then-has-clause-kept
returns-then-has-clause-kept c = All-contains_itself c.args.self.now

pub returns-in_err-lengthen_flags-clause-kept : goal.returns-in_err-lengthen_flags-clause-kept
returns-in_err-lengthen_flags-clause-kept c =
    subst (All (Contains c.self.inside.letters.items)) c.self.view_is (All-contains_itself c.self.inside.letters.items)

pub returns-in_err-push-clause-kept : goal.returns-in_err-push-clause-kept
returns-in_err-push-clause-kept c =
    let old = c.self.inside.letters.items in
    subst (λ new. All (Contains new) c.args.self.now) (sym c.in_err-push.ensures.items) (subst (All (Contains old)) c.self.view_is (All-contains_itself old))

pub returns-clause-kept : goal.returns-clause-kept
returns-clause-kept c =
    let old = c.self.inside.letters.items in
    subst (λ new. All (Contains new) c.args.self.now) (sym c.in_ok-push.ensures.items)
    (subst (All (Contains (old ++ c.args.letter ∷ []))) c.self.view_is (kept_push old c.args.letter))
