use Rattle.std.proofs.Common.{[], ◌∷◌, ◌++◌, All, Contains, sym, subst}
use Rattle.std.proofs.lemmas.List.Elements.{All-weaker, All-contains_itself, Contains-append_left}
use Rattle.cdcl_state.proofs.store.insert.Goals as goal

pub returns-then-has-clause-kept : goal.returns-then-has-clause-kept
returns-then-has-clause-kept c = All-contains_itself c.args.out.now.items

pub returns-in-Ok-clause-kept : goal.returns-in-Ok-clause-kept
returns-in-Ok-clause-kept c =
    let old = c.args.out.now.items in
    subst (λ new. All (Contains new) old) (sym c.in-Ok.ensures.items)
    (All-weaker (Contains old) (Contains (old ++ c.args.literal ∷ [])) (λ l h. Contains-append_left old (c.args.literal ∷ []) l h) old
    (All-contains_itself old))

pub returns-in-Err-clause-kept : goal.returns-in-Err-clause-kept
returns-in-Err-clause-kept c =
    let old = c.args.out.now.items in
    subst (λ new. All (Contains new) old) (sym c.in-Err.ensures.items) (All-contains_itself old)
