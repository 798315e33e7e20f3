use Rattle.std.proofs.Common.{◌≡◌, ◌++◌, ◌∷◌, [], ℕ, List, Contains, subst, ap₂, ◌∙◌}
use Rattle.ltl_word.specs.declared.trace.Trace.TheVariants.{Infinite}
use Rattle.ltl_run.proofs.Closed.{no_names}
use Rattle.ltl_run.proofs.tracing.close_states.Goals as goal

pub returns-in_ok-push-in-Empty : goal.returns-in_ok-push-in-Empty
returns-in_ok-push-in-Empty c =
    let empty : c.in_ok-from_names-in-Empty.field-0 ≡ [] =
    no_names c.in_ok-from_names-in-Empty.field-0
    (λ name h. subst (λ (ns : List (List ℕ)). Contains ns name) c.new.ensures.items ((c.in_ok-from_names-in-Empty.ensures.members name).0 h)) in
    rw c.in-Empty.is (ap₂ Infinite c.new-in-Empty.ensures (c.new-in-Empty-2.ensures
    ∙ (c.in_ok-push-in-Empty.ensures.items ∙ ap₂ (λ (ss : List (List (List ℕ))) s. ss ++ s ∷ []) c.new-loop_part.ensures.items empty)))
