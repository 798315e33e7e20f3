-- The list grows by steps, and a step by parts.
use Rattle.std.proofs.Common.{◌≡◌, ℕ, suc, ap, sym, ◌∙◌, List, ◌++◌, append_assoc}
use Rattle.std.proofs.lemmas.List.{map-append}
use Rattle.ltl_syntax.specs.declared.node.Kind.{Kind}
use Rattle.ltl_syntax.specs.Formula.{Formula}
use Rattle.cnf_base.specs.declared.literal.Literal.{Literal as Signed}
use Rattle.enc_layout.specs.Clauses.{chain_part, gates_part, links_part, pairs_part, acceptance_part, pruning_part, state_clauses, loop_clauses, prune_clauses}
use Rattle.enc_layout.specs.Clauses.{step_clauses, clauses_through, signed_clauses, clause_list}

pub list_more : (f : Formula) (kind : Kind) (d : ℕ) → clause_list f kind (suc d) ≡ clause_list f kind d ++ signed_clauses f kind (step_clauses f kind (suc d))
list_more f kind d = map-append _ (clauses_through f kind d) (step_clauses f kind (suc d))

three : (f : Formula) (kind : Kind) (i : ℕ) → step_clauses f kind i ≡ state_clauses f i ++ (loop_clauses f kind i ++ prune_clauses f kind i)
three f kind i =
    let late = pairs_part f kind i ++ (acceptance_part f kind i ++ pruning_part f kind i) in
    sym (ap (λ z. chain_part i ++ (gates_part f i ++ (links_part f i ++ z)))
    (append_assoc (pairs_part f kind i) (acceptance_part f kind i) (pruning_part f kind i)))
    ∙ sym (append_assoc (chain_part i) (gates_part f i ++ links_part f i) (loop_clauses f kind i ++ prune_clauses f kind i)
    ∙ ap (λ z. chain_part i ++ z) (append_assoc (gates_part f i) (links_part f i) (loop_clauses f kind i ++ prune_clauses f kind i)))

pub step_parts : (f : Formula) (kind : Kind) (i : ℕ) (before : List (List Signed))
    → before ++ signed_clauses f kind (step_clauses f kind i)
    ≡ before ++ signed_clauses f kind (state_clauses f i) ++ signed_clauses f kind (loop_clauses f kind i) ++ signed_clauses f kind (prune_clauses f kind i)
step_parts f kind i before =
    let s = signed_clauses f kind (state_clauses f i) in
    let l = signed_clauses f kind (loop_clauses f kind i) in
    let p = signed_clauses f kind (prune_clauses f kind i) in
    ap (λ z. before ++ signed_clauses f kind z) (three f kind i)
    ∙ (ap (λ z. before ++ z) (map-append _ (state_clauses f i) (loop_clauses f kind i ++ prune_clauses f kind i)
    ∙ ap (λ z. s ++ z) (map-append _ (loop_clauses f kind i) (prune_clauses f kind i)))
    ∙ (sym (append_assoc before s (l ++ p)) ∙ sym (append_assoc (before ++ s) l p)))
