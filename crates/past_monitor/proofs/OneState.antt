-- A line is one state at most.
use Rattle.std.proofs.Common.{◌≡◌, ℕ, ◌↔◌, List, Contains, Some, subst, sym, ◌∙◌}
use Rattle.ltl_word.specs.State.{IsAscending}
use Rattle.ltl_word.specs.Trace.{Names}
use Rattle.ltl_word.specs.Json.{state_data}
use Rattle.ltl_word.proofs.Sets.{one_list, one_state}
use Rattle.past_monitor.specs.Line.{IsStateOf}

pub one_state_of : (line : List ℕ) (s t : Names) → IsStateOf line (Some s) → IsStateOf line (Some t) → s ≡ t
one_state_of line s t h k =
    let both : Some (state_data h.0) ≡ Some (state_data k.0) = sym h.1.1 ∙ k.1.1 in
    let written : state_data h.0 ≡ state_data k.0 = cc in
    let names : h.0 ≡ k.0 = one_state h.0 k.0 written in
    let set = subst (λ (ns : Names). IsAscending s × ((n : List ℕ) → Contains s n ↔ Contains ns n)) names h.2 in
    one_list s t set.0 k.2.0 (λ m. (λ c. (k.2.1 m).1 ((set.1 m).0 c), λ c. (set.1 m).1 ((k.2.1 m).0 c)))
