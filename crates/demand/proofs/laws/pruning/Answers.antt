use Rattle.demand.proofs.PrunedStates.{is_pruned, pruning_prunes, no_pruning, unpruned_none, no_prunings, unpruned_no_prunings, prunings_found}
use Rattle.demand.proofs.laws.pruning.Goals as goal

pub returns-clause-prunes : goal.returns-clause-prunes
returns-clause-prunes c f kind i r p h = let w = pruning_prunes f i r kind p h in (w, is_pruned f kind i r p w)

pub returns-clause-none : goal.returns-clause-none
returns-clause-none c f kind i r = (λ none pruned. no_pruning f i r kind pruned none, unpruned_none f i r kind)

pub returns-clause-unpruned : goal.returns-clause-unpruned
returns-clause-unpruned c f kind k r = (no_prunings f kind k r, unpruned_no_prunings f kind k r)

pub returns-clause-found : goal.returns-clause-found
returns-clause-found c f kind k r p h = prunings_found f kind k r p h
