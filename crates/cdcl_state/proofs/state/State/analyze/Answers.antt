use Rattle.std.proofs.Common.{◌≡◌, ◌⊎◌, Result, Ok, Err, IfOk, List, [], All, refl, subst}
use Rattle.std.specs.declared.alloc.AllocError.{AllocError}
use Rattle.clause_log.specs.LogValue.{LogValue}
use Rattle.cdcl_state.specs.StateValue.{StateValue}
use Rattle.cdcl_trail.specs.Trail.{IsTrail, IsDecision}
use Rattle.cdcl_analyze.specs.Learnt.{IsLearnt}
use Rattle.cdcl_state.specs.Turns.{IsAsserting}
use Rattle.cdcl_trail.specs.declared.assigned.TrailEntry.{TrailEntry}
use Rattle.cdcl_analyze.specs.declared.analyze.Learnt.{Learnt}
use Rattle.cdcl_analyze.specs.declared.analyze.Cut.TheVariants.{Decisions}
use Rattle.cdcl_state.proofs.Short.{learnt_asserting}
use Rattle.cdcl_state.proofs.state.State.analyze.Goals as goal

answer_asserting : (log : LogValue) (trail : List TrailEntry) (r : Result Learnt AllocError) → IsTrail log.inputs log.lines trail → IfOk r (IsLearnt log trail)
    → IfOk r (λ learnt. Decisions ≡ Decisions → All (IsDecision trail) learnt.places.items)
    → IfOk r (λ learnt. (learnt.clause.items ≡ []) ⊎ IsAsserting trail learnt.places.items)
answer_asserting log trail (Ok learnt) is_trail is decided = learnt_asserting log trail learnt is_trail is (decided refl)
answer_asserting log trail (Err e) is_trail is decided = tt

pub returns-clause-asserting : goal.returns-clause-asserting
returns-clause-asserting c =
    let same : c.explain.new.self ≡ c.args.self.now = c.explain.ensures.same in
    let is_trail = subst (λ (s : StateValue). IsTrail s.log.inputs s.log.lines s.trail) c.self.view_is c.self.invariant.ready.is_trail in
    answer_asserting c.args.self.now.log c.args.self.now.trail c.explain-2.result is_trail
    (subst (λ (s : StateValue). IfOk c.explain-2.result (IsLearnt s.log s.trail)) same c.explain-2.ensures.learnt)
    (subst (λ (s : StateValue). IfOk c.explain-2.result (λ learnt. Decisions ≡ Decisions → All (IsDecision s.trail) learnt.places.items))
    same c.explain-2.ensures.decided)
