use Rattle.std.proofs.Common.{◌∙◌, length, subst, true, false}
use Rattle.clause_log.specs.LogValue.{LogValue}
use Rattle.cdcl_propagate.specs.Visit.{names_of}
use Rattle.cdcl_state.specs.Gathered.{IsCarried, IsGathered}
use Rattle.cdcl_state.proofs.Gathering.{room_known, state_gathered}
use Rattle.cdcl_state.proofs.state.State.restore.Goals as goal

pub complete-requires-clause-stored : goal.complete-requires-clause-stored
complete-requires-clause-stored c = rw c.view.ensures.same c.self.invariant.ready.stored

pub complete-requires-clause-long : goal.complete-requires-clause-long
complete-requires-clause-long c = rw c.view.ensures.same c.self.invariant.long

pub complete-requires-clause-lines : goal.complete-requires-clause-lines
complete-requires-clause-lines c =
    rw (c.view.ensures.same, c.self.invariant.ready.sized)
    (room_known c.self.inside.letters (length c.self.inside.assigned.values) (length c.self.inside.marks.stamps)
    c.self.inside.log.lines c.self.invariant.room c.self.invariant.size c.self.invariant.known_lines)

pub invariant_of-self : goal.invariant_of-self
invariant_of-self c =
    let s = c.self.inside in
    let v = c.complete.new.watches in
    let gathered = subst (λ (l : LogValue). IsGathered (IsCarried false (names_of s.watches)) l v) c.view.ensures.same c.complete.ensures.kept in
    rw c.if-self.false
    (state_gathered v (length c.complete.new.marks.stamps) false c.self.invariant gathered
    (c.complete.ensures.lists ∙ c.self.invariant.ready.sized) c.complete.ensures.size)

pub invariant_of-self-2 : goal.invariant_of-self-2
invariant_of-self-2 c =
    let s = c.self.inside in
    let v = c.complete.new.watches in
    let gathered = subst (λ (l : LogValue). IsGathered (IsCarried true (names_of s.watches)) l v) c.view.ensures.same c.in_ok-complete.ensures.all_lines in
    state_gathered v (length c.complete.new.marks.stamps) true c.self.invariant gathered
    (c.complete.ensures.lists ∙ c.self.invariant.ready.sized) c.complete.ensures.size
