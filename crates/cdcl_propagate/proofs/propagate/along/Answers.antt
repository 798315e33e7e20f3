use Rattle.std.proofs.Common.{◌≡◌, ◌<◌, [], Contains, length, get_or, refl, sym, ap, ◌∙◌, subst, arith}
use Rattle.cnf_base.specs.declared.literal.Literal.{Literal}
use Rattle.cdcl_trail.specs.Trail.{literals_of, IsConflict}
use Rattle.cdcl_watches.specs.Watching.{code}
use Rattle.cdcl_watches.specs.Watchers.{ListWalk, blocker_of, walk_in, walked, row_of, next_of}
use Rattle.cdcl_watches.proofs.Walks.{stayed, stayed_length, next_blocking}
use Rattle.cdcl_propagate.proofs.Ready.{grown_more, grown_at, end_visit, none_case}
use Rattle.cdcl_propagate.proofs.Faced.{next_letter, passed_walked, passed_visiting, walk_ended}
use Rattle.cdcl_propagate.proofs.propagate.along.Goals as goal
use Rattle.cdcl_propagate.proofs.propagate.along.Goals.{After-get-watcher}

-- where the walk stands, and what is next
abbrev stands : After-get-watcher → ListWalk
stands c = walk_in c.along.arena c.along.lists c.args.falsified c.along.walk

there : (c : After-get-watcher) → c.along.walk.next < length (row_of (stands c))
there c = omega (arith, c.along-test.true, c.along.invariant.count)

next_is : (c : After-get-watcher) → c.get-watcher.result ≡ next_of (stands c)
next_is c = rw c.number-list.ensures at c.get-watcher.ensures

pub holds-requires : goal.holds-requires
holds-requires c =
    let w = (goal.at.holds-requires c).After-get-watcher in
    subst (λ (m : Literal). m.letter.0 < length c.along.assigned.values) (sym (c.decode.ensures ∙ ap blocker_of (next_is w)))
    (next_letter c.along.invariant.walk (there w) (length c.along.assigned.values) c.along.invariant.visiting.sized)

pub along-preserved-then-holds : goal.along-preserved-then-holds
along-preserved-then-holds c =
    let w = (goal.at.along-preserved-then-holds c).After-get-watcher in
    let put : c.pass.new.lists ≡ (stayed (stands w) c.get-watcher.result).lists = rw c.number-list.ensures at c.pass.ensures.lists in
    let lists_are : c.pass.new.lists ≡ (stayed (stands w) (next_of (stands w))).lists = put ∙ ap (λ v. (stayed (stands w) v).lists) (next_is w) in
    let true_one : Contains (literals_of c.along.assigned.trail) (blocker_of (next_of (stands w))) =
    subst (Contains (literals_of c.along.assigned.trail)) (c.decode.ensures ∙ ap blocker_of (next_is w)) (c.holds.ensures.0 c.if-holds.true) in
    record {
      same = c.along.invariant.same;
      walk = rw (lists_are, c.pass.ensures.kept, c.pass.ensures.next) (passed_walked c.along.invariant.walk (there w));
      visiting = rw (lists_are, c.pass.ensures.kept, c.pass.ensures.next)
          (passed_visiting c.along.invariant.walk (there w) c.along.invariant.same c.along.invariant.visiting true_one);
      count = c.along.invariant.count ∙ sym (ap (λ ls. length (get_or ls (code c.args.falsified) [])) lists_are
          ∙ stayed_length c.along.invariant.walk (there w) (next_of (stands w)) refl (next_blocking c.along.invariant.walk (there w)));
      named = c.along.invariant.named;
      grown = c.along.invariant.grown;
      letters = c.along.invariant.letters;
      lasting = c.along.invariant.lasting;
    }

pub returns-in_err-hint-clause-grown : goal.returns-in_err-hint-clause-grown
returns-in_err-hint-clause-grown c =
    grown_more c.args.assigned.now.trail c.along.assigned.trail c.visit.new.assigned.trail c.along.invariant.grown c.in_err-hint.ensures.grown

pub returns-in_err-hint-clause-lasting : goal.returns-in_err-hint-clause-lasting
returns-in_err-hint-clause-lasting c = λ n low lasting. c.in_err-hint.ensures.lasting n low (c.along.invariant.lasting n low lasting)

pub returns-in-Some-clause-grown : goal.returns-in-Some-clause-grown
returns-in-Some-clause-grown c =
    grown_more c.args.assigned.now.trail c.along.assigned.trail c.visit.new.assigned.trail c.along.invariant.grown c.in_ok-hint.ensures.grown

pub returns-in-Some-clause-lasting : goal.returns-in-Some-clause-lasting
returns-in-Some-clause-lasting c = λ n low lasting. c.in_ok-hint.ensures.lasting n low (c.along.invariant.lasting n low lasting)

pub along-preserved : goal.along-preserved
along-preserved c =
    let passed = none_case (IsConflict c.args.log.now.inputs c.args.log.now.lines (literals_of c.visit.new.assigned.trail))
    c.in_ok-hint.field-0 c.in-None.is c.in_ok-hint.ensures.found in
    record {
      same = c.along.invariant.same
          ∙ sym (grown_at c.along.assigned.trail c.visit.new.assigned.trail c.args.place c.in_ok-hint.ensures.grown c.along.invariant.visiting.within);
      walk = c.in_ok-hint.ensures.walked;
      visiting = passed.visiting;
      count = c.along.invariant.count ∙ sym passed.same;
      named = c.in_ok-hint.ensures.names ∙ c.along.invariant.named;
      grown = grown_more c.args.assigned.now.trail c.along.assigned.trail c.visit.new.assigned.trail c.along.invariant.grown c.in_ok-hint.ensures.grown;
      letters = c.in_ok-hint.ensures.letters ∙ c.along.invariant.letters;
      lasting = λ n low lasting. c.in_ok-hint.ensures.lasting n low (c.along.invariant.lasting n low lasting);
    }

pub returns-clause-found : goal.returns-clause-found
returns-clause-found c =
    let w = walked (walk_in c.along.arena c.along.lists c.args.falsified c.along.walk) in
    let all = walk_ended c.along.invariant.walk (omega (arith, c.along-test.false, c.along.invariant.count)) in
    end_visit c.args.log.now.inputs c.args.log.now.lines c.args.place c.along.assigned w c.along.walk.kept
    (omega (arith, all, ap (λ (l : Literal). length (get_or w.lists (code l) [])) c.along.invariant.same))
    c.along.invariant.walk.watchers.watching c.along.invariant.visiting
