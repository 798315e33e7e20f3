use Rattle.std.proofs.Common.{IsTrue, ◌+◌, add-one, get_or, sym, subst, ◌∙◌, arith}
use mathlib.Core.Bool.{false≢true}
use Rattle.cert_check.specs.Walk.{IsGoodKept}
use Rattle.cert_check.proofs.Judging.{good_so_far, bad_here, none_bad}
use Rattle.cert_check.proofs.Walking.{drop_front, drop_none}
use Rattle.cert_check.proofs.alone.first_bad_target.Goals as goal

pub is_good-requires-clause-index : goal.is_good-requires-clause-index
is_good-requires-clause-index c =
    let w = drop_front c.args.targets c.targets.index c.in-Some.target c.next.new.self (sym c.targets.invariant.left ∙ c.in-Some.ensures.steps) in
    omega (arith, w.0, c.requires.count)

pub targets-preserved : goal.targets-preserved
targets-preserved c =
    let w = drop_front c.args.targets c.targets.index c.in-Some.target c.next.new.self (sym c.targets.invariant.left ∙ c.in-Some.ensures.steps) in
    let yes : IsTrue c.is_good.result = search in
    let Good = IsGoodKept c.args.closure.now.formula c.args.closure.now.kind c.args.depth c.args.checker.now.live in
    record {
      can = search;
      finite = search;
      left = rw (add-one c.targets.index) (sym w.2);
      low = omega (arith, w.0, c.requires.count);
      good = good_so_far (λ k. Good k (get_or c.args.targets k 0)) c.targets.index c.targets.invariant.good
          (subst (Good c.targets.index) (sym w.1) (c.is_good.ensures.0 yes));
    }

pub returns : goal.returns
returns c =
    none_bad (λ k. IsGoodKept c.args.closure.now.formula c.args.closure.now.kind c.args.depth c.args.checker.now.live k (get_or c.args.targets k 0))
    c.targets.index (c.args.depth + 2)
    (let w = drop_none c.args.targets c.targets.index (sym c.targets.invariant.left ∙ c.in-None.ensures.steps.0) in omega (arith, w, c.requires.count))
    c.targets.invariant.good

pub returns-then-not-is_good : goal.returns-then-not-is_good
returns-then-not-is_good c =
    let w = drop_front c.args.targets c.targets.index c.in-Some.target c.next.new.self (sym c.targets.invariant.left ∙ c.in-Some.ensures.steps) in
    let Good = IsGoodKept c.args.closure.now.formula c.args.closure.now.kind c.args.depth c.args.checker.now.live in
    let dead : IsTrue c.is_good.result → ⊥ = λ yes. false≢true (sym c.if-not-is_good.true ∙ yes) in
    bad_here (λ k. Good k (get_or c.args.targets k 0)) c.targets.index (c.args.depth + 2) (omega (arith, w.0, c.requires.count)) c.targets.invariant.good
    (λ good. dead (c.is_good.ensures.1 (subst (Good c.targets.index) w.1 good)))
