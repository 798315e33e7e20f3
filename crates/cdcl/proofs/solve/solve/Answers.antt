use Rattle.std.proofs.Common.{◌≡◌, inl, length, arith, List, Bool, true, Option, None, Result, Ok, Err, MatchOption, IfOk, refl, sym, ap, ◌∙◌, subst}
use mathlib.Core.Bool.{false, false≢true}
use Rattle.std.specs.declared.alloc.AllocError.{AllocError}
use Rattle.cnf_base.specs.declared.literal.Literal.{Literal}
use Rattle.clause_log.specs.LogValue.{with_line}
use Rattle.cdcl_state.specs.StateValue.{StateValue, with_log}
use Rattle.cdcl.specs.declared.solve.Answer.{Answer}
use Rattle.cdcl.specs.Solving.{IsAfter, IsFound, IsLineOf, IsNegated}
use Rattle.cdcl.proofs.Search.{after_none, after_unturned, search_propagated, search_assumed, search_free, assumed_negated, turn_falls, decision_falls}
use Rattle.cdcl.proofs.Search.{inputs_true}
use Rattle.cdcl.proofs.Ending.{search_start, conflict_none, conflict_restarted, falls_at_restart, all_assumed, not_decided, refuted_negated, line_found}
use Rattle.cdcl.proofs.solve.solve.Goals as goal

none_case : {X A : Type 0} (P : X → Type 0) (o : Option X) → o ≡ None → MatchOption o A P → A
none_case {X} {A} P o is h = let Q : Option X → Type 0 = λ q. MatchOption q A P in subst Q is h

found : (r : Result Answer AllocError) (s : StateValue) (assumptions clause : List Literal) → IsNegated assumptions clause → IfOk r (IsLineOf s clause)
    → IfOk r (IsFound s assumptions)
found (Ok answer) s assumptions clause negated is = line_found s assumptions clause answer negated is
found (Err e) s assumptions clause negated is = tt

not_true : {b : Bool} → b ≡ false → ¬ (b ≡ true)
not_true is h = false≢true (sym is ∙ h)

pub search-init : goal.search-init
search-init c = search_start c.args.state.now c.begin.new.state c.args.assumptions.now c.in_ok-begin.ensures.front c.in_ok-begin.ensures.decided

pub returns-then-is_assumed-clause-answer : goal.returns-then-is_assumed-clause-answer
returns-then-is_assumed-clause-answer c =
    let s = c.propagate.new.self in
    let learnt = c.in_ok-learnt-in-Some.learnt in
    let assumptions = c.args.assumptions.now in
    let search = search_propagated c.args.state.now c.search.state s assumptions c.search.invariant c.propagate.ensures.grown in
    let each = all_assumed s.trail c.invariant.ensures.apart assumptions search.guided (c.is_assumed.ensures.yes c.if-is_assumed.true) in
    found c.finish.result c.finish.new.state assumptions learnt.clause.items
    (assumed_negated s.log s.trail learnt assumptions c.in_ok-learnt-in-Some.ensures.learnt (c.in_ok-learnt-in-Some.ensures.decided refl) each)
    c.finish.ensures.answer

pub returns-in_err-begin-clause-kept : goal.returns-in_err-begin-clause-kept
returns-in_err-begin-clause-kept c = subst (IsAfter c.args.state.now) (sym c.in_err-begin.ensures.refused) (after_none c.args.state.now)

pub returns-in_err-learn-in-Some-clause-near : goal.returns-in_err-learn-in-Some-clause-near
returns-in_err-learn-in-Some-clause-near c clause hints negated step =
    let free = c.is_assumed.ensures.no (not_true c.if-is_assumed.false) in
    absurd (conflict_none c.args.state.now c.search.state c.propagate.new.self c.args.assumptions.now c.search.invariant c.propagate.ensures.grown free clause
    hints negated step)

pub search-smaller-in-Some : goal.search-smaller-in-Some
search-smaller-in-Some c =
    let first = c.search.state in
    let t = c.propagate.new.self in
    let u = c.analyze.new.self in
    let learnt = c.in_ok-learnt-in-Some-2.learnt in
    let clause = learnt.clause.items in
    let hints = learnt.hints.items in
    let same : u ≡ t = c.analyze.ensures.same in
    let mid : StateValue = with_log u (with_line u.log clause hints) in
    let derived : mid ≡ with_log t (with_line t.log clause hints) = ap (λ (x : StateValue). with_log x (with_line x.log clause hints)) same in
    let turn = c.in_ok-learn-in-Some.ensures.turned in
    let letters = ap (λ (x : StateValue). x.letters) turn.after ∙ ap (λ (x : StateValue). x.letters) same ∙ c.propagate.ensures.grown.letters in
    falls_at_restart first c.learn.new.self c.restart.new.state c.restart.new.pace.left c.search.pace.left letters
    (turn_falls first t mid c.learn.new.self clause hints c.propagate.ensures.grown c.invariant.ensures.short derived turn) c.restart.ensures

pub search-preserved-in-Some : goal.search-preserved-in-Some
search-preserved-in-Some c =
    let learnt = c.in_ok-learnt-in-Some-2.learnt in
    let free = c.is_assumed.ensures.no (not_true c.if-is_assumed.false) in
    conflict_restarted c.args.state.now c.search.state c.propagate.new.self c.args.assumptions.now c.search.invariant c.propagate.ensures.grown free
    c.analyze.new.self c.learn.new.self c.restart.new.state
    learnt.clause.items learnt.hints.items c.restart.new.pace.left c.search.pace.left c.analyze.ensures.same
    c.in_ok-learn-in-Some.ensures.turned c.restart.ensures

pub returns-in_err-learn-in-Some-clause-kept : goal.returns-in_err-learn-in-Some-clause-kept
returns-in_err-learn-in-Some-clause-kept c =
    let search = search_propagated c.args.state.now c.search.state c.propagate.new.self c.args.assumptions.now c.search.invariant c.propagate.ensures.grown in
    after_unturned c.args.state.now c.analyze.new.self c.learn.new.self c.in_ok-learnt-in-Some-2.learnt
    (subst (IsAfter c.args.state.now) (sym c.analyze.ensures.same) search.after) c.in_err-learn-in-Some.ensures.refused

-- lines were to be forgotten, and there was no memory for it
pub returns-in_err-restart-in-Some-clause-kept : goal.returns-in_err-restart-in-Some-clause-kept
returns-in_err-restart-in-Some-clause-kept c =
    let learnt = c.in_ok-learnt-in-Some-2.learnt in
    let free = c.is_assumed.ensures.no (not_true c.if-is_assumed.false) in
    let search = conflict_restarted c.args.state.now c.search.state c.propagate.new.self c.args.assumptions.now c.search.invariant c.propagate.ensures.grown
    free c.analyze.new.self c.learn.new.self c.restart.new.state
    learnt.clause.items learnt.hints.items c.restart.new.pace.left c.search.pace.left c.analyze.ensures.same c.in_ok-learn-in-Some.ensures.turned
    c.restart.ensures in
    search.after

pub returns-in_err-restart-in-Some-clause-near : goal.returns-in_err-restart-in-Some-clause-near
returns-in_err-restart-in-Some-clause-near c clause hints negated step =
    let free = c.is_assumed.ensures.no (not_true c.if-is_assumed.false) in
    absurd (conflict_none c.args.state.now c.search.state c.propagate.new.self c.args.assumptions.now c.search.invariant c.propagate.ensures.grown free clause
    hints negated step)

pub search-smaller-in-Continue-branch-8 : goal.search-smaller-in-Continue-branch-8
search-smaller-in-Continue-branch-8 c =
    let t = c.propagate.new.self in
    let new = c.decide.new.self in
    let decided = c.in_ok-decide-in-Assume.ensures.decided in
    let letters = ap (λ (x : StateValue). x.letters) decided.after ∙ c.propagate.ensures.grown.letters in
    falls_at_restart c.search.state new new c.search.pace.left c.search.pace.left letters
    (decision_falls c.search.state t new c.in-Assume.literal c.propagate.ensures.grown c.invariant.ensures.short decided) (inl (refl, refl))

pub search-preserved-in-Continue-branch-8 : goal.search-preserved-in-Continue-branch-8
search-preserved-in-Continue-branch-8 c =
    let search = search_propagated c.args.state.now c.search.state c.propagate.new.self c.args.assumptions.now c.search.invariant c.propagate.ensures.grown in
    search_assumed c.args.state.now c.propagate.new.self c.decide.new.self c.in-Assume.literal c.args.assumptions.now search c.in-Assume.ensures.0
    c.in_ok-decide-in-Assume.ensures.decided

pub search-smaller : goal.search-smaller
search-smaller c =
    let t = c.propagate.new.self in
    let new = c.decide-in-Search.new.self in
    let decided = c.in_ok-decide-in-Search.ensures.decided in
    let letters = ap (λ (x : StateValue). x.letters) decided.after ∙ c.propagate.ensures.grown.letters in
    falls_at_restart c.search.state new new c.search.pace.left c.search.pace.left letters
    (decision_falls c.search.state t new c.in-Search.literal c.propagate.ensures.grown c.invariant.ensures.short decided) (inl (refl, refl))

pub search-preserved : goal.search-preserved
search-preserved c =
    let search = search_propagated c.args.state.now c.search.state c.propagate.new.self c.args.assumptions.now c.search.invariant c.propagate.ensures.grown in
    let settled = none_case _ c.in_ok-found.found c.in-None.is c.in_ok-found.ensures.found in
    search_free c.args.state.now c.propagate.new.self c.decide-in-Search.new.self c.in-Search.literal c.args.assumptions.now search settled
    c.in-Search.ensures.0 c.in_ok-decide-in-Search.ensures.decided

pub explain_false-requires-clause-forced : goal.explain_false-requires-clause-forced
explain_false-requires-clause-forced c =
    let s = c.propagate.new.self in
    let search = search_propagated c.args.state.now c.search.state s c.args.assumptions.now c.search.invariant c.propagate.ensures.grown in
    not_decided s.trail c.invariant.ensures.apart c.args.assumptions.now search.guided c.requires.consistent c.in-Refuted.literal c.in-Refuted.ensures.0

pub returns-in-Refuted-clause-answer : goal.returns-in-Refuted-clause-answer
returns-in-Refuted-clause-answer c =
    let s = c.propagate.new.self in
    let learnt = c.in_ok-learnt-in-Refuted.learnt in
    let assumptions = c.args.assumptions.now in
    let search = search_propagated c.args.state.now c.search.state s assumptions c.search.invariant c.propagate.ensures.grown in
    found c.finish-in-Refuted.result c.finish-in-Refuted.new.state assumptions learnt.clause.items
    (refuted_negated s assumptions c.in-Refuted.literal learnt c.invariant.ensures.apart search.guided c.in-Refuted.ensures.0
    c.in_ok-learnt-in-Refuted.ensures.learnt) c.finish-in-Refuted.ensures.answer

pub returns-in-Done-clause-answer : goal.returns-in-Done-clause-answer
returns-in-Done-clause-answer c =
    let settled = none_case _ c.in_ok-found.found c.in-None.is c.in_ok-found.ensures.found in
    (inputs_true c.propagate.new.self settled c.in-Done.ensures.1, c.in-Done.ensures.0)

pub returns-then-len-eq0-clause-answer : goal.returns-then-len-eq0-clause-answer
returns-then-len-eq0-clause-answer c =
    let learnt = c.in_ok-learnt-in-Some-2.learnt in
    let assumptions = c.args.assumptions.now in
    let none : length learnt.clause.items ≡ 0 = search in
    found c.finish-then-len-eq0.result c.finish-then-len-eq0.new.state assumptions learnt.clause.items
    (λ k d lt. absurd (omega (arith, lt, none))) c.finish-then-len-eq0.ensures.answer
