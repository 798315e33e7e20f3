use Rattle.std.proofs.Common.{sym, ◌∙◌}
use Rattle.cnf_base.proofs.SameLiteral.{same_literal}
use Rattle.cert_check.proofs.Among.{differ, among_starts, is_first, is_second, among_on, among_ends, among_not}
use Rattle.cert_check.proofs.targets.are_among.Goals as goal
use Rattle.cert_check.proofs.targets.are_among.Goals.{else-ne-via-then-ne+else-ne-2, else-ne-via-else-ne}

pub literals-init : goal.literals-init
literals-init c = record {
  can = search;
  finite = search;
  same = among_starts c.args.first c.args.second c.into_iter-literal-iterator.result c.args.literals c.into_iter-literal-iterator.ensures.into_iter_gives;
}

pub literals-preserved : goal.literals-preserved
literals-preserved c = record {
  can = search;
  finite = search;
  same = elim c.else-ne.branch [
    | else-ne-via-then-ne+else-ne-2 w ↦
        among_on c.args.first c.args.second c.literals.literal-iterator c.next.new.self c.args.literals c.in-Some.literal c.in-Some.ensures.steps
        (is_second c.args.first c.args.second c.in-Some.literal (same_literal c.in-Some.literal c.args.second (sym w.ne-then-ne.ensures ∙ w.if-ne-2.false)))
        c.literals.invariant.same
    | else-ne-via-else-ne w ↦
        among_on c.args.first c.args.second c.literals.literal-iterator c.next.new.self c.args.literals c.in-Some.literal c.in-Some.ensures.steps
        (is_first c.args.first c.args.second c.in-Some.literal (same_literal c.in-Some.literal c.args.first (sym c.ne.ensures ∙ w.if-ne.false)))
        c.literals.invariant.same
  ];
}

pub returns-then-ne-2 : goal.returns-then-ne-2
returns-then-ne-2 c =
    among_not c.args.first c.args.second c.literals.literal-iterator c.next.new.self c.args.literals c.in-Some.literal c.in-Some.ensures.steps
    (differ c.in-Some.literal c.args.first (sym c.ne.ensures ∙ c.if-ne.true))
    (differ c.in-Some.literal c.args.second (sym c.ne-then-ne.ensures ∙ c.if-ne-2.true)) c.literals.invariant.same

pub returns : goal.returns
returns c = among_ends c.args.first c.args.second c.literals.literal-iterator c.args.literals c.in-None.ensures.steps.0 c.literals.invariant.same
