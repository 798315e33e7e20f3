use Rattle.std.proofs.Common.{None, Some, subst}
use Rattle.requirement_questions.specs.Joining.{joined_at, IsWhole}
use Rattle.requirement_questions.proofs.Picking.{whole_joins, whole_large}
use Rattle.requirement_questions.proofs.joining.finish.Goals as goal

pub returns-in_default : goal.returns-in_default
returns-in_default c formulas was =
    let before = joined_at c.args.table c.args.root in
    let t = c.add_asked.new.table in
    let whole : IsWhole before c.args.asked t None = subst (IsWhole before c.args.asked t) c.in_default.is c.in_ok-root.ensures in
    whole_large c.args.asked formulas before t was whole

pub returns : goal.returns
returns c formulas was =
    let before = joined_at c.args.table c.args.root in
    let t = c.add_asked.new.table in
    let whole : IsWhole before c.args.asked t (Some c.in-Some.root) = subst (IsWhole before c.args.asked t) c.in-Some.is c.in_ok-root.ensures in
    whole_joins c.args.asked formulas before (record { table = t; root = c.in-Some.root }) was whole
