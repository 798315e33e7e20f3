use Rattle.std.specs.Option.{option_copied}
use Rattle.ltl_syntax.specs.Table.{tree_at}
use Rattle.black_top.specs.Answer.{refused}
use Rattle.black_top.specs.Depast.{IsPartAnswer, IsWithout, unread, accepted}
use Rattle.black_top.proofs.Showing.{shown, shown_as}
use Rattle.black_top.proofs.NewNames.{read_again}
use Rattle.black_top.proofs.commands.removal.answer_part.Goals as goal

pub returns-in-Refused : goal.returns-in-Refused
returns-in-Refused c =
    let refuses = rw c.in-Refused.is at c.in_ok-fault.ensures in
    shown (IsPartAnswer c.args.part.now (option_copied c.args.second)) (refused c.in-Refused.fault) c.refusal.result
    (unread c.in-Refused.fault refuses) c.refusal.ensures

pub returns-in-Formula : goal.returns-in-Formula
returns-in-Formula c =
    let f = tree_at c.in-Formula.table c.in-Formula.root in
    let second = option_copied c.args.second in
    let reading = rw c.in-Formula.is at c.in_ok-fault.ensures in
    shown_as (IsWithout f second) (IsPartAnswer c.args.part.now second) c.without_past.result
    (λ a h. accepted f a reading.1 (read_again c.args.part.now f reading.1) h) c.without_past.ensures
