use Rattle.std.proofs.Common.{codes}
use Rattle.std.proofs.lemmas.Result.{on_ok_weaker}
use Rattle.requirement_report.specs.Text.{met_line, count_line, later_counts}
use Rattle.requirement_report.proofs.Pieces.{four_pieces}
use Rattle.requirement_report.proofs.ending.put_counts.Goals as goal

pub returns : goal.returns
returns c =
    let counts = c.args.counts in
    on_ok_weaker c.put_later_counts.result
    (four_pieces c.args.out.now.items (met_line counts.met) (count_line (codes "triggered") counts.triggered)
    (count_line (codes "says something new") counts.new) (later_counts counts)
    c.put_met.new.out.items c.put_count.new.out.items c.put_count-2.new.out.items c.put_later_counts.new.out.items c.in_ok-put_met.ensures
    c.in_ok-put_count.ensures c.in_ok-put_count-2.ensures)
    c.put_later_counts.ensures
