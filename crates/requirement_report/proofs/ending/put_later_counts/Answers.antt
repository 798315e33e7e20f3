use Rattle.std.proofs.Common.{codes}
use Rattle.std.proofs.lemmas.Result.{on_ok_weaker}
use Rattle.requirement_report.specs.Text.{count_line}
use Rattle.requirement_report.proofs.Pieces.{three_pieces}
use Rattle.requirement_report.proofs.ending.put_later_counts.Goals as goal

pub returns : goal.returns
returns c =
    let counts = c.args.counts in
    on_ok_weaker c.put_count-3.result
    (three_pieces c.args.out.now.items (count_line (codes "possible") counts.possible) (count_line (codes "follows") counts.follows)
    (count_line (codes "keeps all") counts.keeps)
    c.put_count.new.out.items c.put_count-2.new.out.items c.put_count-3.new.out.items c.in_ok-put_count.ensures c.in_ok-put_count-2.ensures)
    c.put_count-3.ensures
