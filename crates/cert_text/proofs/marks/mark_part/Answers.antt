use Rattle.std.proofs.Common.{rules, ◌≡◌, length}
use Rattle.cert_text.proofs.Marking.{delete_is, numbers_stand}
use Rattle.cert_text.proofs.marks.mark_part.Goals as goal

pub new-requires : goal.new-requires
new-requires c = numbers_stand c.args.line.now c.requires.part c.if-line-eq100.true

pub returns-then-line-eq100 : goal.returns-then-line-eq100
returns-then-line-eq100 c part fits is =
    delete_is c.args.line.now part c.args.at c.len-count.result c.args.spans.now.items c.args.ends.now.items c.shut_all.new.ends.items c.new.result fits is
    c.if-line-eq100.true
    c.new.ensures (let count : c.len-count.result ≡ length c.args.ends.now.items = search rules in count) c.shut_all.ensures
