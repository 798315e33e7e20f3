use Rattle.std.proofs.Common.{◌≡◌, ◌*◌, ◌∙◌, arith, length}
use Rattle.ltl_closure.specs.Closure.{eventualities}
use Rattle.clause_index.proofs.Linked.{count_same}
use Rattle.clause_index.proofs.Prunes.{news_last}
use Rattle.clause_index.proofs.pruning.news.Goals as goal

pub returns : goal.returns
returns c =
    let f = c.args.closure.now.formula in
    let count = count_same f (eventualities f) c.eventualities-count.result.now c.eventualities-count.ensures.numbers in
    let at : c.args.index ≡ length (eventualities f) * 3 = omega (arith, c.if-index-count.false, c.requires.within, count) in
    c.pruned.ensures ∙ news_last c.args.layout.now f c.args.step c.args.earlier c.args.index (length c.eventualities-count.result.now) at count
