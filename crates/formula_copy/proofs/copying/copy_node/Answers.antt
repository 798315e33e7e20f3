use Rattle.std.proofs.lemmas.Result.{on_ok_weaker}
use Rattle.formula_copy.specs.Copy.{numbers_in}
use Rattle.formula_copy.proofs.CopyLoop.{may_put, grown_node}
use Rattle.formula_copy.proofs.copying.copy_node.Goals as goal

pub put-requires-clause-may : goal.put-requires-clause-may
put-requires-clause-may c =
    may_put c.args.source.now c.args.target.now c.renumbered.new.target (numbers_in c.args.numbers.now.items)
    c.args.node c.in_ok-copy.copy c.requires.roots c.requires.ordered c.in_ok-copy.ensures

pub returns-clause-grown : goal.returns-clause-grown
returns-clause-grown c =
    on_ok_weaker c.put.result
    (grown_node c.args.source.now c.args.target.now c.renumbered.new.target c.put.new.table (numbers_in c.args.numbers.now.items)
    c.args.node c.in_ok-copy.copy c.in_ok-copy.ensures c.requires.names)
    c.put.ensures.pushes
