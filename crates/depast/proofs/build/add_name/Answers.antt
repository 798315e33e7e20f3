use Rattle.std.proofs.Common.{[], ap}
use Rattle.std.proofs.lemmas.Result.{on_ok_weaker}
use Rattle.std.proofs.lemmas.Option.{get_or_from_slice_get}
use Rattle.ltl_syntax.specs.declared.node.Node.TheVariants as nodes
use Rattle.ltl_syntax.specs.Formula.{Letter, Name}
use Rattle.depast.proofs.Built.{built_more, named, no_child_letter}
use Rattle.depast.proofs.build.add_name.Goals as goal

pub returns-clause-adds : goal.returns-clause-adds
returns-clause-adds c = on_ok_weaker c.add.result (λ w fs v.
    built_more c.name.new.self c.add.new.table (nodes.Letter c.in_ok-letter.letter) (Letter (Name c.args.name.now)) fs c.args.roots.now c.add.new.roots w.0
    (named c.args.table.now c.name.new.self c.args.name.now c.in_ok-letter.letter fs c.args.roots.now c.in_ok-letter.ensures.ok v)
    (no_child_letter c.in_ok-letter.letter c.args.roots.now)
    (ap (λ n. Letter (Name n)) (get_or_from_slice_get c.name.new.self.names c.in_ok-letter.letter c.args.name.now [] c.in_ok-letter.ensures.ok.name)) w.1)
    c.add.ensures
