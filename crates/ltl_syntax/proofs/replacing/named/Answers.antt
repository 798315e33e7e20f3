use Rattle.ltl_syntax.proofs.Cutting.{name_follows}
use Rattle.ltl_syntax.proofs.replacing.named.Goals as goal

pub letters-preserved : goal.letters-preserved
letters-preserved c =
    let next =
    name_follows c.letters.copy c.name.new.self c.args.table.now.names c.letters.letter c.in_ok-name.field-0 c.name_of.result.now
    c.letters-letter-end.ensures.distinct c.name_of.ensures.name c.in_ok-name.ensures.ok c.letters.invariant.nodes c.letters.invariant.names in
    record { nodes = next.0; names = next.1 }
