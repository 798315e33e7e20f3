use Rattle.std.proofs.Common.{length, refl, arith, ap, length-append, ◌∷◌, []}
use Rattle.std.proofs.lemmas.Option.{slice_get_read}
use Rattle.requirement_document.proofs.Moving.{copied_on, keeps_on}
use Rattle.requirement_document.proofs.putting.copy.Goals as goal

pub nodes-preserved : goal.nodes-preserved
nodes-preserved c =
    let keeps = c.in_ok-copied.ensures.keeps in record {
      count = omega (arith, ap length c.in_ok-push.ensures.items, length-append c.nodes.numbers.items (c.in_ok-copied.copied ∷ []), c.nodes.invariant.count);
      each = copied_on c.args.source.now c.nodes.target c.copy_node.new.target c.nodes.numbers.items c.push.new.self.items c.nodes.number c.node.result
          c.in_ok-copied.copied
          c.nodes.invariant.count c.nodes.invariant.each keeps c.node.ensures.tree c.node.ensures.below c.in_ok-copied.ensures.at c.in_ok-push.ensures.items;
      keeps = keeps_on c.args.target.now c.nodes.target c.copy_node.new.target c.nodes.invariant.keeps keeps;
    }

pub returns-clause-at : goal.returns-clause-at
returns-clause-at c =
    c.nodes.invariant.each c.args.root c.index.result.now
    (slice_get_read c.nodes.numbers.items (length c.nodes.numbers.items) c.args.root c.index.result.now refl
    (omega (arith, c.nodes.invariant.count, c.nodes-test.false)) c.index.ensures)
