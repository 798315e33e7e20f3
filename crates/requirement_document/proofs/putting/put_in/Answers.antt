use Rattle.std.proofs.Common.{length, refl, arith, ap, length-append, ◌∷◌, []}
use Rattle.std.proofs.lemmas.Option.{slice_get_read}
use Rattle.requirement_document.specs.Inner.{defined_in}
use Rattle.requirement_document.proofs.Moving.{put_on}
use Rattle.requirement_document.proofs.putting.put_in.Goals as goal

pub nodes-preserved : goal.nodes-preserved
nodes-preserved c =
    record {
      count = omega (arith, ap length c.in_ok-push.ensures.items, length-append c.nodes.numbers.items (c.in_ok-put.put ∷ []), c.nodes.invariant.count);
      each = put_on (defined_in c.args.definitions.now.entries)
          c.args.source.now c.nodes.target c.put_node.new.target c.nodes.numbers.items c.push.new.self.items c.nodes.number c.node-node.result
          c.in_ok-put.put c.nodes.invariant.count c.nodes.invariant.each c.in_ok-put.ensures.keeps c.node-node.ensures.tree c.node-node.ensures.below
          c.in_ok-put.ensures.at c.in_ok-push.ensures.items;
    }

pub returns : goal.returns
returns c =
    c.nodes.invariant.each c.args.root c.index.result.now
    (slice_get_read c.nodes.numbers.items (length c.nodes.numbers.items) c.args.root c.index.result.now refl
    (omega (arith, c.nodes.invariant.count, c.nodes-test.false)) c.index.ensures)
