use Rattle.requirement_document.specs.Values.{document_in}
use Rattle.requirement_answers.proofs.Planned.{replies_more}
use Rattle.requirement_answers.proofs.sharing.in_turn.Goals as goal

pub asks-preserved : goal.asks-preserved
asks-preserved c = record {
  so_far = replies_more (document_in c.args.document.now) c.args.left.now c.args.asks.now c.asks.k _ c.asks.found.items c.push.new.self.items
      c.in_ok-answered.answered c.asks-test.true c.asks.invariant.so_far c.in_ok-answered.ensures.asking
      c.in_ok-answered.ensures.reply c.in_ok-push.ensures.items;
}
