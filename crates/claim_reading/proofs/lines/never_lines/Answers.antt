use Rattle.claim_reading.proofs.Listed.{layer_known}
use Rattle.claim_reading.proofs.lines.never_lines.Goals as goal

pub push_claims-requires-clause-known : goal.push_claims-requires-clause-known
push_claims-requires-clause-known c =
    layer_known c.args.closure.now.formula c.args.certificate.now c.deref-layer-items.result.now c.loop-layer.layer-index c.layer-item.result c.requires.known
    c.deref-layer-items.ensures.value c.loop-layer-test.true c.layer-item.is
