use Rattle.std.proofs.lemmas.Iterator.{items_from_collect}
use Rattle.std.proofs.lemmas.Iterator.Consumers.{YieldsList-from_first}
use Rattle.std.proofs.Common.{◌+◌, ◌-◌, length, slice_range}
use Rattle.cert_text.specs.Reading.{numbers_in}
use Rattle.cert_text.proofs.marks.targets_at.Goals as goal

pub returns : goal.returns
returns c =
    let bytes = c.args.bytes.now in
    let targets = numbers_in (slice_range bytes (c.args.close + 5) (length bytes - 1)) in
    items_from_collect c.collect.result c.collect.ensures.ran (YieldsList-from_first (λ x. x) (λ rest. rest) targets c.new-targets.ensures)
