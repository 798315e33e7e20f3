use Rattle.std.proofs.Common.{◌-◌, arith}
use Rattle.cert_text.proofs.Between.{numbers_in}
use Rattle.cert_text.proofs.blocks.block_numbers_end.Goals as goal

pub returns-clause-numbers : goal.returns-clause-numbers
returns-clause-numbers c =
    let end = c.last_space_end.result in
    let to = c.blocks_end-end.result in
    let low = c.last_space_end.ensures.from in
    numbers_in (end - c.args.at) c.args.bytes.now c.args.at end to (omega (arith, low)) (omega (arith, c.if-at-eq0.false))
    low c.last_space_end.ensures.within c.blocks_end-end.ensures.within c.if-bytes-at-ne32.false
    c.last_space_end.ensures.space c.blocks_end-end.ensures.order c.blocks_end-end.ensures.spaced
