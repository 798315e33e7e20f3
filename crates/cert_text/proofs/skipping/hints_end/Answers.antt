use Rattle.cert_text.proofs.Skips.{short_more}
use Rattle.cert_text.proofs.skipping.hints_end.Goals as goal

pub returns-clause-numbers : goal.returns-clause-numbers
returns-clause-numbers c =
    short_more c.args.bytes.now c.args.at c.block_numbers_end-blocks.result c.numbers_end.result 19 c.block_numbers_end-blocks.ensures.from
    c.numbers_end.ensures.from c.block_numbers_end-blocks.ensures.numbers
    c.numbers_end.ensures.numbers
