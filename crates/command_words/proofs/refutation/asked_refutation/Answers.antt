use Rattle.std.proofs.Common.{map, string_bytes}
use Rattle.command_words.specs.declared.refutation.Refutation.TheVariants as refutation
use Rattle.command_words.proofs.Asking.{match_mapped}
use Rattle.command_words.proofs.Refuting.{asks_neither, asks_to_verify}
use Rattle.command_words.proofs.refutation.asked_refutation.Goals as goal

pub returns-in_ok-said_options-in-None : goal.returns-in_ok-said_options-in-None
returns-in_ok-said_options-in-None c =
    let words = map string_bytes c.args.words.now in
    let none = rw c.in-None.is at c.in_ok-options.ensures in
    match_mapped c.in_ok-said_options-in-None.field-0 c.map.result refutation.Check _ _ _ _ c.map.ensures.cases c.in_ok-said_options-in-None.ensures
    (asks_neither words none) (asks_to_verify words none)
