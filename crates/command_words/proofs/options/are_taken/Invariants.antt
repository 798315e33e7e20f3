use Rattle.std.proofs.Common.{map, string_bytes, length}
use Rattle.command_words.specs.Table.{offers_of}
use Rattle.command_words.proofs.Saying.{IsSaidBefore}
use Rattle.command_words.proofs.options.are_taken.Given as goal

abbrev pub invariant-words : goal.invariant-words
invariant-words l = IsSaidBefore (offers_of l.offering) (map string_bytes l.words) (map string_bytes l.rest) l.seen

abbrev pub decreases-words : goal.decreases-words
decreases-words l = length l.rest
