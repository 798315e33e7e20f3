use Rattle.std.proofs.Common.{◌≡◌, map, drop, string_bytes}
use Rattle.black_view.specs.Words.{nothing_said, said_after}
use Rattle.black_view.specs.Asked.{said_of}
use Rattle.black_view.proofs.words.requested.Given as goal

abbrev pub invariant-loop-word : goal.invariant-loop-word
invariant-loop-word l =
    said_after nothing_said (map string_bytes l.words) ≡ said_after (said_of l.reading) (map string_bytes (drop l.word-index l.words))
