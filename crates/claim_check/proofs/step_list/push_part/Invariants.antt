use Rattle.std.proofs.Common.{◌≡◌, ◌++◌, length}
use Rattle.enc_layout.specs.Letters.{below}
use Rattle.claim_check.specs.Pieces.{rows, piece_at}
use Rattle.claim_check.proofs.step_list.push_part.Given as goal

abbrev pub invariant-loop-k : goal.invariant-loop-k
invariant-loop-k l = l.out ≡ l.fn.out ++ rows (length l.entries) (below l.k (piece_at l.piece l.entries))
