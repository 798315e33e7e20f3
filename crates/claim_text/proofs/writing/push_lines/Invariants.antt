use Rattle.std.proofs.Common.{◌≡◌, ◌++◌, take}
use Rattle.std.specs.List.{flat_map}
use Rattle.claim_check.specs.Data.{lines_in}
use Rattle.claim_text.specs.Text.{line_text}
use Rattle.claim_text.proofs.writing.push_lines.Given as goal

abbrev pub invariant-loop-index : goal.invariant-loop-index
invariant-loop-index l = l.out.items ≡ l.fn.out.items ++ flat_map line_text (take l.index (lines_in l.lines))
