use Rattle.std.proofs.Common.{◌≡◌, ◌∷◌, take, filter}
use Rattle.cert_text.specs.Writing.{is_ended, named_lines}
use Rattle.cert_text.proofs.writing.ended_by.Given as goal

abbrev pub invariant-loop-hint : goal.invariant-loop-hint
invariant-loop-hint l = l.found.items ≡ filter (is_ended l.last l.targets l.line) (l.line ∷ named_lines (take l.hint-index l.hints))
