use Rattle.std.proofs.Common.{◌≡◌, ◌++◌, drop}
use Rattle.batch_run.specs.Texts.{batch_text}
use Rattle.batch_run.proofs.printing.batch_text.Given as goal

abbrev pub invariant-answers : goal.invariant-answers
invariant-answers l = l.text.items ++ batch_text (drop l.answer-index l.answers) ≡ batch_text l.answers
