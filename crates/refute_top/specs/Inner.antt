-- What the private calls give. No public contract cites this file.
use Rattle.std.specs.Prelude.{◌≡◌, ℕ, List, Bool, false}
use Rattle.command_words.specs.declared.refutation.Refutation.{Refutation}
use Rattle.command_words.specs.declared.refutation.Refutation.TheVariants as asked
use Rattle.refute_top.specs.declared.output.Output.{Output}
use Rattle.refute_top.specs.Answer.{Answer, status_of, text_of}
use Rattle.refute_top.specs.Refuting.{IsSettled}
use Rattle.refute_top.specs.Checking.{IsPartedCheck}

-- an answer to the bytes
abbrev pub Gives : Refutation → List ℕ → Answer → Type 0
Gives (asked.Refute options) bytes answer = IsSettled options.kind options.cert bytes answer
Gives (asked.Check options) bytes answer = IsPartedCheck options.kind bytes answer

-- after how many bytes the source is read no further: a text is known then to be too long
abbrev pub stop_after : Refutation → ℕ
stop_after (asked.Refute options) = 1048576
stop_after (asked.Check options) = 18446744073709551615

-- whether lines on the progress are asked for
abbrev pub asks_progress : Refutation → Bool
asks_progress (asked.Refute options) = options.progress
asks_progress (asked.Check options) = false

-- the output has the answer's status and its text
pub record Shows (output : Output) (answer : Answer) : Type 0 where
  pub status : output.status ≡ status_of answer
  pub text : output.text.items ≡ text_of answer
