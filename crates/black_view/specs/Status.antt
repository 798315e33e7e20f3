-- The codes of the statuses, and what a status tells of the call.
use Rattle.std.specs.Prelude.{ℕ, Bool, true, false}
use Rattle.black_view.specs.declared.status.Status.{Status}
use Rattle.black_view.specs.declared.status.Status.TheVariants as statuses

abbrev pub code_of : Status → ℕ
code_of statuses.Good = 0
code_of statuses.NoTrace = 1
code_of statuses.Usage = 2
code_of statuses.Text = 3
code_of statuses.Limit = 4
code_of statuses.ReadFault = 5
code_of statuses.WriteFault = 6
code_of statuses.NoMemory = 7

-- the status is that of an answer, and not of a fault or of want of memory
abbrev pub is_answer : Status → Bool
is_answer statuses.ReadFault = false
is_answer statuses.WriteFault = false
is_answer statuses.NoMemory = false
is_answer other = true
