-- The codes of the statuses, what a status tells of the call, and the status of each refusal.
use Rattle.std.specs.Prelude.{ℕ, Bool, true, false}
use Rattle.report.specs.declared.fault.Fault.{Fault}
use Rattle.report.specs.declared.fault.Fault.TheVariants as faults
use Rattle.report.specs.declared.status.Status.{Status}
use Rattle.report.specs.declared.status.Status.TheVariants as statuses

abbrev pub code_of : Status → ℕ
code_of statuses.Good = 0
code_of statuses.Negative = 1
code_of statuses.Usage = 2
code_of statuses.Text = 3
code_of statuses.Limit = 4
code_of statuses.ReadFault = 5
code_of statuses.WriteFault = 6
code_of statuses.NoMemory = 7
code_of statuses.Sat = 10
code_of statuses.Unsat = 20
code_of statuses.Undecided = 30

-- the status is that of an answer, and not of a fault or of want of memory
abbrev pub is_answer : Status → Bool
is_answer statuses.ReadFault = false
is_answer statuses.WriteFault = false
is_answer statuses.NoMemory = false
is_answer other = true

-- the status comes after the source was read
abbrev pub has_read : Status → Bool
has_read statuses.ReadFault = false
has_read statuses.NoMemory = false
has_read other = true

-- the status of a refusal
abbrev pub fault_status : Fault → Status
fault_status faults.Usage = statuses.Usage
fault_status faults.Text = statuses.Limit
fault_status faults.Batch = statuses.Limit
fault_status (faults.Lexical byte) = statuses.Text
fault_status (faults.Grammar byte) = statuses.Text
fault_status (faults.Nodes count) = statuses.Limit
fault_status (faults.PastNodes count) = statuses.Limit
fault_status (faults.Letters depth) = statuses.Limit
fault_status faults.NoSeparator = statuses.Text
fault_status faults.NotJson = statuses.Text
fault_status faults.NotTrace = statuses.Text
fault_status faults.EmptyLoop = statuses.Text
fault_status faults.EmptyStates = statuses.Text
fault_status (faults.Cells count) = statuses.Limit
fault_status (faults.Certificate byte) = statuses.Text
fault_status faults.SystemStart = statuses.Text
fault_status faults.SystemStep = statuses.Text
fault_status faults.LooksAhead = statuses.Text
fault_status (faults.State number) = statuses.Text
