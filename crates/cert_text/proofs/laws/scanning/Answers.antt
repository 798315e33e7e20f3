use Rattle.cert_text.proofs.Faults.{scans_read, scans_begin, scans_stop, scans_end}
use Rattle.cert_text.proofs.laws.scanning.Goals as goal

pub returns-clause-read : goal.returns-clause-read
returns-clause-read c = scans_read

pub returns-clause-begins : goal.returns-clause-begins
returns-clause-begins c = scans_begin

pub returns-clause-stops : goal.returns-clause-stops
returns-clause-stops c = scans_stop

pub returns-clause-ends : goal.returns-clause-ends
returns-clause-ends c = scans_end
