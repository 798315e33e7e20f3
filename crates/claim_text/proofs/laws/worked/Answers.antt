use Rattle.std.proofs.Common.{refl}
use Rattle.claim_text.specs.Worked.{first_text, second_text}
use Rattle.claim_text.proofs.Complete.{ended}
use Rattle.claim_text.specs.Worked.{first_certificate, second_certificate}
use Rattle.claim_text.proofs.Sound.{read_whole}
use Rattle.cert_text.proofs.Machine.{fault_is}
use Rattle.claim_text.proofs.Faults.{machine}
use Rattle.claim_text.proofs.laws.worked.Goals as goal

pub returns : goal.returns
returns c = record {
  first = read_whole first_text (ended first_certificate) refl;
  second = read_whole second_text (ended second_certificate) refl;
  nothing = fault_is machine _ 0 refl;
  cut = fault_is machine _ 20 refl;
  newline = fault_is machine _ 36 refl;
  more = fault_is machine _ 37 refl;
  version = fault_is machine _ 7 refl;
  carriage = fault_is machine _ 17 refl;
  zero = fault_is machine _ 25 refl;
  eventuality = fault_is machine _ 33 refl;
  claim = fault_is machine _ 26 refl;
  late = fault_is machine _ 38 refl;
  missing = fault_is machine _ 38 refl;
  spare = fault_is machine _ 38 refl;
  layer = fault_is machine _ 24 refl;
  letter = fault_is machine _ 25 refl;
  two = fault_is machine _ 25 refl;
  none = fault_is machine _ 24 refl;
  great = fault_is machine _ 43 refl;
}
