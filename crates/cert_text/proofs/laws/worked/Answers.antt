use Rattle.std.proofs.Common.{refl}
use Rattle.cert_text.proofs.Sound.{read_whole}
use Rattle.cert_text.proofs.Machine.{fault_is}
use Rattle.cert_text.proofs.Faults.{machine}
use Rattle.cert_text.specs.Worked.{first_text, first_certificate, second_text, second_certificate}
use Rattle.cert_text.proofs.laws.worked.Goals as goal

pub returns : goal.returns
returns c = record {
  first = read_whole first_text first_certificate refl;
  second = read_whole second_text second_certificate refl;
  again = refl;
  live = refl;
  deleted = refl;
  cut = fault_is machine _ 32 refl;
  version = fault_is machine _ 8 refl;
  deep = fault_is machine _ 22 refl;
  zero = fault_is machine _ 20 refl;
  delete = fault_is machine _ 42 refl;
  nothing = fault_is machine _ 0 refl;
  carriage = fault_is machine _ 20 refl;
  letter = fault_is machine _ 29 refl;
  target = fault_is machine _ 61 refl;
  newline = fault_is machine _ 63 refl;
  more = fault_is machine _ 64 refl;
}
