use Rattle.requirement_certificate.proofs.Written.{certificate_taken}
use Rattle.requirement_certificate.proofs.laws.certificates_are_taken.Goals as goal

pub returns : goal.returns
returns c = certificate_taken c.printed_text.ensures.reads c.printed_text.ensures.printable
