use Rattle.std.proofs.Common.{refl}
use Rattle.report.specs.declared.status.Status.TheVariants as statuses
use Rattle.requirements_top.proofs.Promising.{given_not}
use Rattle.requirements_top.proofs.Wishing.{was_as_wished}
use Rattle.requirements_top.proofs.Certificates.{CertificateLaws, was_certified}
use Rattle.requirements_top.proofs.top.run.Goals as goal

pub returns-in-Ok-write_whole-clause-read_fault : goal.returns-in-Ok-write_whole-clause-read_fault
returns-in-Ok-write_whole-clause-read_fault g c is = absurd (given_not statuses.ReadFault refl c.in-Ok.ensures.given is)

pub returns-in-Ok-write_whole-clause-write_fault : goal.returns-in-Ok-write_whole-clause-write_fault
returns-in-Ok-write_whole-clause-write_fault g c is = absurd (given_not statuses.WriteFault refl c.in-Ok.ensures.given is)

pub returns-in-Ok-write_whole-clause-no_memory : goal.returns-in-Ok-write_whole-clause-no_memory
returns-in-Ok-write_whole-clause-no_memory g c is = absurd (given_not statuses.NoMemory refl c.in-Ok.ensures.given is)

pub returns-in-Ok-write_whole-clause-before_fault : goal.returns-in-Ok-write_whole-clause-before_fault
returns-in-Ok-write_whole-clause-before_fault g c is = absurd (given_not statuses.ReadFault refl c.in-Ok.ensures.given is)

pub returns-in-Ok-write_whole-clause-wished : goal.returns-in-Ok-write_whole-clause-wished
returns-in-Ok-write_whole-clause-wished g c good all = was_as_wished c.verdict_is_right.ensures c.in-Ok.ensures.given good all

pub returns-in-Ok-write_whole-clause-certified : goal.returns-in-Ok-write_whole-clause-certified
returns-in-Ok-write_whole-clause-certified g c name good asks =
    let laws : CertificateLaws = record {
      taken = c.certificates_are_taken.ensures;
      no_trace = c.nothing_satisfies.ensures;
      one_formula = c.one_outcome.ensures.one_formula;
    } in
    was_certified name laws c.in-Ok.ensures.given c.deref.ensures.value c.in-Ok-write_whole.ensures.ok good asks
