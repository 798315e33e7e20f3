use Rattle.requirement_answers.specs.declared.asking.Asking.TheVariants as askings
use Rattle.requirement_certificate.specs.Chosen.{of_conflict}
use Rattle.requirement_certificate.proofs.First.{by_replies, conflict_has, replies_have}
use Rattle.requirement_certificate.proofs.choosing.first_because.Goals as goal

pub returns-in-Some-clause-first : goal.returns-in-Some-clause-first
returns-in-Some-clause-first c = (askings.Together, of_conflict c.in-Some.because.now c.in-Some.ensures)

pub returns-in-Some-clause-there : goal.returns-in-Some-clause-there
returns-in-Some-clause-there c = conflict_has c.args.report.now c.args.scope c.in-Some.because.now c.requires c.in-Some.ensures

pub returns-clause-first : goal.returns-clause-first
returns-clause-first c = by_replies c.args.report.now c.args.scope (λ b. b.now) c.first_reply.result c.in_default.ensures c.first_reply.ensures

pub returns-clause-there : goal.returns-clause-there
returns-clause-there c = replies_have c.args.report.now (λ b. b.now) c.first_reply.result c.requires c.first_reply.ensures
