use Rattle.std.proofs.Common.{◌+◌, length, refl, arith}
use Rattle.cert_text.proofs.Sought.{sought_is, sought_at, sought_nowhere}
use Rattle.cert_text.proofs.finding.find.Goals as goal

pub returns-in-None-clause-first : goal.returns-in-None-clause-first
returns-in-None-clause-first c =
    let bytes = c.args.bytes.now in
    sought_is bytes c.args.at c.args.byte (length bytes) (sought_nowhere bytes _ c.args.at c.args.byte c.requires refl c.in-None.ensures)
    (λ low. absurd (omega (arith, low)))

pub returns-in-Some-clause-first : goal.returns-in-Some-clause-first
returns-in-Some-clause-first c =
    let bytes = c.args.bytes.now in
    let found = sought_at bytes _ c.args.at c.args.byte c.in-Some.place c.requires refl c.in-Some.ensures in
    sought_is bytes c.args.at c.args.byte (c.args.at + c.in-Some.place) found.1 (λ low. found.2)

pub returns-in-Some-clause-stands : goal.returns-in-Some-clause-stands
returns-in-Some-clause-stands c = λ low. (sought_at c.args.bytes.now _ c.args.at c.args.byte c.in-Some.place c.requires refl c.in-Some.ensures).2
