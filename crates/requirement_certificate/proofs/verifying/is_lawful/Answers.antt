use Rattle.std.proofs.Common.{sym, subst}
use Rattle.ltl_syntax.specs.Table.{tree_at}
use Rattle.claims.specs.Lawful.{IsLawful}
use Rattle.claim_check.specs.Data.{certificate_in}
use Rattle.requirement_certificate.proofs.Judged.{none_so, read_lawful}
use Rattle.requirement_certificate.proofs.verifying.is_lawful.Goals as goal

pub returns : goal.returns
returns c =
    let kind = c.args.kind in
    let f = tree_at c.args.table.now c.args.root in
    let certificate = certificate_in c.in-Ok.certificate in
    none_so (λ h.
    let lawful = (read_lawful kind f c.args.text.now certificate c.texts.ensures.one c.in-Ok.ensures).0 h in
    let same = c.in_ok-check.ensures.lawful.1 (subst (λ g. IsLawful g kind certificate) (sym c.in_ok-closure.ensures.formula) lawful) in
    let other = c.in-Refused.is in
    absurd (cc))
