use Rattle.std.proofs.Common.{◌≡◌, Err, ap}
use Rattle.cert_text.specs.declared.refused.CertRefused.TheVariants as refusals
use Rattle.cert_text.proofs.view.CertView.read_by.Goals as goal

pub returns-in-Err-clause-form : goal.returns-in-Err-clause-form
returns-in-Err-clause-form g c b e =
    let same : c.in-Err.refused ≡ refusals.Form b = cc in
    c.in-Err.ensures.form b (ap Err same)
