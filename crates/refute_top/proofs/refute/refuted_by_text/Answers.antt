use Rattle.std.proofs.Common.{◌∙◌, true, refl, subst}
use Rattle.claims.specs.Lawful.{IsLawful}
use Rattle.claim_check.specs.Data.{certificate_in}
use Rattle.claim_text.specs.Text.{text_of}
use Rattle.refute_top.specs.Answer.{undecided}
use Rattle.refute_top.specs.Refuting.{IsFound, open_yet}
use Rattle.refute_top.proofs.Showing.{shown, certified_shown}
use Rattle.refute_top.proofs.refute.refuted_by_text.Goals as goal

pub returns-in-Err-Form : goal.returns-in-Err-Form
returns-in-Err-Form c = shown (IsFound c.args.closure.now.kind true c.args.closure.now.formula) undecided c.undecided.result open_yet c.undecided.ensures

pub returns-in-Verified : goal.returns-in-Verified
returns-in-Verified c =
    let value = c.args.closure.now in
    let certificate = certificate_in c.in-Ok.again in
    let lawful : IsLawful value.formula value.kind certificate =
    subst (λ k. IsLawful value.formula k certificate) c.kind.ensures (c.in_ok-check.ensures.lawful.0 c.in-Verified.is) in
    certified_shown value.kind value.formula certificate c.in_ok-out.out (record {
      status = c.in_ok-out.out.status;
      text = c.append.new.out;
    }) (text_of (certificate_in c.args.found.now)) c.deref.result.now c.len-start.result
    c.in_ok-out.ensures refl (c.len-start.ensures ∙ c.in_ok-out.out.text.ok.0) c.in_ok-append.ensures c.deref.ensures.value lawful c.in-Ok.ensures

pub returns-in-Refused : goal.returns-in-Refused
returns-in-Refused c =
    shown (IsFound c.args.closure.now.kind true c.args.closure.now.formula) undecided c.undecided-in-Refused.result open_yet c.undecided-in-Refused.ensures
