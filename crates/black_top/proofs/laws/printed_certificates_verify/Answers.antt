use Rattle.std.proofs.Common.{refl, subst}
use Rattle.std.specs.Prelude.{Some}
use Rattle.cert_check.specs.declared.verdict.Verdict.TheVariants.{Verified}
use Rattle.command_words.specs.Words.{Solve, Check, kind_of, depth_of, core_of, cert_of}
use Rattle.black_top.specs.Answer.{unsat, checked}
use Rattle.black_top.specs.Check.{IsVerified}
use Rattle.black_top.specs.Run.{taken}
use Rattle.black_top.proofs.Asking.{command_given}
use Rattle.black_top.proofs.Certified.{printed_verifies}
use Rattle.black_top.proofs.laws.printed_certificates_verify.Goals as goal

pub returns : goal.returns
returns c solve check asked also text certificate depth core asks asks_check same answer =
    let printed = unsat depth core (Some certificate) in
    let verified = printed_verifies (kind_of asked) (depth_of asked) (core_of asked) (cert_of asked) text depth core certificate printed
    (command_given solve text (Solve asked) printed asks answer) refl in
    taken (Check also) (checked Verified) asks_check (subst (λ k. IsVerified k text (Some certificate)) same verified)
