use Rattle.std.proofs.Common.{sym, subst}
use Rattle.std.specs.Prelude.{Some}
use Rattle.cert_check.specs.declared.verdict.Verdict.TheVariants.{Verified}
use Rattle.command_words.specs.Words.{System, Check, depth_of, cert_of}
use Rattle.black_top.specs.Answer.{paths_hold, checked}
use Rattle.black_top.specs.Check.{IsChecked, with_certificate}
use Rattle.black_top.specs.Reading.{IsParted}
use Rattle.black_top.specs.Run.{taken}
use Rattle.black_top.proofs.Asking.{command_given}
use Rattle.black_top.proofs.Systems.{printed_system_verifies}
use Rattle.black_top.proofs.laws.printed_systems_verify.Goals as goal

pub returns : goal.returns
returns c system check asked also bytes depth proof asks asks_check infinite short answer =
    let printed = paths_hold depth (Some proof) in
    let verified = printed_system_verifies (depth_of asked) (cert_of asked) bytes depth proof
    (command_given system bytes (System asked) printed asks answer) short in
    taken (Check also) (checked Verified) asks_check
    (subst (λ k. IsParted (IsChecked k) (with_certificate proof.formula proof.certificate) (checked Verified)) (sym infinite) verified)
