use Rattle.std.proofs.Common.{rules, refl}
use Rattle.std.proofs.lemmas.List.Elements.{Contains-append_right}
use Rattle.claim_check.proofs.targets.is_among.Goals as goal

pub returns-then-eq-2 : goal.returns-then-eq-2
returns-then-eq-2 c =
    (λ _. Contains-append_right c.args.claim.now c.args.others.now c.args.literal (search rules), λ _. refl)
