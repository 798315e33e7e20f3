use Rattle.std.proofs.Common.{inl, inr, refl}
use Rattle.black_top.proofs.SystemSettling.{large_shown}
use Rattle.black_top.proofs.commands.system.join.Goals as goal

pub returns-in_default : goal.returns-in_default
returns-in_default c =
    large_shown c.args.options.depth c.args.options.cert c.args.start.now c.args.step.now c.args.goal.now _ c.refusal.result refl
    (inl c.in_default.is) c.refusal.ensures

pub returns-in_default-held : goal.returns-in_default-held
returns-in_default-held c =
    large_shown c.args.options.depth c.args.options.cert c.args.start.now c.args.step.now c.args.goal.now _ c.refusal-in_default-held.result refl
    (inr (inl c.in_default-held.is)) c.refusal-in_default-held.ensures

pub returns-in_default-held-2 : goal.returns-in_default-held-2
returns-in_default-held-2 c =
    large_shown c.args.options.depth c.args.options.cert c.args.start.now c.args.step.now c.args.goal.now _ c.refusal-in_default-held-2.result refl
    (inr (inr c.in_default-held-2.is)) c.refusal-in_default-held-2.ensures
