use Rattle.std.proofs.Common.{◌∙◌}
use Rattle.cdcl_watches.specs.Watching.{code}
use Rattle.cdcl_watches.proofs.Added.{unpushed_is}
use Rattle.cdcl_watches.proofs.watches.link.Goals as goal

pub returns-in-Err-push-clause-refused : goal.returns-in-Err-push-clause-refused
returns-in-Err-push-clause-refused c =
    unpushed_is c.args.lists.now c.push-2.new.self c.pop-in-Err-push.new.self (code c.args.first) _ c.requires.first
    (c.in-Err-push.ensures ∙ (rw c.number.ensures at c.in-Ok.ensures)) (rw c.number-in-Err-push.ensures at c.pop-in-Err-push.ensures)
