use Rattle.std.proofs.Common.{ap, ◌∙◌}
use Rattle.cdcl_watches.specs.Watching.{literal_of}
use Rattle.cdcl_watches.proofs.Codes.{literal_code}
use Rattle.cdcl_watches.proofs.watcher.watch.Goals as goal

pub returns-clause-blocker : goal.returns-clause-blocker
returns-clause-blocker c = ap literal_of c.encode.ensures ∙ literal_code c.args.blocker
