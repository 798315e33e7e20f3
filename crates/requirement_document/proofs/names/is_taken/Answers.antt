use Rattle.std.proofs.Common.{string_bytes, ◌∙◌}
use Rattle.requirement_document.proofs.Naming.{any_name}
use Rattle.requirement_document.proofs.names.is_taken.Goals as goal

pub returns : goal.returns
returns c = c.contains.ensures ∙ any_name string_bytes c.args.name.now c.args.names.now.keys
