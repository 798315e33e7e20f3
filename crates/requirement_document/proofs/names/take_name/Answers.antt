use Rattle.std.proofs.Common.{map, string_bytes, ap, ◌∙◌}
use Rattle.requirement_document.proofs.Naming.{name_more}
use Rattle.requirement_document.proofs.names.take_name.Goals as goal

pub returns : goal.returns
returns c = ap (map string_bytes) c.in_ok-insert.ensures.keys
    ∙ name_more string_bytes c.args.names.now.keys c.in_ok-own.own c.args.name.now c.in_ok-own.ensures.ok c.requires
