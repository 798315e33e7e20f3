use Rattle.std.proofs.Common.{◌∙◌}
use Rattle.depast.proofs.Prefixes.{name_is}
use Rattle.depast.proofs.names.NewNames.name.Goals as goal

pub returns : goal.returns
returns c =
    name_is c.args.self.now.most c.args.number c.as_str-prefix.result.now _ (c.as_str-prefix.ensures.value ∙ c.args.self.now.begins) c.in_ok-name.ensures.ok
