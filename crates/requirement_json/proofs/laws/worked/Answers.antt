use Rattle.std.proofs.Common.{refl}
use Rattle.std.specs.Str.{chars}
use Rattle.std.specs.Fmt.{digits}
use Rattle.serde_json.proofs.OnLiterals.{serde_json_on_literals}
use Rattle.requirement_json.proofs.laws.worked.Goals as goal

pub returns : goal.returns
unfolding serde_json_on_literals chars digits
returns c = record { breaks = refl; conflict = refl }
