use Rattle.std.proofs.Common.{◌≡◌, string_bytes}
use Rattle.depast.specs.Names.{underscores}
use Rattle.depast.proofs.names.NewNames.new.Given as goal

abbrev pub invariant-loop : goal.invariant-loop
invariant-loop l = string_bytes l.prefix ≡ underscores l.counter
