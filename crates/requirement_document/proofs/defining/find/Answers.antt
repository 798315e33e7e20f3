use Rattle.std.proofs.Common.{string_bytes}
use Rattle.std.specs.Str.{bytes_eq}
use Rattle.std.specs.Map.{lookup}
use Rattle.requirement_document.specs.Substitution.{found}
use Rattle.requirement_document.specs.Inner.{defined_in}
use Rattle.requirement_document.proofs.Finding.{found_in, found_by}
use Rattle.requirement_document.proofs.defining.find.Goals as goal

pub returns : goal.returns
returns c =
    let es = c.args.definitions.now.entries in
    let name = c.args.name.now in
    found_by c.get.result (lookup (λ k. bytes_eq name (string_bytes k)) es) (found (defined_in es) name) c.get.ensures.value (found_in name es)
