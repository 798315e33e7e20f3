use Rattle.std.proofs.Common.{sym, ◌∙◌}
use Rattle.requirement_document.specs.Substitution.{found}
use Rattle.requirement_document.specs.Inner.{defined_in}
use Rattle.requirement_document.proofs.Finding.{found_some, among_defined}
use Rattle.requirement_document.proofs.defining.is_defined.Goals as goal

pub returns : goal.returns
returns c =
    let ds = defined_in c.args.definitions.now.entries in
    c.is_some.ensures ∙ found_some c.find.result (found ds c.args.name.now) c.find.ensures ∙ sym (among_defined ds c.args.name.now)
