use Rattle.std.proofs.Common.{ap, ◌∙◌, string_bytes, String, Global}
use Rattle.std.specs.Str.{bytes_eq}
use Rattle.indexmap.proofs.CallerLemmas.{insert_entry-new}
use Rattle.requirement_document.specs.Inner.{defined_in}
use Rattle.requirement_document.proofs.Finding.{not_there, defined_on}
use Rattle.requirement_document.proofs.defining.define.Goals as goal

pub returns : goal.returns
returns c =
    let es = c.args.definitions.now.entries in
    let new = insert_entry-new (λ (a : String Global) (b : String Global). bytes_eq (string_bytes a) (string_bytes b))
    c.args.definitions.now c.args.name c.args.tree (not_there es (string_bytes c.args.name) c.requires) in
    ap defined_in (c.in_ok-insert.ensures.entries ∙ new) ∙ defined_on es c.args.name c.args.tree
