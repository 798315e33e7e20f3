use Rattle.std.proofs.Common.{◌++◌, map, ap, ◌∙◌}
use Rattle.requirement_document.specs.Values.{item_in}
use Rattle.requirement_document.specs.Inner.{defined_in}
use Rattle.requirement_document.proofs.whole.document_of.Goals as goal

pub returns-clause-ok : goal.returns-clause-ok
returns-clause-ok c =
    let a = c.in_ok-add_items.ensures.items in
    let b = c.in_ok-add_items-2.ensures.items in
    let d = c.in_ok-add_items-3.ensures.items in
    let e = c.in_ok-add_items-4.ensures.items in record {
      known = c.requires;
      kind = c.in_ok-kind.ensures.ok;
      definitions = defined_in c.in_ok-definitions.definitions.entries;
      defined = c.in_ok-definitions.ensures.ok;
      assume = a.0;
      assumed = a.1;
      require = b.0;
      required = b.1;
      allow = d.0;
      allowed = d.1;
      ensure = e.0;
      ensured = e.1;
      items =
          e.2 ∙ ap (λ is. is ++ e.0)
          (d.2 ∙ ap (λ is. is ++ d.0) (b.2 ∙ ap (λ is. is ++ b.0) (a.2 ∙ ap (λ is. map item_in is ++ a.0) c.new-items.ensures.items)));
      behaviours = c.in_ok-behaviours.ensures.ok;
    }
