use Rattle.std.proofs.Common.{◌≡◌, [], ◌++◌, map, Some, string_bytes, subst, sym, ap, ◌∙◌}
use Rattle.std.specs.Option.{unwrap_or}
use Rattle.toml.specs.View.{view}
use Rattle.requirement_document.specs.Values.{item_in}
use Rattle.requirement_document.specs.Document.{entries, section_of, taken_before, names_of, AreItems}
use Rattle.requirement_document.specs.Inner.{defined_in, IsPlaced}
use Rattle.requirement_document.proofs.Listing.{item_on, names_step, value_there, whole}
use Rattle.requirement_document.proofs.Refusing.{item_refused}
use Rattle.requirement_document.proofs.items.add_items.Goals as goal

pub each-preserved : goal.each-preserved
each-preserved c =
    let item = c.index-entries-index in
    let vs = c.in_ok-entries.entries.now in
    let taken = taken_before (section_of c.args.role) (view c.args.root.now) in
    let one = c.in-Ok.ensures.item in record {
      items = item_on c.args.role (defined_in c.args.definitions.now.entries) taken (map string_bytes c.each.names.keys) vs c.each.index item.result
          (map item_in c.args.items.now.items) (map item_in c.each.items.items) (map item_in c.add_item.new.items.items) one.0
          c.each-test.true item.is c.each.invariant.items c.each.invariant.names one.1 one.2;
      names = names_step taken vs c.each.index item.result (map string_bytes c.each.names.keys) (map string_bytes c.add_item.new.names.keys)
          c.each-test.true item.is c.each.invariant.names c.in-Ok.ensures.name;
    }

pub returns-in-Err-clause-err : goal.returns-in-Err-clause-err
returns-in-Err-clause-err c =
    let item = c.index-entries-index in
    let vs = c.in_ok-entries.entries.now in
    let root = view c.args.root.now in
    let d = c.requires.defined in
    let section = c.section_of-section in
    item_refused root c.args.role c.each.index (map view vs) (view item.result) d.0 (defined_in c.args.definitions.now.entries)
    (map string_bytes c.each.names.keys) c.in-Err.refusal c.placed.result
    (subst (λ s. entries s root ≡ Some (map view vs)) section.ensures c.in_ok-entries.ensures.ok)
    (value_there vs c.each.index item.result c.each-test.true item.is) d.1 d.2 c.each.invariant.names c.in-Err.ensures.err
    (subst (λ s. IsPlaced s c.each.index (view item.result) c.in-Err.refusal c.placed.result) section.ensures c.placed.ensures)

pub returns-clause-items : goal.returns-clause-items
returns-clause-items c =
    let vs = c.in_ok-entries.entries.now in
    let root = view c.args.root.now in
    let taken = taken_before (section_of c.args.role) root in
    let a = c.each.invariant.items in
    let w = subst (λ s. entries s root ≡ Some (map view vs)) c.section_of-section.ensures c.in_ok-entries.ensures.ok in (
      a.added,
      (
        map view vs,
        w,
        subst (λ ds. AreItems c.args.role (defined_in c.args.definitions.now.entries) taken ds a.added) (whole vs c.each.index c.each-test.false) a.items,
      ),
      a.behind,
    )

pub returns-clause-names : goal.returns-clause-names
returns-clause-names c =
    let vs = c.in_ok-entries.entries.now in
    let root = view c.args.root.now in
    let taken = taken_before (section_of c.args.role) root in
    let w : entries (section_of c.args.role) root ≡ Some (map view vs) =
    subst (λ s. entries s root ≡ Some (map view vs)) c.section_of-section.ensures c.in_ok-entries.ensures.ok in
    c.each.invariant.names ∙ ap (λ ds. taken ++ names_of ds) (whole vs c.each.index c.each-test.false) ∙ sym (ap (λ o. taken ++ names_of (unwrap_or o [])) w)
