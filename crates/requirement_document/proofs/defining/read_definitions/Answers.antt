use Rattle.std.proofs.Common.{[], map, subst}
use Rattle.toml.specs.View.{view}
use Rattle.requirement_document.specs.declared.fault.Section.TheVariants as sections
use Rattle.requirement_document.specs.Document.{AreDefined}
use Rattle.requirement_document.specs.Inner.{defined_in}
use Rattle.requirement_document.proofs.Listing.{define_on, value_there, whole}
use Rattle.requirement_document.proofs.Refusing.{refused_at}
use Rattle.requirement_document.proofs.defining.read_definitions.Goals as goal

pub each-preserved : goal.each-preserved
each-preserved c =
    let one = c.in-Ok.ensures.ok in
    let item = c.index-entries-index in
    define_on c.in_ok-entries.entries.now c.each.index item.result (defined_in c.each.definitions.entries) (defined_in c.add_definition.new.definitions.entries)
    one.0 c.each-test.true item.is c.each.invariant one.1 one.2

pub returns-in-Err-clause-err : goal.returns-in-Err-clause-err
returns-in-Err-clause-err c =
    let item = c.index-entries-index in
    let vs = c.in_ok-entries.entries.now in
    refused_at (view c.args.root.now) sections.Define c.each.index (map view vs) (view item.result) (map view vs) (defined_in c.each.definitions.entries)
    c.in-Err.refusal c.placed.result
    c.in_ok-entries.ensures.ok (value_there vs c.each.index item.result c.each-test.true item.is)
    c.in_ok-entries.ensures.ok c.each.invariant c.in-Err.ensures.err c.placed.ensures

pub returns-clause-ok : goal.returns-clause-ok
returns-clause-ok c =
    let vs = c.in_ok-entries.entries.now in (
      map view vs,
      c.in_ok-entries.ensures.ok,
      subst (λ ds. AreDefined [] ds (defined_in c.each.definitions.entries)) (whole vs c.each.index c.each-test.false) c.each.invariant,
    )
