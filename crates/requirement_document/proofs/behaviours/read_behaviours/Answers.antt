use Rattle.std.proofs.Common.{map, string_bytes, subst}
use Rattle.toml.specs.View.{view}
use Rattle.requirement_document.specs.declared.fault.Section.TheVariants as sections
use Rattle.requirement_document.specs.Values.{behaviour_in}
use Rattle.requirement_document.specs.Document.{taken_before, AreBehaviours}
use Rattle.requirement_document.proofs.Listing.{behaviour_on, names_step, value_there, whole}
use Rattle.requirement_document.proofs.Refusing.{behaviour_refused}
use Rattle.requirement_document.proofs.behaviours.read_behaviours.Goals as goal

pub each-preserved : goal.each-preserved
each-preserved c =
    let item = c.index-entries-index in
    let vs = c.in_ok-entries.entries.now in
    let taken = taken_before sections.Behaviour (view c.args.root.now) in
    let one = c.in-Ok.ensures.behaviour in record {
      behaviours = behaviour_on taken (map string_bytes c.each.names.keys) vs c.each.index item.result (map behaviour_in c.each.behaviours.items)
          (map behaviour_in c.add_behaviour.new.behaviours.items) one.0
          c.each-test.true item.is c.each.invariant.behaviours c.each.invariant.names one.1 one.2;
      names = names_step taken vs c.each.index item.result (map string_bytes c.each.names.keys) (map string_bytes c.add_behaviour.new.names.keys)
          c.each-test.true item.is c.each.invariant.names c.in-Ok.ensures.name;
    }

pub returns-in-Err-clause-err : goal.returns-in-Err-clause-err
returns-in-Err-clause-err c =
    let item = c.index-entries-index in
    let vs = c.in_ok-entries.entries.now in
    let d = c.requires.defined in
    behaviour_refused (view c.args.root.now) c.each.index (map view vs) (view item.result) d.1.0 d.0 (map string_bytes c.each.names.keys)
    c.in-Err.refusal c.placed.result
    c.in_ok-entries.ensures.ok (value_there vs c.each.index item.result c.each-test.true item.is) d.1.1 d.1.2 c.each.invariant.names
    (c.in-Err.ensures.err d.0) c.placed.ensures

pub returns-clause-ok : goal.returns-clause-ok
returns-clause-ok c =
    let vs = c.in_ok-entries.entries.now in
    let taken = taken_before sections.Behaviour (view c.args.root.now) in (
      map view vs,
      c.in_ok-entries.ensures.ok,
      subst (λ ds. AreBehaviours taken ds (map behaviour_in c.each.behaviours.items)) (whole vs c.each.index c.each-test.false) c.each.invariant.behaviours,
    )
