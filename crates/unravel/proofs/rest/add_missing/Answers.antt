use Rattle.std.proofs.Common.{◌≡◌, ◌+◌, ◌-◌, ◌<◌, [], length, get_or, subst, ◌∙◌, arith, All, Contains}
use Rattle.std.proofs.lemmas.List.{take_all, map-id}
use Rattle.std.proofs.lemmas.Slice.Zip.{AllZip-map}
use Rattle.std.proofs.lemmas.List.Elements.{All-nil, All-contains}
use Rattle.std.proofs.lemmas.List.Sorted.{IsPermutation-sym, Contains-permutation}
use Rattle.unravel.specs.Putting.{list_of}
use Rattle.unravel.proofs.Putting.{more_none, more_then, there_next, named_there}
use Rattle.unravel.proofs.rest.add_missing.Goals as goal

pub numbers-init : goal.numbers-init
numbers-init c = record {
  more = more_none c.args.listed.now c.args.inputs.now c.requires;
  there = All-nil (Contains c.args.inputs.now.solver.log.inputs);
}

pub add-requires-clause-number : goal.add-requires-clause-number
add-requires-clause-number c = (omega arith, omega (arith, c.numbers-test.true, c.count-index-end.ensures))

-- the number is among the names, so its clause is among the inputs
pub numbers-preserved-then-is_among : goal.numbers-preserved-then-is_among
numbers-preserved-then-is_among c =
    let x = c.args.listed.now in
    let list = list_of x in
    let index = c.numbers.index in
    let low : index < length list = omega (arith, c.numbers-test.true, c.count-index-end.ensures) in
    let cur = c.numbers.inputs.solver.log.inputs in
    let names = c.args.inputs.now.names.items in
    let sorted = c.is_among.ensures c.if-is_among.true in
    let items = AllZip-map (λ n. n) names c.in_ok-there.there.items c.in_ok-there.ensures.cases.0 ∙ map-id names in
    let named : Contains names (index + 1) =
    subst (λ ns. Contains ns (index + 1)) items
    (Contains-permutation c.sort.new.self.items c.in_ok-there.there.items (index + 1)
    (IsPermutation-sym c.in_ok-there.there.items c.sort.new.self.items c.sort.ensures.permutation)
    (subst (λ ns. Contains ns (index + 1)) c.deref.ensures.value sorted)) in
    let back : index + 1 - 1 ≡ index = omega arith in
    let at = subst (λ n. Contains c.args.inputs.now.solver.log.inputs (get_or list n [])) back (named_there x c.args.inputs.now (index + 1) c.requires named) in
    let here = All-contains (Contains cur) c.args.inputs.now.solver.log.inputs (get_or list index []) c.numbers.invariant.more.kept at in
    record {
      more = c.numbers.invariant.more;
      there = there_next list cur cur index low c.numbers.invariant.there (more_none x c.numbers.inputs c.numbers.invariant.more.part).kept here;
    }

pub numbers-preserved : goal.numbers-preserved
numbers-preserved c =
    let x = c.args.listed.now in
    let list = list_of x in
    let index = c.numbers.index in
    let low : index < length list = omega (arith, c.numbers-test.true, c.count-index-end.ensures) in
    let new = c.add.new.self in
    let back : index + 1 - 1 ≡ index = omega arith in
    let here = subst (λ n. Contains new.solver.log.inputs (get_or list n [])) back c.in_ok-add.ensures.there in
    record {
      more = more_then x c.args.inputs.now c.numbers.inputs new c.numbers.invariant.more c.in_ok-add.ensures.more;
      there = there_next list c.numbers.inputs.solver.log.inputs new.solver.log.inputs index low c.numbers.invariant.there c.in_ok-add.ensures.more.kept here;
    }

pub returns-clause-whole : goal.returns-clause-whole
returns-clause-whole c =
    let list = list_of c.args.listed.now in
    subst (All (Contains c.numbers.inputs.solver.log.inputs)) (take_all c.numbers.index list (omega (arith, c.numbers-test.false, c.count-index-end.ensures)))
    c.numbers.invariant.there
