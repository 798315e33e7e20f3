use Rattle.std.proofs.Common.{◌≡◌, ◌+◌, ◌<◌, ◌∙◌, false, true, arith, length, length-set, refl, get_or}
use Rattle.core_extract.proofs.Members.{read}
use Rattle.core_extract.proofs.Tasks.{size_some, size_within}
use Rattle.core_extract.proofs.Marks.{cleared_none, cleared_more, mark_added}
use Rattle.core_extract.proofs.presenting.mark.Goals as goal

pub index_mut-requires : goal.index_mut-requires
index_mut-requires c =
    let there : c.args.place < length c.args.task.now.sizes.items = omega (arith, c.requires.task.long, c.requires.place) in
    let size = read c.args.task.now.sizes.items c.args.place c.index.result.now 0 there c.index.ensures in
    let end = size_within c.args.task.now c.requires.task c.args.place c.requires.place in
    let low : c.under.under < length c.under.marks.items = omega (arith, c.under-test.true, c.under.invariant.long, c.requires.long, size, end) in
    omega (arith, low)

pub index_mut-requires-2 : goal.index_mut-requires-2
index_mut-requires-2 c =
    let low : c.args.place < length c.under.marks.items = omega (arith, c.under.invariant.long, c.requires.long, c.requires.place) in
    omega (arith, low)

pub under-init : goal.under-init
under-init c = record { long = refl; cleared = cleared_none c.args.marks.now.items c.args.place }

pub under-preserved : goal.under-preserved
under-preserved c =
    let there : c.args.place < length c.args.task.now.sizes.items = omega (arith, c.requires.task.long, c.requires.place) in
    let size = read c.args.task.now.sizes.items c.args.place c.index.result.now 0 there c.index.ensures in
    let end = size_within c.args.task.now c.requires.task c.args.place c.requires.place in
    let low : c.under.under < length c.under.marks.items = omega (arith, c.under-test.true, c.under.invariant.long, c.requires.long, size, end) in
    record {
      long = length-set c.under.marks.items c.under.under false ∙ c.under.invariant.long;
      cleared =
          cleared_more c.args.marks.now.items c.under.marks.items c.args.place c.under.under (omega (arith, c.under.auto.under)) low c.under.invariant.cleared;
    }

pub returns-clause-added : goal.returns-clause-added
returns-clause-added c =
    let there : c.args.place < length c.args.task.now.sizes.items = omega (arith, c.requires.task.long, c.requires.place) in
    let size = read c.args.task.now.sizes.items c.args.place c.index.result.now 0 there c.index.ensures in
    let some = size_some c.args.task.now c.requires.task c.args.place c.requires.place in
    let le = c.under.auto.under-end (omega (arith, size, some)) in
    let low : c.args.place < length c.under.marks.items = omega (arith, c.under.invariant.long, c.requires.long, c.requires.place) in
    let behind : c.under.under ≡ c.args.place + get_or c.args.task.now.sizes.items c.args.place 0 = omega (arith, size, le, c.under-test.false) in
    mark_added c.args.task.now c.requires.task c.args.marks.now.items c.under.marks.items c.args.place c.under.under low behind c.requires.place
    c.under.invariant.cleared

pub returns-clause-long : goal.returns-clause-long
returns-clause-long c = length-set c.under.marks.items c.args.place true ∙ c.under.invariant.long
