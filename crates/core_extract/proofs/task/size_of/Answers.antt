use Rattle.std.proofs.Common.{arith}
use Rattle.core_extract.proofs.Tasks.{size_small}
use Rattle.core_extract.proofs.task.size_of.Goals as goal

pub overflow_add-result : goal.overflow_add-result
overflow_add-result c =
    let few =
    size_small c.args.table.now c.invariant.ensures c.args.sizes.now.items c.args.number c.in-Unary.a c.index.result.now c.requires.number c.requires.long
    c.requires.each c.in-Unary.ensures.below c.index.ensures in
    omega arith

pub overflow_add-result-in-Binary : goal.overflow_add-result-in-Binary
overflow_add-result-in-Binary c =
    let left =
    size_small c.args.table.now c.invariant.ensures c.args.sizes.now.items c.args.number c.in-Binary.a c.index-in-Binary.result.now c.requires.number
    c.requires.long c.requires.each c.in-Binary.ensures.below.0 c.index-in-Binary.ensures in
    let right =
    size_small c.args.table.now c.invariant.ensures c.args.sizes.now.items c.args.number c.in-Binary.b c.index-in-Binary-2.result.now c.requires.number
    c.requires.long c.requires.each c.in-Binary.ensures.below.1 c.index-in-Binary-2.ensures in
    omega arith

pub overflow_add-result-in-Binary-2 : goal.overflow_add-result-in-Binary-2
overflow_add-result-in-Binary-2 c =
    let left =
    size_small c.args.table.now c.invariant.ensures c.args.sizes.now.items c.args.number c.in-Binary.a c.index-in-Binary.result.now c.requires.number
    c.requires.long c.requires.each c.in-Binary.ensures.below.0 c.index-in-Binary.ensures in
    let right =
    size_small c.args.table.now c.invariant.ensures c.args.sizes.now.items c.args.number c.in-Binary.b c.index-in-Binary-2.result.now c.requires.number
    c.requires.long c.requires.each c.in-Binary.ensures.below.1 c.index-in-Binary-2.ensures in
    omega arith
