use Rattle.std.proofs.Common.{arith, ap, sym, ◌∙◌, subst, false, ◌≡◌, length, length-append, ◌<◌, ◌+◌, ◌++◌, [], ◌∷◌}
use Rattle.std.proofs.lemmas.List.{get_or_read}
use Rattle.formula_copy.specs.Part.{marked, marked_size, sum_below}
use Rattle.formula_copy.specs.Copy.{numbers_in, done, IsCopied, HasGrown}
use Rattle.formula_copy.proofs.CopyLoop.{stands_on, room_for, copied_on, skipped, copied, grown_on, grown_skip, grown_all}
use Rattle.formula_copy.proofs.copying.copy.Goals as goal
use Rattle.formula_copy.proofs.copying.copy.Goals.{then-index+in_ok-copied, else-index}

pub copy_node-requires-clause-roots : goal.copy_node-requires-clause-roots
copy_node-requires-clause-roots c =
    let p = c.requires.part in
    let lt : c.nodes.number < length c.args.part.now.marks.items = omega (arith, p.count, c.nodes-test.true, c.nodes.auto.number-end) in
    stands_on c.args.part.now.table.now c.args.target.now c.nodes.target c.args.part.now.root c.nodes.number (marked c.args.part.now.marks.items)
    c.nodes.numbers.items p.under c.nodes.invariant.copied c.node.result
    c.invariant.ensures (record { is = c.node.ensures.node; tree = c.node.ensures.tree; fine = c.node.ensures.below; ordered = c.node.ensures.ordered })
    (sym (get_or_read c.args.part.now.marks.items c.nodes.number c.index.result.now lt c.index.ensures false) ∙ c.if-index.true)

pub copy_node-requires-clause-room : goal.copy_node-requires-clause-room
copy_node-requires-clause-room c =
    let p = c.requires.part in
    let lt : c.nodes.number < length c.args.part.now.marks.items = omega (arith, p.count, c.nodes-test.true, c.nodes.auto.number-end) in
    room_for c.args.part.now.table.now c.args.part.now.root c.nodes.number (marked c.args.part.now.marks.items)
    c.args.target.now c.nodes.target c.node.result c.args.part.now.size c.invariant.ensures p.there p.under (omega (arith, p.count, lt)) c.node.ensures.node
    (sym (get_or_read c.args.part.now.marks.items c.nodes.number c.index.result.now lt c.index.ensures false) ∙ c.if-index.true)
    p.size c.requires.room c.nodes.invariant.grown

pub nodes-preserved : goal.nodes-preserved
nodes-preserved c =
    let p = c.requires.part in
    let lt : c.nodes.number < length c.args.part.now.marks.items = omega (arith, p.count, c.nodes-test.true, c.nodes.auto.number-end) in
    let read = sym (get_or_read c.args.part.now.marks.items c.nodes.number c.index.result.now lt c.index.ensures false) in
    let longer : length c.push.new.self.items ≡ c.nodes.number + 1 =
    omega (arith, ap length c.in_ok-push.ensures.items, length-append c.nodes.numbers.items (c.if-index.copied ∷ []), c.nodes.invariant.count) in
    elim c.if-index.branch [
      | then-index+in_ok-copied w ↦ record {
        copied = subst (IsCopied c.args.part.now.table.now (done (marked c.args.part.now.marks.items) (c.nodes.number + 1)) (numbers_in c.push.new.self.items)
            c.args.target.now) (sym w.target-is)
            (copied_on c.args.part.now.table.now c.args.target.now c.nodes.target c.args.part.now.root c.nodes.number (marked c.args.part.now.marks.items)
            c.nodes.numbers.items p.under c.nodes.invariant.copied w.node.result
            c.invariant.ensures (record {
              is = w.node.ensures.node;
              tree = w.node.ensures.tree;
              fine = w.node.ensures.below;
              ordered = w.node.ensures.ordered;
            }) (read ∙ w.if-index.true)
            w.copy_node.new.target w.in_ok-copied.copied c.push.new.self.items w.in_ok-copied.ensures.copied c.nodes.invariant.count
            (c.in_ok-push.ensures.items ∙ ap (λ n. c.nodes.numbers.items ++ n ∷ []) w.copied-is));
        grown = subst (λ t. HasGrown c.args.target.now t
            (sum_below (marked_size c.args.part.now.table.now (marked c.args.part.now.marks.items)) (c.nodes.number + 1))) (sym w.target-is)
            (grown_on c.args.part.now.table.now c.args.part.now.root c.nodes.number (marked c.args.part.now.marks.items)
            c.args.target.now c.nodes.target w.copy_node.new.target w.node.result w.node.ensures.node (read ∙ w.if-index.true) c.nodes.invariant.grown
            w.in_ok-copied.ensures.grown);
        count = longer;
      }
      | else-index w ↦ record {
        copied = subst (IsCopied c.args.part.now.table.now (done (marked c.args.part.now.marks.items) (c.nodes.number + 1)) (numbers_in c.push.new.self.items)
            c.args.target.now) (sym w.target-is)
            (skipped c.args.part.now.table.now c.args.target.now c.nodes.target c.args.part.now.root c.nodes.number (marked c.args.part.now.marks.items)
            c.nodes.numbers.items p.under c.nodes.invariant.copied
            c.if-index.copied c.push.new.self.items (read ∙ w.if-index.false) c.nodes.invariant.count c.in_ok-push.ensures.items);
        grown = subst (λ t. HasGrown c.args.target.now t
            (sum_below (marked_size c.args.part.now.table.now (marked c.args.part.now.marks.items)) (c.nodes.number + 1))) (sym w.target-is)
            (grown_skip c.args.part.now.table.now c.args.part.now.root c.nodes.number (marked c.args.part.now.marks.items) c.args.target.now c.nodes.target
            (read ∙ w.if-index.false) c.nodes.invariant.grown);
        count = longer;
      }
    ]

pub returns-clause-copied : goal.returns-clause-copied
returns-clause-copied c =
    let p = c.requires.part in
    copied c.args.part.now.table.now c.args.target.now c.nodes.target c.args.part.now.root c.nodes.number c.index-2.result.now
    (marked c.args.part.now.marks.items) c.nodes.numbers.items c.invariant.ensures p.there p.under (omega (arith, c.nodes-test.false, c.nodes.auto.number-end))
    c.nodes.invariant.count c.index-2.ensures c.nodes.invariant.copied

pub returns-clause-grown : goal.returns-clause-grown
returns-clause-grown c =
    let p = c.requires.part in
    grown_all c.args.part.now.table.now c.args.part.now.root c.nodes.number (marked c.args.part.now.marks.items) c.args.target.now c.nodes.target
    c.args.part.now.size c.invariant.ensures p.there p.under (omega (arith, c.nodes-test.false, c.nodes.auto.number-end)) p.size c.nodes.invariant.grown
