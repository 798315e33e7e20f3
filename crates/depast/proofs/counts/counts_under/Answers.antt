use Rattle.std.proofs.Common.{◌≡◌, ◌+◌, ◌<◌, ◌≤◌, ◌∙◌, inl, inr, [], ◌∷◌, length, length-append, ap, sym, subst, arith}
use Rattle.std.proofs.lemmas.Bool.{cases_lt}
use Rattle.std.proofs.lemmas.List.{get_or_default}
use Rattle.ltl_syntax.specs.Size.{formula_size}
use Rattle.ltl_syntax.specs.Table.{tree_at}
use Rattle.depast.specs.Counting.{IsCount, blank_count}
use Rattle.depast.proofs.Bounds.{counts_more}
use Rattle.depast.proofs.Trees.{Seen, IsSeen, small_tree}
use Rattle.depast.proofs.counts.counts_under.Goals as goal
use Rattle.depast.proofs.counts.counts_under.Goals.{In_ok-push}

-- the nodes that are read, with this one
seen_more : (c : In_ok-push) → Seen c.args.table.now (c.loop-number.number + 1)
seen_more c j lt = elim (cases_lt j c.loop-number.number) [
  | inl before ↦ c.loop-number.invariant.seen j before
  | inr after ↦
      let here : c.loop-number.number ≡ j = omega arith in
      subst (IsSeen c.args.table.now) here
      (record { node = c.node.result; there = c.node.ensures.node; tree = c.node.ensures.tree; below = c.node.ensures.below })
]

pub loop-number-preserved : goal.loop-number-preserved
loop-number-preserved c =
    let t = c.args.table.now in
    let long = c.loop-number.invariant.long in
    let number = c.loop-number.number in
    let few = small_tree c.args.table.now c.len-nodes.ensures.single c.loop-number.number (omega (arith, c.loop-number-test.true))
    (λ j lt. seen_more c j (omega arith)) in
    record {
      long =
          omega
          (arith, ap length c.in_ok-push.ensures.items, length-append c.loop-number.known.items (c.count_of-count.result ∷ []), c.loop-number.invariant.long);
      known = counts_more c.args.table.now c.loop-number.known.items c.push.new.self.items c.count_of-count.result c.in_ok-push.ensures.items
          c.loop-number.invariant.known
          (subst (λ f. IsCount f c.count_of-count.result) (sym c.node.ensures.tree ∙ ap (tree_at c.args.table.now) (sym c.loop-number.invariant.long))
          c.count_of-count.ensures)
          (subst (λ k. formula_size (tree_at c.args.table.now k) ≤ 16384) (sym c.loop-number.invariant.long)
          (omega (arith, few, c.size-size.ensures.size, c.size-size.ensures.few)));
      seen = seen_more c;
    }

pub returns-clause-count : goal.returns-clause-count
returns-clause-count c =
    let known = c.loop-number.invariant.known in
    let low : c.args.root < length c.loop-number.known.items = omega (arith, c.loop-number.invariant.long, c.loop-number-test.false) in
    subst (IsCount (tree_at c.args.table.now c.args.root))
    (get_or_default c.loop-number.known.items c.args.root blank_count c.index.result.now low ∙ sym c.index.ensures) (known.each c.args.root low)

pub returns-clause-small : goal.returns-clause-small
returns-clause-small c =
    let known = c.loop-number.invariant.known in
    known.small c.args.root (omega (arith, c.loop-number.invariant.long, c.loop-number-test.false))
