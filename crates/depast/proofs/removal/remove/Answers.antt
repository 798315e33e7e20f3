use Rattle.std.proofs.Common.{◌≡◌, ◌+◌, ◌∙◌, [], ◌∷◌, ◌++◌, slice_index_or, ap, sym, subst, arith}
use Rattle.ltl_syntax.specs.Table.{tree_at}
use Rattle.depast.specs.Building.{letters_by}
use Rattle.depast.specs.Depast.{depast}
use Rattle.depast.specs.Names.{new_name}
use Rattle.depast.specs.Symbols.{Reads}
use Rattle.depast.proofs.Whole.{whole_reads, names_taken, count_fits, count_is, names_few}
use Rattle.depast.proofs.removal.remove.Goals as goal
use Rattle.depast.proofs.removal.remove.Goals.{After-deref-2}

whole : (c : After-deref-2)
    → Reads (letters_by c.args.table.now c.in_ok-names.names.most) c.deref-2.result.now [] (depast (tree_at c.args.table.now c.args.root) ∷ [])
whole c =
    whole_reads c.args.table.now c.in_ok-names.names.most (tree_at c.args.table.now c.args.root)
    c.in_ok-writer.writer c.deref-2.result.now c.in_ok-writer.ensures
    (c.in_ok-names.ensures ∙ c.in_ok-counts.ensures.count.underscores_are)
    (c.deref-2.ensures.value ∙ (c.in_ok-extend_from_slice.ensures.items ∙ ap (λ xs. c.in_ok-writer.writer.row.items ++ xs) c.deref.ensures.value))

pub overflow_add-size : goal.overflow_add-size
overflow_add-size c =
    omega (arith, count_fits (tree_at c.args.table.now c.args.root) c.in_ok-counts.counts c.in_ok-counts.ensures.count c.in_ok-counts.ensures.small)

pub written-requires-clause-few : goal.written-requires-clause-few
written-requires-clause-few c = names_few (tree_at c.args.table.now c.args.root) c.in_ok-counts.counts c.in_ok-counts.ensures.count c.if-size-gt-MAX_SIZE.false

pub build-requires : goal.build-requires
build-requires c = (depast (tree_at c.args.table.now c.args.root), whole c)

pub returns-clause-ok : goal.returns-clause-ok
returns-clause-ok c =
    let f = tree_at c.args.table.now c.args.root in
    let n = names_taken c.args.table.now (tree_at c.args.table.now c.args.root) c.in_ok-writer.writer c.in_ok-writer.ensures in
    record {
      root_is = c.in_ok-table.ensures.root;
      tree_is = c.in_ok-table.ensures.tree (depast (tree_at c.args.table.now c.args.root))
          (whole_reads c.args.table.now c.in_ok-names.names.most (tree_at c.args.table.now c.args.root)
          c.in_ok-writer.writer c.deref-2.result.now c.in_ok-writer.ensures
          (c.in_ok-names.ensures ∙ c.in_ok-counts.ensures.count.underscores_are)
          (c.deref-2.ensures.value ∙ (c.in_ok-extend_from_slice.ensures.items ∙ ap (λ xs. c.in_ok-writer.writer.row.items ++ xs) c.deref.ensures.value)));
      small = omega (arith, count_is (tree_at c.args.table.now c.args.root) c.in_ok-counts.counts c.in_ok-counts.ensures.count, c.if-size-gt-MAX_SIZE.false);
      names_are = record {
        count = c.in_ok-names-2.ensures.count ∙ n;
        each = λ k lt. subst (λ m. slice_index_or c.in_ok-names-2.names.items k [] ≡ new_name m k)
            (c.in_ok-names.ensures ∙ c.in_ok-counts.ensures.count.underscores_are) (c.in_ok-names-2.ensures.each k (omega (arith, lt, n)));
      };
    }

pub returns-clause-nodes : goal.returns-clause-nodes
returns-clause-nodes c a e = absurd (cc)

pub returns-then-size-gt-MAX_SIZE-clause-nodes : goal.returns-then-size-gt-MAX_SIZE-clause-nodes
returns-then-size-gt-MAX_SIZE-clause-nodes c a e =
    let same : c.in_ok-counts.counts.residue + c.in_ok-counts.counts.axioms ≡ a = cc in (
      sym same ∙ count_is (tree_at c.args.table.now c.args.root) c.in_ok-counts.counts c.in_ok-counts.ensures.count,
      omega (arith, same, c.if-size-gt-MAX_SIZE.true),
    )

pub invariant_of-result : goal.invariant_of-result
invariant_of-result c =
    let n = names_taken c.args.table.now (tree_at c.args.table.now c.args.root) c.in_ok-writer.writer c.in_ok-writer.ensures in
    let few = names_few (tree_at c.args.table.now c.args.root) c.in_ok-counts.counts c.in_ok-counts.ensures.count c.if-size-gt-MAX_SIZE.false in
    omega (arith, c.in_ok-names-2.ensures.count, n, few)
