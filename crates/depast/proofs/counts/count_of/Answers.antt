use Rattle.std.proofs.Common.{◌+◌, ◌∙◌, length, ap, sym, subst, arith, slice_index_or, max}
use Rattle.ltl_syntax.specs.Table.{IsFine, tree_at, trees_of, made}
use Rattle.depast.specs.Counting.{IsCount, residue_size, residue_size₁, residue_size₂, axioms_size₁, axioms_size₂, blank_count}
use Rattle.depast.specs.Names.{most_leading}
use Rattle.depast.proofs.Bounds.{small_count}
use Rattle.depast.proofs.counts.count_of.Goals as goal

pub residue_size-requires : goal.residue_size-requires
residue_size-requires c =
    let low = subst (IsFine (length c.args.table.now.names) (length c.args.known.now)) c.in-Unary.is c.requires.below in
    let a = small_count c.args.table.now c.args.known.now c.in-Unary.a c.requires.known low in
    omega (arith, a.residue_few, a.axioms_few)

pub axioms_size-requires : goal.axioms_size-requires
axioms_size-requires c =
    let low = subst (IsFine (length c.args.table.now.names) (length c.args.known.now)) c.in-Unary.is c.requires.below in
    let a = small_count c.args.table.now c.args.known.now c.in-Unary.a c.requires.known low in
    omega (arith, a.residue_few, a.axioms_few)

pub overflow_add-result : goal.overflow_add-result
overflow_add-result c =
    let low = subst (IsFine (length c.args.table.now.names) (length c.args.known.now)) c.in-Unary.is c.requires.below in
    let a = small_count c.args.table.now c.args.known.now c.in-Unary.a c.requires.known low in
    omega (arith, a.residue_few, a.axioms_few)

pub joined_residue_size-requires : goal.joined_residue_size-requires
joined_residue_size-requires c =
    let low = subst (IsFine (length c.args.table.now.names) (length c.args.known.now)) c.in-Binary.is c.requires.below in
    let a = small_count c.args.table.now c.args.known.now c.in-Binary.a c.requires.known low.0 in
    let b = small_count c.args.table.now c.args.known.now c.in-Binary.b c.requires.known low.1 in
    omega (arith, a.residue_few, a.axioms_few, b.residue_few, b.axioms_few)

pub overflow_add-result-in-Binary : goal.overflow_add-result-in-Binary
overflow_add-result-in-Binary c =
    let low = subst (IsFine (length c.args.table.now.names) (length c.args.known.now)) c.in-Binary.is c.requires.below in
    let a = small_count c.args.table.now c.args.known.now c.in-Binary.a c.requires.known low.0 in
    let b = small_count c.args.table.now c.args.known.now c.in-Binary.b c.requires.known low.1 in
    omega (arith, a.residue_few, a.axioms_few, b.residue_few, b.axioms_few)

pub joined_axioms_size-requires : goal.joined_axioms_size-requires
joined_axioms_size-requires c =
    let low = subst (IsFine (length c.args.table.now.names) (length c.args.known.now)) c.in-Binary.is c.requires.below in
    let a = small_count c.args.table.now c.args.known.now c.in-Binary.a c.requires.known low.0 in
    let b = small_count c.args.table.now c.args.known.now c.in-Binary.b c.requires.known low.1 in
    omega (arith, a.residue_few, a.axioms_few, b.residue_few, b.axioms_few)

pub overflow_add-result-in-Binary-2 : goal.overflow_add-result-in-Binary-2
overflow_add-result-in-Binary-2 c =
    let low = subst (IsFine (length c.args.table.now.names) (length c.args.known.now)) c.in-Binary.is c.requires.below in
    let a = small_count c.args.table.now c.args.known.now c.in-Binary.a c.requires.known low.0 in
    let b = small_count c.args.table.now c.args.known.now c.in-Binary.b c.requires.known low.1 in
    omega (arith, a.residue_few, a.axioms_few, b.residue_few, b.axioms_few)

pub returns-in-Unary : goal.returns-in-Unary
returns-in-Unary c =
    let low = subst (IsFine (length c.args.table.now.names) (length c.args.known.now)) c.in-Unary.is c.requires.below in
    let a = c.requires.known.each c.in-Unary.a low in
    subst (λ n. IsCount (made c.args.table.now.names (trees_of c.args.table.now) n) (record {
      residue = c.residue_size.result;
      axioms = (slice_index_or c.args.known.now c.in-Unary.a blank_count).axioms + c.axioms_size.result;
      underscores = (slice_index_or c.args.known.now c.in-Unary.a blank_count).underscores;
    })) (sym c.in-Unary.is) (record {
      residue_is = c.residue_size.ensures ∙ ap (residue_size₁ c.in-Unary.op) a.residue_is;
      axioms_is = omega (arith, a.axioms_is, c.axioms_size.ensures.size ∙ ap (axioms_size₁ c.in-Unary.op) a.residue_is);
      underscores_are = a.underscores_are;
    })

pub returns-in-Binary : goal.returns-in-Binary
returns-in-Binary c =
    let low = subst (IsFine (length c.args.table.now.names) (length c.args.known.now)) c.in-Binary.is c.requires.below in
    let a = c.requires.known.each c.in-Binary.a low.0 in
    let b = c.requires.known.each c.in-Binary.b low.1 in
    subst (λ n. IsCount (made c.args.table.now.names (trees_of c.args.table.now) n) (record {
      residue = c.joined_residue_size.result;
      axioms = (slice_index_or c.args.known.now c.in-Binary.a blank_count).axioms + (slice_index_or c.args.known.now c.in-Binary.b blank_count).axioms
          + c.joined_axioms_size.result;
      underscores = c.max.result;
    })) (sym c.in-Binary.is) (record {
      residue_is = c.joined_residue_size.ensures ∙ (ap (λ r. residue_size₂ c.in-Binary.op r (slice_index_or c.args.known.now c.in-Binary.b blank_count).residue)
          a.residue_is ∙ ap (residue_size₂ c.in-Binary.op (residue_size (tree_at c.args.table.now c.in-Binary.a))) b.residue_is);
      axioms_is = omega (
        arith,
        a.axioms_is,
        b.axioms_is,
        c.joined_axioms_size.ensures.size
            ∙ (ap (λ r. axioms_size₂ c.in-Binary.op r (slice_index_or c.args.known.now c.in-Binary.b blank_count).residue) a.residue_is
            ∙ ap (axioms_size₂ c.in-Binary.op (residue_size (tree_at c.args.table.now c.in-Binary.a))) b.residue_is),
      );
      underscores_are = c.max.ensures ∙ (ap (λ n. max n (slice_index_or c.args.known.now c.in-Binary.b blank_count).underscores) a.underscores_are
          ∙ ap (max (most_leading (tree_at c.args.table.now c.in-Binary.a))) b.underscores_are);
    })
