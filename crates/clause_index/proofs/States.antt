-- The clauses of a state, by their indexes: the one that links it to the state before it, the gates, and the links.
use Rattle.std.proofs.Common.{◌≡◌, ℕ, ◌+◌, ◌<◌, arith, ap, sym, ◌∙◌, ◌++◌, length}
use Rattle.ltl_syntax.specs.declared.node.Kind.{Kind}
use Rattle.ltl_syntax.specs.Formula.{Formula}
use Rattle.enc_layout.specs.Letters.{LayoutValue}
use Rattle.enc_layout.specs.Clauses.{chain_part, gates_part, links_part, state_clauses}
use Rattle.clause_index.specs.Rows.{row_at}
use Rattle.clause_index.specs.Counts.{sizes_of, chain_size}
use Rattle.clause_index.proofs.Rows.{row_left, row_right}
use Rattle.clause_index.proofs.Sizing.{length-chain_part, length-gates_part, length-states}

module _ (layout : LayoutValue) (f : Formula) (i : ℕ) where
  pub chain_first : (index : ℕ) → index < chain_size i → row_at layout (chain_part i) index ≡ row_at layout (state_clauses f i) index
  chain_first index lt = sym (row_left layout.kind layout.counts (chain_part i) (gates_part f i ++ links_part f i) index (omega (arith, length-chain_part f i)))

  behind : (k index : ℕ) → chain_size i + k ≡ index → row_at layout (gates_part f i ++ links_part f i) k ≡ row_at layout (state_clauses f i) index
  behind k index is = sym (row_right layout.kind layout.counts (chain_part i) (gates_part f i ++ links_part f i) (chain_size i) k (length-chain_part f i))
      ∙ ap (row_at layout (state_clauses f i)) is

  pub gates_middle : (k index : ℕ) → k < length (gates_part f i)
      → chain_size i + k ≡ index → row_at layout (gates_part f i) k ≡ row_at layout (state_clauses f i) index
  gates_middle k index lt is = sym (row_left layout.kind layout.counts (gates_part f i) (links_part f i) k lt) ∙ behind k index is

  pub links_last : (gates k index : ℕ) → gates ≡ length (gates_part f 0)
      → chain_size i + (gates + k) ≡ index → row_at layout (links_part f i) k ≡ row_at layout (state_clauses f i) index
  links_last gates k index all is =
      sym (row_right layout.kind layout.counts (gates_part f i) (links_part f i) gates k (length-gates_part f i ∙ sym all)) ∙ behind (gates + k) index is
