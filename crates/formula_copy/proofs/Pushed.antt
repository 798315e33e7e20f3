-- A node more in a table: how much larger the table is, and that another node is not the new one's child.
use Rattle.std.proofs.Common.{◌≡◌, ℕ, ◌+◌, eqb, Bool, true, false, [], ◌∷◌, length, refl, ap, ◌∙◌, length-append}
use Rattle.std.proofs.lemmas.Bool.{eqb-true}
use Rattle.ltl_syntax.specs.declared.node.Node.{Node}
use Rattle.ltl_syntax.specs.Size.{sizes, node_size}
use Rattle.ltl_syntax.specs.Table.{Table, Pushes}
use Rattle.ltl_syntax.proofs.Sizes.{sizes-push}

pub pushed_size : {t t' : Table} {node : Node} → Pushes t node t' → sizes t'.nodes ≡ sizes t.nodes + node_size node
pushed_size {t} {t'} {node} p = ap sizes p.nodes ∙ sizes-push t.nodes node

pub pushed_length : {t t' : Table} {node : Node} → Pushes t node t' → length t'.nodes ≡ length t.nodes + 1
pushed_length {t} {t'} {node} p = ap length p.nodes ∙ length-append t.nodes (node ∷ [])

pub unequal : (m n : ℕ) → (m ≡ n → ⊥) → eqb m n ≡ false
unequal m n ne = go (eqb m n) refl
  where
    go : (b : Bool) → eqb m n ≡ b → b ≡ false
    go true e = absurd (ne (eqb-true m n e))
    go false e = refl
