-- A stack with one number more, and what a visit leaves of it.
use Rattle.std.proofs.Common.{◌≡◌, ℕ, ◌+◌, ◌<◌, List, [], ◌∷◌, ◌++◌, ◌∙◌, length, length-append, slice_get, Some, ap, ap₂, sym, arith, append_assoc, rules}
use Rattle.ltl_syntax.specs.declared.node.Node.{Node}
use Rattle.ltl_syntax.specs.Table.{Table, IsTable}
use Rattle.ltl_syntax.specs.Flat.{ordered, orders_of, order_at}
use Rattle.ltl_syntax.proofs.Orders.{node_order}
use Rattle.ltl_syntax.specs.Pending.{pending}

pub pending_push : (t : Table) (ws : List ℕ) (w : ℕ) → pending t (ws ++ w ∷ []) ≡ order_at t w ++ pending t ws
pending_push t [] w = search rules
pending_push t (x ∷ ws) w = ap (λ text. text ++ order_at t x) (pending_push t ws w) ∙ append_assoc (order_at t w) (pending t ws) (order_at t x)

pub order_of_node : (t : Table) (number : ℕ) (node : Node) → IsTable t.nodes t.names → slice_get t.nodes number ≡ Some node
    → order_at t number ≡ ordered (orders_of t) number node
order_of_node t number node is e = node_order t is number node e

-- a node goes to the front part, and its children to the stack
pub node_moves : (t : Table) (number : ℕ) (xs old new stack stack' : List ℕ) → new ≡ old ++ number ∷ [] → order_at t number ≡ number ∷ xs
    → pending t stack' ≡ xs ++ pending t stack → new ++ pending t stack' ≡ old ++ (order_at t number ++ pending t stack)
node_moves t number xs old new stack stack' is order rest =
    ap₂ (λ us vs. us ++ vs) is rest ∙ (append_assoc old (number ∷ []) (xs ++ pending t stack) ∙ ap (λ us. old ++ (us ++ pending t stack)) (sym order))

pub one_on : (t : Table) (stack stack' : List ℕ) (a : ℕ) → stack' ≡ stack ++ a ∷ [] → pending t stack' ≡ order_at t a ++ pending t stack
one_on t stack stack' a is = ap (pending t) is ∙ pending_push t stack a

pub two_on : (t : Table) (stack stack' stack'' : List ℕ) (a b : ℕ)
    → stack' ≡ stack ++ b ∷ [] → stack'' ≡ stack' ++ a ∷ [] → pending t stack'' ≡ (order_at t a ++ order_at t b) ++ pending t stack
two_on t stack stack' stack'' a b is is' = one_on t stack' stack'' a is'
    ∙ (ap (λ us. order_at t a ++ us) (one_on t stack stack' b is) ∙ sym (append_assoc (order_at t a) (order_at t b) (pending t stack)))

pub fewer_pending : (front front' rest rest' : List ℕ) → front' ++ rest' ≡ front ++ rest → length front' ≡ length front + 1 → length rest' < length rest
fewer_pending front front' rest rest' e n = let a = ap length e in let b = length-append front' rest' in let c = length-append front rest in omega arith
