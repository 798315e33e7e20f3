-- A clause of a list by its index, over the numbers of letters, and the clauses of a few literals.
use Rattle.std.specs.Prelude.{ℕ, List, [], ◌∷◌, slice_index_or}
use Rattle.cnf_base.specs.declared.literal.Literal.{Literal}
use Rattle.cnf_base.specs.Literal.{opposite}
use Rattle.ltl_closure.specs.declared.entry.Entry.{Entry}
use Rattle.ltl_closure.specs.declared.entry.Entry.TheVariants as Is
use Rattle.enc_layout.specs.Letters.{LayoutValue}
use Rattle.enc_layout.specs.Clauses.{Clause, clauses_in}
use Rattle.clause_index.specs.declared.gate.GateLiterals.{GateLiterals}

abbrev pub row_at : LayoutValue → List Clause → ℕ → List Literal
row_at layout cs n = slice_index_or (clauses_in layout.kind layout.counts cs) n []

-- g is: not p
abbrev pub negation_rows : Literal → Literal → List (List Literal)
negation_rows g p = (g ∷ p ∷ []) ∷ (opposite g ∷ opposite p ∷ []) ∷ []

-- g is: a and b
abbrev pub and_rows : Literal → Literal → Literal → List (List Literal)
and_rows g a b = (opposite g ∷ a ∷ []) ∷ (opposite g ∷ b ∷ []) ∷ (g ∷ opposite a ∷ opposite b ∷ []) ∷ []

-- g is: b, or a and r
abbrev pub strong_rows : Literal → Literal → Literal → Literal → List (List Literal)
strong_rows g a b r = (g ∷ opposite b ∷ []) ∷ (g ∷ opposite a ∷ opposite r ∷ []) ∷ (opposite g ∷ b ∷ a ∷ []) ∷ (opposite g ∷ b ∷ r ∷ []) ∷ []

-- the gate of an entry over its literal and those of its operands and its request
abbrev pub gate_rows : Entry → GateLiterals → List (List Literal)
gate_rows Is.True o = (o.gate ∷ []) ∷ []
gate_rows Is.False o = (opposite o.gate ∷ []) ∷ []
gate_rows (Is.Letter n) o = []
gate_rows (Is.Fresh n) o = []
gate_rows (Is.NotLetter p) o = negation_rows o.gate o.left
gate_rows (Is.And a b) o = and_rows o.gate o.left o.right
gate_rows (Is.Or a b) o = and_rows (opposite o.gate) (opposite o.left) (opposite o.right)
gate_rows (Is.Until a b r) o = strong_rows o.gate o.left o.right o.request
gate_rows (Is.Since a b r) o = strong_rows o.gate o.left o.right o.request
gate_rows (Is.Release a b r) o = strong_rows (opposite o.gate) (opposite o.left) (opposite o.right) (opposite o.request)
gate_rows (Is.Trigger a b r) o = strong_rows (opposite o.gate) (opposite o.left) (opposite o.right) (opposite o.request)
gate_rows (Is.Next a w) o = []
gate_rows (Is.Yesterday a w) o = []

-- where the state is there, the request has the value of its argument
abbrev pub link_rows : Literal → Literal → Literal → List (List Literal)
link_rows here t s = (opposite here ∷ opposite t ∷ s ∷ []) ∷ (opposite here ∷ t ∷ opposite s ∷ []) ∷ []

-- where d is true, a and b differ, and where e is true, they are equal
abbrev pub comparison_rows : Literal → Literal → Literal → Literal → List (List Literal)
comparison_rows d e a b =
    (opposite d ∷ a ∷ b ∷ []) ∷ (opposite d ∷ opposite a ∷ opposite b ∷ []) ∷ (opposite e ∷ opposite a ∷ b ∷ []) ∷ (opposite e ∷ a ∷ opposite b ∷ []) ∷ []

-- u is: b
abbrev pub same_rows : Literal → Literal → List (List Literal)
same_rows u b = (opposite u ∷ b ∷ []) ∷ (u ∷ opposite b ∷ []) ∷ []

-- u is: b, or p
abbrev pub either_rows : Literal → Literal → Literal → List (List Literal)
either_rows u b p = (u ∷ opposite b ∷ []) ∷ (u ∷ opposite p ∷ []) ∷ (opposite u ∷ b ∷ p ∷ []) ∷ []

-- what is new is requested, fulfilled and not seen
abbrev pub new_rows : Literal → Literal → Literal → Literal → List (List Literal)
new_rows new request fulfilled seen = (opposite new ∷ request ∷ []) ∷ (opposite new ∷ fulfilled ∷ []) ∷ (opposite new ∷ opposite seen ∷ []) ∷ []
