-- The parts of what the list says of a pair of steps.
use Rattle.std.specs.Prelude.{ℕ, ◌+◌, ◌*◌, ◌<◌, ⊤, List, [], ◌∷◌, ◌++◌, length}
use Rattle.ltl_syntax.specs.declared.node.Kind.{Kind}
use Rattle.ltl_syntax.specs.declared.node.Kind.TheVariants as Kinds
use Rattle.ltl_syntax.specs.Formula.{Formula}
use Rattle.ltl_closure.specs.Closure.{eventualities}
use Rattle.enc_layout.specs.Letters.{Unpruned, Equal, LoopTo, below}
use Rattle.enc_layout.specs.Clauses.{Clause, Plus, Minus, carried, place_clauses, equal_clause, fulfilled_clauses, loop_clause, seen_clauses, new_clauses}
use Rattle.enc_layout.specs.Clauses.{pruned_clause}
use Rattle.clause_index.specs.declared.sizes.Sizes.{Sizes}
use Rattle.clause_index.specs.declared.place.StepSection.TheVariants as sections
use Rattle.clause_index.specs.declared.numbers.PairPart.{PairPart}
use Rattle.clause_index.specs.declared.numbers.PairPart.TheVariants as parts
use Rattle.clause_index.specs.Counts.{place_count, state_size, pair_size, fulfilled_size}
use Rattle.clause_index.specs.Sections.{before_section}

-- the kind has such a part
abbrev pub IsPart : Formula → Kind → PairPart → Type 0
IsPart f kind (parts.Place q) = q < length (carried f)
IsPart f kind parts.Equal = ⊤
IsPart f Kinds.Infinite (parts.Fulfilment m) = m < length (eventualities f)
IsPart f Kinds.Infinite parts.Loop = ⊤
IsPart f Kinds.Infinite parts.Seen = ⊤
IsPart f Kinds.Finite (parts.Fulfilment m) = ⊥
IsPart f Kinds.Finite parts.Loop = ⊥
IsPart f Kinds.Finite parts.Seen = ⊥
IsPart f kind parts.Prune = ⊤

-- the clauses of a part of the pair l, i
abbrev pub part_clauses : Formula → Kind → ℕ → ℕ → PairPart → List Clause
part_clauses f kind i l (parts.Place q) = place_clauses f i l q
part_clauses f kind i l parts.Equal = equal_clause f i l ∷ []
part_clauses f kind i l (parts.Fulfilment m) = fulfilled_clauses f i l m
part_clauses f kind i l parts.Loop = (Minus (LoopTo l i) ∷ Plus (Equal l i) ∷ []) ∷ below (length (eventualities f)) (λ m. loop_clause f i l m ∷ [])
part_clauses f kind i l parts.Seen = seen_clauses f i l
part_clauses f Kinds.Infinite i l parts.Prune = below (length (eventualities f)) (new_clauses f i l) ++ pruned_clause f i l ∷ []
part_clauses f Kinds.Finite i l parts.Prune = (Minus Unpruned ∷ Minus (Equal l i) ∷ []) ∷ []

-- how many they are
abbrev pub part_size : Kind → Sizes → ℕ → ℕ → PairPart → ℕ
part_size kind s i l (parts.Place q) = 4
part_size kind s i l parts.Equal = 1
part_size kind s i l (parts.Fulfilment m) = fulfilled_size i l
part_size kind s i l parts.Loop = 1 + s.eventualities
part_size kind s i l parts.Seen = 1 + s.eventualities
part_size Kinds.Infinite s i l parts.Prune = 1 + 3 * s.eventualities
part_size Kinds.Finite s i l parts.Prune = 1

-- the clauses of step i before those of the pair, and before those of the part
abbrev pub before_pair : Kind → Sizes → ℕ → ℕ → ℕ
before_pair kind s i l = state_size s i + l * pair_size kind s

abbrev pub before_part : Kind → Sizes → ℕ → ℕ → PairPart → ℕ
before_part kind s i l (parts.Place q) = before_pair kind s i l + q * 4
before_part kind s i l parts.Equal = before_pair kind s i l + place_count s * 4
before_part kind s i l (parts.Fulfilment m) = before_pair kind s i l + place_count s * 4 + 1 + m * fulfilled_size i l
before_part kind s i l parts.Loop = before_pair kind s i l + place_count s * 4 + 1 + s.eventualities * fulfilled_size i l
before_part kind s i l parts.Seen = before_section kind s i sections.Pruning + l * (1 + s.eventualities)
before_part Kinds.Infinite s i l parts.Prune = before_section Kinds.Infinite s i sections.Pruning + i * (1 + s.eventualities) + l * (1 + 3 * s.eventualities)
before_part Kinds.Finite s i l parts.Prune = before_section Kinds.Finite s i sections.Pruning + l
