-- The sections of a step's clauses, in their order.
use Rattle.std.specs.Prelude.{ℕ, ◌+◌, ◌*◌, List}
use Rattle.ltl_syntax.specs.declared.node.Kind.{Kind}
use Rattle.ltl_syntax.specs.Formula.{Formula}
use Rattle.enc_layout.specs.Clauses.{Clause, state_clauses, pairs_part, acceptance_part, pruning_part}
use Rattle.clause_index.specs.declared.sizes.Sizes.{Sizes}
use Rattle.clause_index.specs.declared.place.StepSection.{StepSection}
use Rattle.clause_index.specs.declared.place.StepSection.TheVariants as sections
use Rattle.clause_index.specs.Counts.{state_size, pairs_size, accept_size, prune_size}

-- the clauses of a section at step i
abbrev pub section_clauses : Formula → Kind → ℕ → StepSection → List Clause
section_clauses f kind i sections.States = state_clauses f i
section_clauses f kind i sections.Pairs = pairs_part f kind i
section_clauses f kind i sections.Acceptance = acceptance_part f kind i
section_clauses f kind i sections.Pruning = pruning_part f kind i

-- how many they are
abbrev pub section_size : Kind → Sizes → ℕ → StepSection → ℕ
section_size kind s i sections.States = state_size s i
section_size kind s i sections.Pairs = pairs_size kind s i
section_size kind s i sections.Acceptance = accept_size kind s
section_size kind s i sections.Pruning = i * prune_size kind s

-- the clauses of the step before them
abbrev pub before_section : Kind → Sizes → ℕ → StepSection → ℕ
before_section kind s i sections.States = 0
before_section kind s i sections.Pairs = state_size s i
before_section kind s i sections.Acceptance = state_size s i + pairs_size kind s i
before_section kind s i sections.Pruning = state_size s i + pairs_size kind s i + accept_size kind s
