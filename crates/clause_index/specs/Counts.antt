-- How many clauses the parts of a step have.
use Rattle.std.specs.Prelude.{ℕ, zero, suc, ◌+◌, ◌-◌, ◌*◌, ◌/◌, length, filter, nat_lt, if◌then◌else◌}
use Rattle.ltl_syntax.specs.declared.node.Kind.{Kind}
use Rattle.ltl_syntax.specs.declared.node.Kind.TheVariants as Kinds
use Rattle.ltl_syntax.specs.Formula.{Formula}
use Rattle.ltl_closure.specs.Closure.{closure, nexts, yesterdays, eventualities}
use Rattle.enc_layout.specs.Clauses.{gates_part, is_strong_next}
use Rattle.clause_index.specs.declared.sizes.Sizes.{Sizes}

-- what the counts of a formula's clauses follow from
abbrev pub sizes_of : Formula → Kind → Sizes
sizes_of f kind = record {
  kind = kind;
  gates = length (gates_part f 0);
  nexts = length (nexts f);
  yesterdays = length (yesterdays f);
  eventualities = length (eventualities f);
  strong = length (filter is_strong_next (closure f));
}

-- the places of a carry
abbrev pub place_count : Sizes → ℕ
place_count s = s.nexts + s.yesterdays

-- that a state has one before it, and the links to that one
abbrev pub chain_size : ℕ → ℕ
chain_size zero = 0
chain_size (suc j) = 1

abbrev pub link_size : Sizes → ℕ → ℕ
link_size s zero = 1 + s.yesterdays
link_size s (suc j) = 2 * s.nexts + 2 * s.yesterdays

-- all that a step says of its own state
abbrev pub state_size : Sizes → ℕ → ℕ
state_size s i = chain_size i + (s.gates + link_size s i)

-- a pair of states, with others between them or with none
abbrev pub pair_size : Kind → Sizes → ℕ
pair_size Kinds.Infinite s = 4 * place_count s + 2 + 4 * s.eventualities
pair_size Kinds.Finite s = 4 * place_count s + 1

abbrev pub near_size : Kind → Sizes → ℕ
near_size Kinds.Infinite s = 4 * place_count s + 2 + 3 * s.eventualities
near_size Kinds.Finite s = 4 * place_count s + 1

abbrev pub pairs_size : Kind → Sizes → ℕ → ℕ
pairs_size kind s zero = 0
pairs_size kind s (suc j) = j * pair_size kind s + near_size kind s

abbrev pub accept_size : Kind → Sizes → ℕ
accept_size Kinds.Infinite s = 1 + s.nexts
accept_size Kinds.Finite s = s.strong

-- what a pair of states says of pruning
abbrev pub prune_size : Kind → Sizes → ℕ
prune_size Kinds.Infinite s = 2 + 4 * s.eventualities
prune_size Kinds.Finite s = 1

abbrev pub step_size : Kind → Sizes → ℕ → ℕ
step_size kind s i = state_size s i + pairs_size kind s i + accept_size kind s + i * prune_size kind s

-- the steps before this one
abbrev pub before_step : Kind → Sizes → ℕ → ℕ
before_step kind s zero = 0
before_step kind s (suc m) =
    s.gates + (1 + s.yesterdays) + accept_size kind s
    + m * (1 + s.gates + (2 * s.nexts + 2 * s.yesterdays) + near_size kind s + accept_size kind s)
    + m * (m - 1) / 2 * pair_size kind s
    + suc m * (suc m - 1) / 2 * prune_size kind s

-- what a pair says of an eventuality's fulfilment
abbrev pub fulfilled_size : ℕ → ℕ → ℕ
fulfilled_size i l = if nat_lt (l + 1) i then 3 else 2

-- what the letters of fulfilment and of the loop mean
abbrev pub closing_size : Kind → Sizes → ℕ → ℕ → ℕ
closing_size Kinds.Infinite s i l = s.eventualities * fulfilled_size i l + (1 + s.eventualities)
closing_size Kinds.Finite s i l = 0
