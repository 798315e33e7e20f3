-- By which rule a run closes: found by looking at its rows.
use Rattle.std.specs.Prelude.{ℕ, zero, suc, nat_lt, Bool, false, not, ◌&&◌, ◌||◌, length, Option, Some, is_some, if◌then◌else◌}
use Rattle.ltl_syntax.specs.declared.node.Kind.{Kind}
use Rattle.ltl_syntax.specs.declared.node.Kind.TheVariants as Kinds
use Rattle.ltl_run.specs.declared.run_state.Close.{Close}
use Rattle.ltl_run.specs.declared.run_state.Close.TheVariants as closes
use Rattle.demand.specs.Values.{value_at, difference, are_false, passes_below}
use Rattle.demand.specs.Rows.{Rows}
use Rattle.demand.specs.Nearest.{nearest, where_true}

-- the carries of two states are one
abbrev pub is_one_carry : Rows → ℕ → ℕ → Bool
is_one_carry rows l i = not (is_some (difference (rows l).carry (rows i).carry))

-- eventuality m + 1 is fulfilled after state l and up to state i
abbrev pub is_done : Rows → ℕ → ℕ → ℕ → Bool
is_done rows l zero m = false
is_done rows l (suc i) m = nat_lt l (suc i) && (is_done rows l i m || value_at (rows (suc i)).fulfilled m)

-- where eventuality m + 1 is pending at state k, it is fulfilled after state l
abbrev pub is_met : Rows → ℕ → ℕ → ℕ → Bool
is_met rows l k m = not (value_at (rows k).pending m) || is_done rows l k m

-- so it is with each eventuality
abbrev pub all_met : Rows → ℕ → ℕ → Bool
all_met rows l k = passes_below (length (rows k).pending) (is_met rows l k)

-- state k closes to state l: they have one carry, and what is pending at k is fulfilled in between
abbrev pub closes_to : Rows → ℕ → ℕ → Bool
closes_to rows l k = is_one_carry rows l k && all_met rows l k

-- and the rule by which it does
abbrev pub loop_to : Rows → ℕ → ℕ → Option Close
loop_to rows k l = where_true (closes_to rows l k) (Some (closes.Loop l))

-- the rule by which a run closes whose last state is k: by its end, or to the nearest state that k closes to
abbrev pub close_of : Kind → Rows → ℕ → Option Close
close_of Kinds.Infinite rows k = if are_false (rows k).refused then Some closes.Empty else nearest k (loop_to rows k)
close_of Kinds.Finite rows k = where_true (are_false (rows k).refused) (Some closes.End)
