-- What is looked at of the states of a run: rows of truth values.
use Rattle.std.specs.Prelude.{ℕ, Bool, List, [], map, filter, Option, Some, None, slice_get}
use Rattle.ltl_syntax.specs.declared.node.Kind.{Kind}
use Rattle.ltl_syntax.specs.declared.node.Kind.TheVariants as Kinds
use Rattle.ltl_syntax.specs.Formula.{Formula}
use Rattle.ltl_closure.specs.Norm.{Norm}
use Rattle.ltl_closure.specs.Closure.{nexts, eventualities}
use Rattle.ltl_closure.specs.Run.{RunState, States, carry, is_pending, is_fulfilled}
use Rattle.enc_layout.specs.Clauses.{is_strong_next}
use Rattle.demand.specs.declared.row.Row.{Row as StoredRow}

-- of a state: the values of its carry, of each eventuality whether it is pending and whether it is fulfilled, and the values of the requests that
-- the end of a run refuses
pub record Row : Type 0 where
  pub carry : List Bool
  pub pending : List Bool
  pub fulfilled : List Bool
  pub refused : List Bool

-- the rows of a run, by the numbers of its states
abbrev pub Rows : Type 0
Rows = ℕ → Row

-- behind the last state of an infinite trace no request may be true, behind that of a finite one no strong next request
abbrev pub refused_requests : Formula → Kind → List Norm
refused_requests f Kinds.Infinite = nexts f
refused_requests f Kinds.Finite = filter is_strong_next (nexts f)

-- the row of a state
abbrev pub row_of : Formula → Kind → RunState → Row
row_of f kind s = record {
  carry = carry f s;
  pending = map (is_pending s) (eventualities f);
  fulfilled = map (is_fulfilled s) (eventualities f);
  refused = map s (refused_requests f kind);
}

-- the rows of a run
abbrev pub rows_of : Formula → Kind → States → Rows
rows_of f kind r i = row_of f kind (r i)

-- the values that a row stores
abbrev pub values_of : StoredRow → Row
values_of row = record { carry = row.carry.items; pending = row.pending.items; fulfilled = row.fulfilled.items; refused = row.refused.items }

-- and those of no row
abbrev pub values_if : Option StoredRow → Row
values_if (Some row) = values_of row
values_if None = record { carry = []; pending = []; fulfilled = []; refused = [] }

-- the rows of a list, by their places
abbrev pub rows_in : List StoredRow → Rows
rows_in rows i = values_if (slice_get rows i)
