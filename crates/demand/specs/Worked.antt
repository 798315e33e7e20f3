-- What is found in rows that were worked by hand. There are one place in a carry, one eventuality and one request.
use Rattle.std.specs.Prelude.{◌≡◌, Bool, true, false, List, [], ◌∷◌, slice_index_or, Some, None}
use Rattle.ltl_syntax.specs.declared.node.Kind.TheVariants as Kinds
use Rattle.ltl_run.specs.declared.run_state.Close.TheVariants as closes
use Rattle.demand.specs.Rows.{Row, Rows}
use Rattle.demand.specs.Values.{difference}
use Rattle.demand.specs.Closing.{close_of}
use Rattle.demand.specs.Pruning.{prunings_below}
use Rattle.demand.specs.declared.pruning.Pruning.TheVariants as prunings

abbrev pub row : Bool → Bool → Bool → Bool → Row
row carry pending fulfilled refused = record { carry = carry ∷ []; pending = pending ∷ []; fulfilled = fulfilled ∷ []; refused = refused ∷ [] }

-- rows of a list, the first one behind the last
abbrev pub listed : List Row → Rows
listed rows i = slice_index_or rows i (row false false false false)

-- pending throughout, and fulfilled where the argument says so
abbrev pub waiting : Bool → Bool → Row
waiting carry fulfilled = row carry true fulfilled true

pub record WorkedLooks : Type 0 where
  pub first_place : difference (true ∷ false ∷ true ∷ []) (true ∷ true ∷ false ∷ []) ≡ Some 1
  pub no_place : difference (true ∷ false ∷ []) (true ∷ false ∷ []) ≡ None
  -- no request is left
  pub by_end : close_of Kinds.Infinite (listed (waiting true false ∷ row true false false false ∷ [])) 1 ≡ Some closes.Empty
  -- carry 1, 0, 1, and fulfilled in between
  pub by_loop : close_of Kinds.Infinite (listed (waiting true false ∷ waiting false true ∷ waiting true false ∷ [])) 2 ≡ Some (closes.Loop 0)
  -- not fulfilled after state 0
  pub not_fulfilled : close_of Kinds.Infinite (listed (waiting true true ∷ waiting false false ∷ waiting true false ∷ [])) 2 ≡ None
  -- another carry
  pub not_equal : close_of Kinds.Infinite (listed (waiting false true ∷ waiting false true ∷ waiting true true ∷ [])) 2 ≡ None
  -- the nearest of two, and the one of two after which it is fulfilled
  pub nearest_loop : close_of Kinds.Infinite (listed (waiting true true ∷ waiting true true ∷ waiting true true ∷ [])) 2 ≡ Some (closes.Loop 1)
  pub farther_loop : close_of Kinds.Infinite (listed (waiting true false ∷ waiting true true ∷ waiting true false ∷ [])) 2 ≡ Some (closes.Loop 0)
  pub finite_end : close_of Kinds.Finite (listed (row true false false false ∷ [])) 0 ≡ Some closes.End
  pub finite_request : close_of Kinds.Finite (listed (waiting true true ∷ waiting true true ∷ [])) 1 ≡ None
  -- three times one carry, and nothing new
  pub third_time : prunings_below Kinds.Infinite (listed (waiting true false ∷ waiting true false ∷ waiting true false ∷ [])) 3
      ≡ (record { state = 2; by = prunings.Triple 0 1 }) ∷ []
  -- twice only
  pub second_time : prunings_below Kinds.Infinite (listed (waiting true false ∷ waiting true false ∷ [])) 2 ≡ []
  -- fulfilled between states 1 and 2 for the first time
  pub something_new : prunings_below Kinds.Infinite (listed (waiting true false ∷ waiting true false ∷ waiting true true ∷ [])) 3 ≡ []
  pub finite_pair : prunings_below Kinds.Finite (listed (waiting true true ∷ waiting false true ∷ waiting true true ∷ [])) 3
      ≡ (record { state = 2; by = prunings.Pair 0 }) ∷ []
  pub finite_none : prunings_below Kinds.Finite (listed (waiting true true ∷ waiting false true ∷ [])) 2 ≡ []
