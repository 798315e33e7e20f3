-- How a truth value over a span of positions follows from that of the neighbour, and is swept over a row.
use Rattle.std.specs.Prelude.{ℕ, zero, suc, Bool, true, false, ◌&&◌, ◌||◌, List}
use Rattle.lasso_eval.specs.declared.span.Span.{Span}
use Rattle.lasso_eval.specs.declared.span.Span.TheVariants as spans
use Rattle.lasso_eval.specs.Rows.{cell}

-- an operator that has to be fulfilled is false beyond the end, the others are true there
abbrev pub beyond : Span → Bool
beyond spans.Until = false
beyond spans.StrongRelease = false
beyond spans.Eventually = false
beyond spans.Release = true
beyond spans.WeakUntil = true
beyond spans.Always = true

-- the value at a position, from the operands there and the value at the neighbour
abbrev pub step : Span → Bool → Bool → Bool → Bool
step spans.Until a b neighbour = b || (a && neighbour)
step spans.StrongRelease a b neighbour = (a && b) || (b && neighbour)
step spans.Eventually a b neighbour = b || neighbour
step spans.Release a b neighbour = b && (a || neighbour)
step spans.WeakUntil a b neighbour = (a || b) && (b || neighbour)
step spans.Always a b neighbour = b && neighbour

-- the value at a position, where the value this number of positions on is this
abbrev pub swept_back : Span → List Bool → List Bool → ℕ → ℕ → Bool → Bool
swept_back span a b zero at value = value
swept_back span a b (suc count) at value = step span (cell a at) (cell b at) (swept_back span a b count (suc at) value)

-- the value before a position, where before position 0 it is the one beyond the end
abbrev pub swept_before : Span → List Bool → List Bool → ℕ → Bool
swept_before span a b zero = beyond span
swept_before span a b (suc i) = step span (cell a i) (cell b i) (swept_before span a b i)
