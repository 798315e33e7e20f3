-- How many cells the evaluation of a formula on a trace takes.
use Rattle.std.specs.Prelude.{◌≡◌, ℕ, ◌+◌, ◌*◌, ◌<◌, length}
use Rattle.ltl_syntax.specs.Formula.{Formula, nodes_in}
use Rattle.ltl_word.specs.declared.trace.Trace.{Trace}
use Rattle.ltl_word.specs.declared.trace.Trace.TheVariants.{Infinite, Finite}
use Rattle.ltl_word.specs.Depth.{past_depth}

-- the positions that tell all about a formula of this past depth: the states of a finite trace, or the stem and one loop more than the depth
abbrev pub columns : Trace → ℕ → ℕ
columns (Infinite stem loop_part) depth = length stem + (depth + 1) * length loop_part
columns (Finite states) depth = length states

-- the position to which the columns come back: the first of the last loop, or the end of a finite trace
abbrev pub loop_start : Trace → ℕ → ℕ
loop_start (Infinite stem loop_part) depth = length stem + depth * length loop_part
loop_start (Finite states) depth = length states

-- the number of positions of the table of a formula
abbrev pub positions : Trace → Formula → ℕ
positions t f = columns t (past_depth f)

-- the number of cells of the table of a formula
abbrev pub cells : Trace → Formula → ℕ
cells t f = nodes_in f * positions t f

-- the greatest number of cells
abbrev pub max_cells : ℕ
max_cells = 67108864

-- a is the number of cells, and too many
abbrev pub AreTooMany : Trace → Formula → ℕ → Type 0
AreTooMany t f a = (a ≡ cells t f) × (max_cells < a)
