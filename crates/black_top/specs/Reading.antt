-- The answer to an input of two parts.
use Rattle.std.specs.Prelude.{ℕ, List}
use Rattle.ltl_syntax.specs.Formula.{Formula}
use Rattle.program_input.specs.Reading.{IsParted as IsPartedInto}
use Rattle.black_top.specs.Answer.{Answer, refused}

-- it has no separator, the formula part is refused, or the formula is accepted and its answer comes by the second part
abbrev pub IsParted : (Formula → List ℕ → Answer → Type 0) → List ℕ → Answer → Type 0
IsParted Claim bytes answer = IsPartedInto Answer refused Claim bytes answer
