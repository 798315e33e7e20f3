-- What the pieces of the ring's text are. No public contract cites this file.
use Rattle.std.specs.Prelude.{ℕ, ◌+◌, ◌-◌, List, ◌++◌, codes}
use Rattle.ltl_syntax.specs.Formula.{Formula}
use Rattle.ltl_syntax.specs.Print.{text_of}
use Rattle.enc_layout.specs.Letters.{below}
use Rattle.black_top.specs.Demo.{moves, returns, apart, place_behind}

-- a part, behind those to which it is joined
abbrev pub part_text : Formula → List ℕ
part_text f = codes " & " ++ text_of f ++ codes ")"

-- the move from place i of n
abbrev pub move_text : ℕ → ℕ → List ℕ
move_text n i = part_text (moves i (place_behind n i))

abbrev pub return_text : ℕ → List ℕ
return_text i = part_text (returns i)

-- place i, apart from the place k behind the next one
abbrev pub apart_text : ℕ → ℕ → List ℕ
apart_text i k = part_text (apart i (i + 1 + k))

-- place i, apart from each later one of n
abbrev pub later_text : ℕ → ℕ → List ℕ
later_text n i = below (n - (i + 1)) (apart_text i)
