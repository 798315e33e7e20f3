-- Literals of letters that stand evenly apart.
use Rattle.std.specs.Prelude.{ℕ, ◌+◌, ◌*◌, false, List, [], ◌∷◌}
use Rattle.cnf_base.specs.declared.literal.Literal.{Literal}
use Rattle.enc_layout.specs.Letters.{below}

-- the literal of a letter
abbrev pub plain : ℕ → Literal
plain n = record { letter = record { 0 = n }; negated = false }

-- the literals of a number of letters, each equally far behind the one before it
abbrev pub evenly : ℕ → ℕ → ℕ → List Literal
evenly first apart count = below count (λ k. plain (first + k * apart) ∷ [])
