-- Literals.
use Rattle.std.specs.Prelude.{not}
use Rattle.cnf_base.specs.declared.literal.Literal.{Literal}

-- the literal that is true where this one is false
abbrev pub opposite : Literal → Literal
opposite l = record { letter = l.letter; negated = not l.negated }
