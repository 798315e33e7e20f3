-- What the derived test of two literals says.
use Rattle.std.proofs.Common.{◌≡◌, ℕ, Bool, true, false, not, eqb, refl, sym, ap₂, ap}
use mathlib.Core.Bool.{false≢true, ◌&&◌, beq}
use Rattle.std.proofs.lemmas.Bool.{eqb-true}
use Rattle.cnf_base.specs.declared.literal.Literal.{Literal}
use Rattle.cnf_base.specs.Literal.{opposite}

both : (a b : Bool) → not (a && b) ≡ false → (a ≡ true) × (b ≡ true)
both true true e = (refl, refl)
both true false e = absurd (false≢true (sym e))
both false true e = absurd (false≢true (sym e))
both false false e = absurd (false≢true (sym e))

same_bool : (a b : Bool) → beq a b ≡ true → a ≡ b
same_bool true true e = refl
same_bool true false e = absurd (false≢true e)
same_bool false true e = absurd (false≢true e)
same_bool false false e = refl

-- two literals that `!=` does not tell apart are the same
pub same_literal : (a b : Literal) → not (eqb a.letter.0 b.letter.0 && beq a.negated b.negated) ≡ false → a ≡ b
same_literal a b e =
    let parts = both (eqb a.letter.0 b.letter.0) (beq a.negated b.negated) e in
    let make : ℕ → Bool → Literal = λ x n. record { letter = record { 0 = x }; negated = n } in
    ap₂ make (eqb-true a.letter.0 b.letter.0 parts.0) (same_bool a.negated b.negated parts.1)

pub not_not : (b : Bool) → not (not b) ≡ b
not_not true = refl
not_not false = refl

-- the opposite of the opposite
pub opposite_opposite : (l : Literal) → opposite (opposite l) ≡ l
opposite_opposite l = ap (λ n. let make : Literal = record { letter = l.letter; negated = n } in make) (not_not l.negated)
