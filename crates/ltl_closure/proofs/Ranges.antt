-- A range is iterates: where its first number is not above its second, it is N as often as the first says over a chain of what is left.
use Rattle.std.proofs.Common.{◌≡◌, ℕ, zero, suc, ◌-◌, ◌≤◌, refl, ap, arith}
use Rattle.ltl_closure.specs.Norm.{Norm, times, window, chain}

module _ (J : Norm → Norm → Norm) (z : Norm) (N : Norm → Norm) (c : Norm) where
  near : (m : ℕ) → window J z N zero m c ≡ chain J N m c
  near zero = refl
  near (suc m) = ap (λ g. J c (N g)) (near m)

  -- the places from a to b are a steps away, and b - a further ones
  pub iterated : (a b : ℕ) → a ≤ b → window J z N a b c ≡ times N a (chain J N (b - a) c)
  iterated zero b le = let e : b - 0 ≡ b = omega arith in rw e (near b)
  iterated (suc a) zero le = absurd (omega arith)
  iterated (suc a) (suc b) le = let e : suc b - suc a ≡ b - a = omega arith in rw e (ap N (iterated a b (omega arith)))
