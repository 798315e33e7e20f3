use Rattle.std.proofs.Common.{ℕ, zero, suc, ◌≡◌, ◌<◌, ◌≤◌, [], ◌∷◌, get_or, arith}
use Rattle.certificate_tests.proofs.texts.writes_with_deletes.Goals as goal

are_lines : (count : ℕ) → count ≡ 2 → (i : ℕ) → i < 2 → (0 < get_or (2 ∷ 2 ∷ []) i 0) × (get_or (2 ∷ 2 ∷ []) i 0 ≤ count)
are_lines count is zero low = (omega arith, omega (arith, is))
are_lines count is (suc zero) low = (omega arith, omega (arith, is))
are_lines count is (suc (suc i)) low = absurd (omega (arith, low))

pub trim-requires : goal.trim-requires
trim-requires g c = are_lines _ c.in_ok-log.ensures
