-- Sizes of entries are at most 16385, and so is the sum of those of a claim that fits.
use Rattle.std.proofs.Common.{◌≡◌, ℕ, ◌+◌, ◌<◌, ◌≤◌, false, sym, subst, arith, List, length, get_or, take, leb, All}
use Rattle.std.proofs.lemmas.Bool.{lt-leb}
use Rattle.std.proofs.lemmas.List.Sums.{sum_by_more_le}
use Rattle.std.proofs.lemmas.List.Elements.{All-from_get_or}
use Rattle.std.proofs.Math.Nat.{min-le_right}
use Rattle.ltl_syntax.specs.Formula.{Formula, nodes_in}
use Rattle.cnf_base.specs.declared.literal.Literal.{Literal}
use Rattle.claim_reading.specs.Readable.{entry_formula}
use Rattle.claim_reading.specs.Sizes.{AreSizes, literal_size, claim_size}

pub sizes_low : (f : Formula) (n : ℕ) (sizes : List ℕ) → AreSizes f n sizes → All (λ size. size ≤ 16385) sizes
sizes_low f n sizes are = All-from_get_or (λ size. size ≤ 16385) sizes 0 (λ k lt.
    subst (λ m. m ≤ 16385) (sym (are.each k (subst (λ m. k < m) are.count lt))) (min-le_right (nodes_in (entry_formula f (k + 1))) 16385))

-- a claim that is too large with one literal more
pub too_large : (sizes : List ℕ) (claim : List Literal) (i : ℕ) (d : Literal) → i < length claim
    → 16385 < claim_size sizes (take i claim) + literal_size sizes (get_or claim i d) → false ≡ leb (claim_size sizes claim) 16385
too_large sizes claim i d lt gt =
    let part = sum_by_more_le (literal_size sizes) claim i d lt in
    sym (lt-leb (claim_size sizes claim) 16385 (omega (arith, gt, part)))
