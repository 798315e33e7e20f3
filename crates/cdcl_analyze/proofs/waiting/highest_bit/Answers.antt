use Rattle.std.proofs.Common.{◌≡◌, ℕ, suc, ◌-◌, ◌+◌, ◌^◌, ◌<◌, ◌≤◌, subst, arith}
use Rattle.std.specs.Int.Count.{count_leading_zeros}
use Rattle.std.proofs.lemmas.Nat.{leading_top}
use Rattle.cdcl_analyze.proofs.waiting.highest_bit.Goals as goal

top : (word : ℕ) → 0 < word → word < 2 ^ 64 → (2 ^ (63 - count_leading_zeros 64 word) ≤ word) × (word < 2 ^ (63 - count_leading_zeros 64 word + 1))
top word some fits =
    let (j, is, low, high) = leading_top 64 word some fits in
    let same : j ≡ 63 - count_leading_zeros 64 word = omega (arith, is) in
    let more : suc j ≡ 63 - count_leading_zeros 64 word + 1 = omega (arith, is) in
    (subst (λ k. 2 ^ k ≤ word) same low, subst (λ k. word < 2 ^ k) more high)

pub returns-clause-low : goal.returns-clause-low
returns-clause-low c = (top c.args.word c.requires (omega arith)).0

pub returns-clause-high : goal.returns-clause-high
returns-clause-high c = (top c.args.word c.requires (omega arith)).1
