-- The depths of one node more.
use Rattle.std.proofs.Common.{◌≡◌, ℕ, ◌*◌, ◌≤◌, List, [], ◌∷◌, ◌++◌, length, arith}
use Rattle.ltl_syntax.specs.Table.{Table, tree_at}
use Rattle.ltl_word.specs.Depth.{past_depth}
use Rattle.lasso_eval.specs.Extent.{AreDepths}
use Rattle.lasso_eval.proofs.Pushing.{each_pushed, length_pushed}

pub depths_pushed : (table : Table) (xs : List ℕ) (v n : ℕ) → length xs ≡ n → AreDepths table xs → v ≡ past_depth (tree_at table n)
    → v ≤ 255 * n → AreDepths table (xs ++ v ∷ [])
depths_pushed table xs v n count known right small = record {
  right = λ i h. each_pushed 0 xs v n (λ k d. d ≡ past_depth (tree_at table k)) count (λ k low. known.right k (omega (arith, count, low))) right i
      (omega (arith, h, length_pushed xs v n count));
  small = λ i h. each_pushed 0 xs v n (λ k d. d ≤ 255 * k) count (λ k low. known.small k (omega (arith, count, low))) small i
      (omega (arith, h, length_pushed xs v n count));
}
