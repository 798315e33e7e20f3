-- Counts that grow by one.
use Rattle.std.proofs.Common.{◌≡◌, ◌∙◌, ℕ, ◌+◌, ◌<◌, ◌≤◌, Bool, true, false, List, length, take, get_or, refl, sym, ap, arith, length-append}
use Rattle.std.specs.List.{count_by, filter, range_with_len}
use Rattle.std.proofs.lemmas.List.Sums.{count_by_more_yes, count_by_more_no}
use Rattle.requirement_answers.specs.Inner.{alone_if}
use Rattle.requirement_answers.specs.Counting.{one_if}
use Rattle.requirement_answers.proofs.Numbered.{filter_more}

pub at_most_one : (b : Bool) → one_if b ≤ 1
at_most_one true = omega arith
at_most_one false = omega arith

pub count_more : {X : Type 0} (p : X → Bool) (xs : List X) (k : ℕ) (d : X) (b : Bool) → k < length xs → b ≡ p (get_or xs k d)
    → count_by p (take k xs) + one_if b ≡ count_by p (take (k + 1) xs)
count_more p xs k d true lt e = sym (count_by_more_yes p xs k d lt (sym e))
count_more p xs k d false lt e = omega (arith, count_by_more_no p xs k d lt (sym e))

alone_length : (b : Bool) (k : ℕ) → length (alone_if b k) ≡ one_if b
alone_length true k = refl
alone_length false k = refl

pub given_more : (p : ℕ → Bool) (k : ℕ) (b : Bool) → b ≡ p k → length (filter p (range_with_len 0 k)) + one_if b ≡ length (filter p (range_with_len 0 (k + 1)))
given_more p k b e =
    let whole = ap length (filter_more p k) ∙ length-append (filter p (range_with_len 0 k)) (alone_if (p k) k) in
    omega (arith, whole, alone_length (p k) k, ap one_if e)
