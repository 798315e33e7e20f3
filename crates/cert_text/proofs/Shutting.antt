-- Lines are shut where deletes name them.
use Rattle.std.proofs.Common.{◌≡◌, ℕ, suc, ◌<◌, ◌==◌, ◌&&◌, ◌||◌, Bool, true, false, cond, List, ◌∷◌, ◌++◌, length, get_or, refl, sym, ap, ◌∙◌, []}
use Rattle.std.proofs.Common.{arith, append_assoc}
use Rattle.std.specs.List.{list_any}
use Rattle.std.proofs.lemmas.List.Folds.{list_any-append}
use Rattle.cert_text.specs.Text.{greatest_u64}
use Rattle.cert_text.specs.View.{IsShut}

-- the numbers that are gone through
pub record IsShutUpTo (numbers left : List ℕ) (count : ℕ) (old new : List ℕ) : Type 0 where
  pub past : List ℕ
  pub split : numbers ≡ past ++ left
  pub shut : IsShut past count old new

-- one more
pub shut_on : (ns : List ℕ) (n count : ℕ) (a b c : List ℕ) → IsShut ns count a b → IsShut (n ∷ []) count b c → IsShut (ns ++ n ∷ []) count a c
shut_on ns n count a b c one two = record {
  size = two.size ∙ one.size;
  each = λ k d low.
      (let low_b : k < length b = omega (arith, low, one.size) in
      two.each k d low_b
      ∙ ap (λ x. cond ((x == greatest_u64) && (n == suc k || false)) count x) (one.each k d low)
      ∙ twice (get_or a k d) (list_any (λ m. m == suc k) ns) (n == suc k || false)
      ∙ ap (λ t. cond ((get_or a k d == greatest_u64) && t) count (get_or a k d)) (sym (list_any-append (λ m. m == suc k) ns (n ∷ []))));
}
  where
    same : (t : Bool) → cond t count count ≡ count
    same true = refl
    same false = refl

    go : (e : Bool) (x : ℕ) → (x == greatest_u64) ≡ e → (s t : Bool)
        → cond ((cond (e && s) count x == greatest_u64) && t) count (cond (e && s) count x) ≡ cond (e && (s || t)) count x
    go false x is s t = ap (λ u. cond (u && t) count x) is
    go true x is true t = same ((count == greatest_u64) && t)
    go true x is false t = ap (λ u. cond (u && t) count x) is

    twice : (x : ℕ) (s t : Bool)
        → cond ((cond ((x == greatest_u64) && s) count x == greatest_u64) && t) count
        (cond ((x == greatest_u64) && s) count x) ≡ cond ((x == greatest_u64) && (s || t)) count x
    twice x s t = go (x == greatest_u64) x refl s t

pub up_to_more : (numbers left rest : List ℕ) (n count : ℕ) (a b c : List ℕ) → IsShutUpTo numbers left count a b → left ≡ n ∷ rest → IsShut (n ∷ []) count b c
    → IsShutUpTo numbers rest count a c
up_to_more numbers left rest n count a b c one is two = record {
  past = one.past ++ n ∷ [];
  split = one.split ∙ ap (λ x. one.past ++ x) is ∙ sym (append_assoc one.past (n ∷ []) rest);
  shut = shut_on one.past n count a b c one.shut two;
}
