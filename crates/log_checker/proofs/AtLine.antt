-- Which lines may be named at a line.
use Rattle.std.proofs.Common.{◌≡◌, ℕ, suc, ◌+◌, ◌-◌, ◌<◌, ◌≤◌, ◌⊎◌, inl, inr, Bool, true, false, ◌&&◌, nat_lt, List, [], length, get_or, slice_get, Some, None}
use Rattle.std.proofs.Common.{IsTrue, ◌↔◌, refl, sym, ap₂, ◌∙◌, subst, arith}
use Rattle.std.proofs.lemmas.Bool.{cases_eq, cond-true, cond-false}
use Rattle.std.proofs.lemmas.Bool.Decides.{Decides-ltb}
use Rattle.std.proofs.lemmas.Option.{slice_get-get_or}
use Rattle.cert_text.specs.Text.{Part}
use Rattle.cert_text.specs.Live.{lines_of, live_at, last_user}
use Rattle.cert_text.proofs.LiveLines.{live_to_user}
use Rattle.log_checker.specs.Judging.{IsFirstBad}

pub at_zero : (parts : List Part) (k n : ℕ) → n < 1 → live_at parts k n ≡ None
at_zero parts k n low = let e : n ≡ 0 = omega (arith, low) in subst (λ m. live_at parts k m ≡ None) (sym e) refl

lt_false : (a b : ℕ) → b ≤ a → nat_lt a b ≡ false
lt_false a b high = go (nat_lt a b) refl
  where
    go : (t : Bool) → nat_lt a b ≡ t → nat_lt a b ≡ false
    go true e = absurd (omega (arith, high, (Decides-ltb a b).0 e))
    go false e = e

and_false : (a b : Bool) → (a ≡ false) ⊎ (b ≡ false) → (a && b) ≡ false
and_false true b (inl e) = cc
and_false true b (inr e) = e
and_false false b h = refl

none_at : (parts : List Part) (line n k : ℕ) → n ≡ suc k → 1 ≤ line → line ≤ length (lines_of parts) → (line - 1 ≤ k) ⊎ (last_user parts k ≤ line - 1)
    → live_at parts (line - 1) n ≡ None
none_at parts line n k is low high out =
    subst (λ m. live_at parts (line - 1) m ≡ None) (sym is)
    (live_to_user parts k (line - 1) (omega (arith, low, high))
    ∙ cond-false (nat_lt k (line - 1) && nat_lt (line - 1) (last_user parts k)) (slice_get (lines_of parts) k) None
    (and_false (nat_lt k (line - 1)) (nat_lt (line - 1) (last_user parts k)) (elim out [
      | inl a ↦ inl (lt_false k (line - 1) a)
      | inr b ↦ inr (lt_false (line - 1) (last_user parts k) b)
    ])))

pub at_later : (parts : List Part) (line n : ℕ) → 1 ≤ line → line ≤ length (lines_of parts) → 1 ≤ n → line ≤ n → live_at parts (line - 1) n ≡ None
at_later parts line n low high some later = none_at parts line n (n - 1) (omega (arith, some)) low high (inl (omega (arith, later)))

pub at_past : (parts : List Part) (line n : ℕ) → 1 ≤ line → line ≤ length (lines_of parts)
    → 1 ≤ n → last_user parts (n - 1) < line → live_at parts (line - 1) n ≡ None
at_past parts line n low high some past = none_at parts line n (n - 1) (omega (arith, some)) low high (inr (omega (arith, past)))

pub at_live : (parts : List Part) (line n : ℕ) → 1 ≤ line → line ≤ length (lines_of parts) → 1 ≤ n → n < line → line ≤ last_user parts (n - 1)
    → live_at parts (line - 1) n ≡ Some (get_or (lines_of parts) (n - 1) [])
at_live parts line n low high some earlier live =
    let is : n ≡ suc (n - 1) = omega (arith, some) in
    subst (λ m. live_at parts (line - 1) m ≡ Some (get_or (lines_of parts) (n - 1) [])) (sym is)
    (live_to_user parts (n - 1) (line - 1) (omega (arith, low, high))
    ∙ cond-true (nat_lt (n - 1) (line - 1) && nat_lt (line - 1) (last_user parts (n - 1))) (slice_get (lines_of parts) (n - 1)) None
    (ap₂ ◌&&◌ ((Decides-ltb (n - 1) (line - 1)).1 (omega (arith, some, earlier)))
    ((Decides-ltb (line - 1) (last_user parts (n - 1))).1 (omega (arith, low, live))))
    ∙ slice_get-get_or (lines_of parts) (n - 1) [] (omega (arith, some, earlier, high)))

-- one more line is good
pub good_more : (Good : ℕ → Type 0) (from n : ℕ) (b : Bool) → IsFirstBad Good from n None → IsTrue b ↔ Good (n + 1 - 1)
    → b ≡ true → IsFirstBad Good from (n + 1) None
good_more Good from n b is law so k above below = elim (cases_eq k n) [
  | inl same ↦ let e : n + 1 - 1 ≡ k = omega (arith, same) in subst Good e (law.0 so)
  | inr other ↦ is k above (omega (arith, below, other))
]

-- the line is bad
pub bad_here : (Good : ℕ → Type 0) (from to n : ℕ) (b : Bool) → IsFirstBad Good from n None → IsTrue b ↔ Good (n + 1 - 1)
    → b ≡ false → from ≤ n → n < to → IsFirstBad Good from to (Some n)
bad_here Good from to n b is law bad low high =
    let e : n + 1 - 1 ≡ n = omega arith in
    (low, high, (λ good. clash (sym bad ∙ law.1 (subst Good (sym e) good))), is)
  where
    clash : false ≡ true → ⊥
    clash f = cc
