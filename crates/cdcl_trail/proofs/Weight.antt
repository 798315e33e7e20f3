-- A number that falls with each entry put on the trail, and where a decision gives way to a forced entry.
use Rattle.std.proofs.Common.{◌≡◌, ◌≢◌, ℕ, zero, suc, ◌<◌, ◌≤◌, ◌+◌, ◌^◌, List, [], ◌∷◌, ◌++◌, Option, Some, None, length, refl, arith}
use Rattle.std.proofs.Math.Nat.{pow-suc}
use Rattle.cnf_base.specs.declared.literal.Hint.{Hint}
use Rattle.cdcl_trail.specs.declared.assigned.TrailEntry.{TrailEntry}

-- what an entry adds where n places are left behind it: a decision may still give way
abbrev pub open_choice : Option Hint → ℕ → ℕ
open_choice None n = 3 ^ n
open_choice (Some hint) n = 0

-- n places: each decision may give way, and the free places are still to be filled
abbrev pub weight : ℕ → List TrailEntry → ℕ
weight n [] = 3 ^ n
weight zero (e ∷ es) = 0
weight (suc n) (e ∷ es) = open_choice e.reason n + weight n es

power_pos : (n : ℕ) → 0 < 3 ^ n
power_pos zero = omega arith
power_pos (suc n) = omega (arith, pow-suc 3 n, power_pos n)

choice_most : (o : Option Hint) (n : ℕ) → open_choice o n ≤ 3 ^ n
choice_most None n = omega arith
choice_most (Some hint) n = omega arith

pub weight_pos : (n : ℕ) (es : List TrailEntry) → length es ≤ n → 0 < weight n es
weight_pos n [] fits = power_pos n
weight_pos zero (e ∷ es) fits = absurd (omega arith)
weight_pos (suc n) (e ∷ es) fits = omega (arith, weight_pos n es (omega arith))

-- one entry more
pub weight_push : (n : ℕ) (es : List TrailEntry) (e : TrailEntry) → length es < n → weight n (es ++ e ∷ []) < weight n es
weight_push zero es e fits = absurd (omega arith)
weight_push (suc n) [] e fits = omega (arith, pow-suc 3 n, power_pos n, choice_most e.reason n)
weight_push (suc n) (f ∷ es) e fits = omega (arith, weight_push n es e (omega arith))

-- a decision and all behind it give way to a forced entry
pub weight_jump : (n : ℕ) (es rest : List TrailEntry) (d e : TrailEntry) (hint : Hint) → d.reason ≡ None → e.reason ≡ Some hint
    → length (es ++ d ∷ rest) ≤ n → weight n (es ++ e ∷ []) < weight n (es ++ d ∷ rest)
weight_jump zero [] rest d e hint is_d is_e fits = absurd (omega arith)
weight_jump zero (f ∷ es) rest d e hint is_d is_e fits = absurd (omega arith)
weight_jump (suc n) [] rest d e hint is_d is_e fits =
    rw (is_d, is_e) (omega (arith, weight_pos n rest (omega arith)))
weight_jump (suc n) (f ∷ es) rest d e hint is_d is_e fits = omega (arith, weight_jump n es rest d e hint is_d is_e (omega arith))

pub weight_swap : (n : ℕ) (es rest : List TrailEntry) (d e : TrailEntry)
    → d.reason ≡ None → e.reason ≢ None → length (es ++ d ∷ rest) ≤ n → weight n (es ++ e ∷ []) < weight n (es ++ d ∷ rest)
weight_swap n es rest d e free forced fits = go e.reason refl
  where
    go : (o : Option Hint) → e.reason ≡ o → weight n (es ++ e ∷ []) < weight n (es ++ d ∷ rest)
    go None is = absurd (forced is)
    go (Some hint) is = weight_jump n es rest d e hint free is fits
