-- The number of an entry is its place in the closure, from 1: the closure has no repeats.
use Rattle.std.proofs.Common.{◌≡◌, ℕ, zero, suc, ◌-◌, ◌<◌, ◌≤◌, Bool, true, false, IsTrue, inl, inr, refl, arith, ap, ◌∙◌, List, [], ◌∷◌, ◌++◌, length, get_or}
use Rattle.std.proofs.Common.{Contains, if◌then◌else◌, length-append}
use Rattle.std.proofs.lemmas.Bool.{cases_lt, or_parts}
use Rattle.std.proofs.lemmas.List.{get_or_append_left, get_or_at}
use Rattle.std.proofs.lemmas.List.Elements.{Contains-get_or}
use Rattle.ltl_syntax.specs.Formula.{Formula}
use Rattle.ltl_closure.specs.Norm.{Norm, pos_of}
use Rattle.ltl_closure.specs.Closure.{closure, walk, with_new, added, holds_entry, same}
use Rattle.ltl_closure.specs.Entries.{place_in}
use Rattle.ltl_closure.proofs.Lists.{Contains-nil, Contains-cons_cases}
use Rattle.ltl_closure.proofs.Entries.{same_is}
use Rattle.ltl_closure.proofs.Again.{same_self}

clash : (a : Bool) → IsTrue a → a ≡ false → ⊥
clash a h k = cc

pub place_from_one : (ys : List Norm) (e : Norm) → 0 < place_in ys e
place_from_one [] e = omega arith
place_from_one (y ∷ ys) e = pick (same y e)
  where
    pick : (b : Bool) → 0 < (if b then 1 else suc (place_in ys e))
    pick true = omega arith
    pick false = omega arith

pub place_within : (xs : List Norm) (e : Norm) → Contains xs e → place_in xs e ≤ length xs
place_within [] e h = absurd (Contains-nil e h)
place_within (x ∷ xs) e h = go (same x e) refl (place_within xs e)
  where
    go : (b : Bool) → same x e ≡ b → (Contains xs e → place_in xs e ≤ length xs) → (if b then 1 else suc (place_in xs e)) ≤ length (x ∷ xs)
    go true is r = omega arith
    go false is r = elim (Contains-cons_cases x xs e h) [
      | inl i ↦ absurd (clash (same x e) (same_self x e i) is)
      | inr c ↦ let le = r c in omega arith
    ]

-- the entry at its place
pub entry_place : (xs : List Norm) (e d : Norm) → Contains xs e → get_or xs (place_in xs e - 1) d ≡ e
entry_place [] e d h = absurd (Contains-nil e h)
entry_place (x ∷ xs) e d h = go (same x e) refl (λ r. entry_place xs e d r)
  where
    shift : (n : ℕ) → 0 < n → get_or (x ∷ xs) (suc n - 1) d ≡ get_or xs (n - 1) d
    shift zero lt = absurd (omega arith)
    shift (suc n) lt = let e : suc (suc n) - 1 ≡ suc n = omega arith in let f : suc n - 1 ≡ n = omega arith in rw (e, f) refl

    go : (b : Bool) → same x e ≡ b → (Contains xs e → get_or xs (place_in xs e - 1) d ≡ e) → get_or (x ∷ xs) ((if b then 1 else suc (place_in xs e)) - 1) d ≡ e
    go true is rest = same_is x e is
    go false is rest = elim (Contains-cons_cases x xs e h) [
      | inl i ↦ absurd (clash (same x e) (same_self x e i) is)
      | inr r ↦ shift (place_in xs e) (place_from_one xs e) ∙ rest r
    ]

pub place_left : (xs ys : List Norm) (e : Norm) → Contains xs e → place_in (xs ++ ys) e ≡ place_in xs e
place_left [] ys e h = absurd (Contains-nil e h)
place_left (x ∷ xs) ys e h = go (same x e) refl (λ r. place_left xs ys e r)
  where
    go : (b : Bool) → same x e ≡ b → (Contains xs e → place_in (xs ++ ys) e ≡ place_in xs e)
        → (if b then 1 else suc (place_in (xs ++ ys) e)) ≡ (if b then 1 else suc (place_in xs e))
    go true is rest = refl
    go false is rest = elim (Contains-cons_cases x xs e h) [
      | inl i ↦ absurd (clash (same x e) (same_self x e i) is)
      | inr r ↦ ap suc (rest r)
    ]

pub place_new : (xs : List Norm) (e : Norm) → holds_entry xs e ≡ false → place_in (xs ++ e ∷ []) e ≡ suc (length xs)
place_new [] e h = go (same e e) (same_self e e refl)
  where
    go : (b : Bool) → IsTrue b → ◌≡◌ {A = ℕ} (if b then 1 else 2) 1
    go true t = refl
    go false t = cc
place_new (x ∷ xs) e h =
    let w = or_parts (same x e) (holds_entry xs e) h in
    go (same x e) w.0 (place_new xs e w.1)
  where
    go : (b : Bool) → b ≡ false → place_in (xs ++ e ∷ []) e ≡ suc (length xs) → (if b then 1 else suc (place_in (xs ++ e ∷ []) e)) ≡ suc (suc (length xs))
    go true t r = cc
    go false t r = ap suc r

-- each member stands at its number
abbrev pub ArePlaced : List Norm → Type 0
ArePlaced xs = (k : ℕ) (d : Norm) → k < length xs → place_in xs (get_or xs k d) ≡ suc k

pub placed_push : (xs : List Norm) (e : Norm) → holds_entry xs e ≡ false → ArePlaced xs → ArePlaced (xs ++ e ∷ [])
placed_push xs e h p k d lt = elim (cases_lt k (length xs)) [
  | inl old ↦
      let r = get_or_append_left xs (e ∷ []) d k old in
      ap (place_in (xs ++ e ∷ [])) r ∙ (place_left xs (e ∷ []) (get_or xs k d) (Contains-get_or xs k d old) ∙ p k d old)
  | inr new ↦
      let size = length-append xs (e ∷ []) in
      let is : length xs ≡ k = omega arith in
      ap (place_in (xs ++ e ∷ [])) (get_or_at xs e [] d k is) ∙ (place_new xs e h ∙ ap suc is)
]

placed_added : (xs : List Norm) (e : Norm) → ArePlaced xs → ArePlaced (added xs e)
placed_added xs e p = go (holds_entry xs e) refl
  where
    go : (b : Bool) → holds_entry xs e ≡ b → ArePlaced (if b then xs else xs ++ e ∷ [])
    go true is = p
    go false is = placed_push xs e is p

placed_with_new : (kept xs : List Norm) → ArePlaced kept → ArePlaced (with_new kept xs)
placed_with_new kept [] p = p
placed_with_new kept (x ∷ xs) p = placed_with_new (added kept x) xs (placed_added kept x p)

pub closure_placed : (f : Formula) (k : ℕ) (d : Norm) → k < length (closure f) → place_in (closure f) (get_or (closure f) k d) ≡ suc k
closure_placed f = placed_with_new [] (walk (pos_of f)) (λ k d lt. absurd (omega arith))
